-- The last of the fields that are present decides.
use mathlib.Core.Path.{◌∙◌, ◌≡◌, sym}
use Prim.Native.Nat.{◌+◌, ◌*◌, ◌-◌, ◌<◌}
use native.Mathlib.Omega.{arith}
use borrow.Author.Tests.{ltb-true}
use Rattle.layout.specs.Octets.{null16}
use Rattle.layout.specs.Book.{end, need}
use Rattle.layout.proofs.Fields.{need_within}
use Rattle.layout.proofs.Results.{and_left, and_right}
use Rattle.prepared.specs.Positions.{field_at, fields_from, many_fields, shape_at}
use Rattle.prepared.proofs.Needs.{need_here, need_none}
use Rattle.prepared.proofs.Open.{field_here}
use Rattle.prepared.proofs.older_need.Goals as goal
use Rattle.prepared.proofs.older_need.Goals.{Else-n-eq0}

-- Its end is the need, which is no more than the block's length.
last_ends : (c : Else-n-eq0) → let a = c.args in
    need a.v (shape_at a.p.now a.a)
    ≡ end (field_at a.p.now (fields_from a.p.now a.a + 7 * (c.older_fields-n.result - 1)))
last_ends c =
    let there = c.older_fields-n.ensures in
    let some-are : 0 < c.older_fields-n.result = omega arith in
    there.need ∙ need_here _ _ _ _ _ _ some-are (there.last some-are)

pub returns-then-n-eq0 : goal.returns-then-n-eq0
returns-then-n-eq0 c =
    sym (rw c.if-n-eq0.true at c.older_fields-n.ensures.need ∙ need_none _ _ _ _ _)

pub end_of-requires : goal.end_of-requires
end_of-requires c =
    let p = c.args.p.now in
    let a = c.args.a in
    let block = c.requires in
    let few = c.older_fields-n.ensures.few in
    let left = many_fields p a - (c.older_fields-n.result - 1) in (
      field_here p a left _ _ block (omega arith) (omega arith) (omega arith) (omega (arith, c.number.ensures)),
      omega (
        arith,
        last_ends (goal.at.end_of-requires c).Else-n-eq0,
        need_within c.args.v _ 0 0 (shape_at p a).fields (and_right _ _ block.good) (omega arith),
        ltb-true (shape_at p a).length null16 (and_left _ _ block.good),
      ),
    )

pub returns : goal.returns
returns c =
    c.end_of.ensures ∙ sym (last_ends (goal.at.returns c).Else-n-eq0)

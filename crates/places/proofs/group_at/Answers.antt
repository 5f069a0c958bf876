-- The groups before it were read, so the walk past them ends where it stands.
use mathlib.Core.Path.{sym, ◌∙◌}
use native.Mathlib.Omega.{arith}
use Rattle.prepared.specs.Positions.{many_groups, groups_from, is_big}
use Rattle.walk.specs.Walks.{row_at}
use Rattle.places.specs.Elements.{group_read}
use Rattle.places.proofs.Elements.{GroupHere, done_ok, group_here, groups_before}
use Rattle.places.proofs.group_at.Goals as goal
use Rattle.places.proofs.group_at.Goals.{After-number-2}

-- What the group is, by the since that is read.
here : (c : After-number-2) → let s = c.args in let m = s.m.now in let p = m.book.now in
    GroupHere (is_big p) m.octets.now m.version c.number-2.result c.unwrap-passed.result.next
    (group_read s.k (row_at p s.depth (many_groups p s.a) (groups_from p s.a) m.octets.now m.version 0 s.start))
here c =
    let pre = c.requires in
    rw (c.number-2.ensures, c.group_place-group.ensures.place)
    (group_here _ _ _ pre.0 _ _ _ _ pre.2 pre.3 _
    (sym c.unwrap-passed.ensures ∙ rw c.number.ensures at c.pass_row.ensures.value))

pub unwrap-passed-requires : goal.unwrap-passed-requires
unwrap-passed-requires c =
    let pre = c.requires in
    rw (c.pass_row.ensures.value, c.number.ensures)
    (done_ok _ (groups_before _ _ _ pre.0 _ _ _ _ pre.2 pre.3))

pub returns-then-m-number : goal.returns-then-m-number
returns-then-m-number c =
    sym ((here (goal.at.returns-then-m-number c).After-number-2).absent c.if-m-number.true)

pub sizes_at-sizes-requires : goal.sizes_at-sizes-requires
sizes_at-sizes-requires c =
    omega (arith, (here (goal.at.sizes_at-sizes-requires c).After-number-2).present c.if-m-number.false)

pub returns : goal.returns
returns c =
    rw (c.sizes_at-sizes.ensures.1.value, c.is_big.ensures)
    (sym ((here (goal.at.returns c).After-number-2).present c.if-m-number.false).1)

-- Only a number that the list lacks changes.
use mathlib.Core.Path.{◌≡◌, refl}
use Prim.Native.Nat.{ℕ, ◌+◌}
use Rattle.std.proofs.Common.{eq-eqb, rules}
use Rattle.layout.specs.Result.{when◌then◌else◌}
use Rattle.layout.specs.Lists.{Names, beside, has, is_listed}
use Rattle.layout.specs.declared.Answer.{Answer}
use Rattle.layout.specs.declared.Answer.TheVariants.{Absent, Group, Null, Number, Octets, OutOfRange, Unlisted}
use Rattle.layout.specs.BookRules.{word}
use Rattle.prepared.specs.Names.{HasNames, names_at}
use Rattle.prepared.proofs.Names.{names_free, names_here}
use Rattle.names.proofs.beside.Goals as goal
use Rattle.names.proofs.beside.Goals.{Joined-list-eq0, else-list-eq0, then-list-eq0}

-- The kinds of answer that are no number.
other : (l : Names) (a : Answer) → ((x : ℕ) → a ≡ Number x → ⊥) → a ≡ beside l a
unfolding beside
other l (Number x) h = absurd (h x refl)
other l Null h = refl
other l (Octets start len) h = refl
other l Absent h = refl
other l (Group entries) h = refl
other l (OutOfRange x) h = refl
other l (Unlisted x) h = refl

pub returns-in_default : goal.returns-in_default
returns-in_default c =
    search (rules, other)

-- The test is whether the names that the table's place leads to have the number.
test_is : (c : Joined-list-eq0) → let a = c.args in
    c.if-list-eq0.value ≡ has (names_at a.p.now (word a.p.now (a.t + 5))) c.in-Number.x
unfolding is_listed
test_is c =
    let a = c.args in
    let here = c.number-list.ensures in
    let leads : HasNames a.p.now c.number-list.result (names_at a.p.now (word a.p.now (a.t + 5))) =
    record { list = rw here c.requires.1; names = rw here refl } in
    elim c.if-list-eq0.branch [
      | then-list-eq0 w ↦ let none = names_free leads w.if-list-eq0.true in
          rw (w.value-is, none) (eq-eqb _ 0 w.if-list-eq0.true)
      | else-list-eq0 w ↦ let some-are = names_here leads w.if-list-eq0.false in
          rw (w.value-is, w.has.ensures, some-are) refl
    ]

pub returns-then-has : goal.returns-then-has
unfolding beside when◌then◌else◌
returns-then-has c =
    let is = test_is (goal.at.returns-then-has c).Joined-list-eq0 in rw (c.in-Number.is, ← is, c.if-has.true) refl

pub returns-else-has : goal.returns-else-has
unfolding beside when◌then◌else◌
returns-else-has c =
    let is = test_is (goal.at.returns-else-has c).Joined-list-eq0 in rw (c.in-Number.is, ← is, c.if-has.false) refl

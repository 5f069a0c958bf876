-- Where the list is found.
use Rattle.std.proofs.Common.{sym, ◌∙◌, arith}
use Rattle.prepare.proofs.Lists.{PlacedAt, no_list_lem, placed_at, placed_nowhere}
use Rattle.prepare.proofs.place_of.Goals as goal
use Rattle.prepare.proofs.place_of.Goals.{In-Some}

placed : (c : In-Some) → PlacedAt c.args.book.now c.requires c.args.list c.in-Some.i
placed c =
    placed_at _ c.requires _ _ (omega (arith, c.if-list-eq0.false)) (sym c.find_list.ensures ∙ c.in-Some.is)

pub returns-then-list-eq0 : goal.returns-then-list-eq0
returns-then-list-eq0 c =
    rw c.if-list-eq0.true (sym (no_list_lem _))

pub returns-in_default : goal.returns-in_default
returns-in_default c =
    sym (placed_nowhere _ c.requires _ (omega (arith, c.if-list-eq0.false)) (sym c.find_list.ensures ∙ c.in_default.is))

pub place_at-requires : goal.place_at-requires
place_at-requires c =
    (c.requires, (placed (goal.at.place_at-requires c).In-Some).here)

pub returns : goal.returns
returns c =
    omega (arith, (placed (goal.at.returns c).In-Some).place, c.place_at.ensures)

-- What the tactics leave of the walk: plain entries, and one more entry that was passed.
use mathlib.Core.Path.{◌∙◌, sym}
use native.Mathlib.Omega.{arith}
use Rattle.prepared.proofs.Accepted.{fields_length}
use Rattle.wire.specs.Walks.{Inside}
use Rattle.walk.specs.Walks.{Bounded}
use Rattle.walk.proofs.Entries.{entry_next, plain_walked}
use Rattle.walk.proofs.+pass_row_walk_entries_walk_row.Goals as goal

pub walk_entries-returns-then-l-k-clause-value : goal.walk_entries-returns-then-l-k-clause-value
walk_entries-returns-then-l-k-clause-value t c =
    rw c.number-fields.ensures
    (sym (plain_walked _ _ _ _ _ _ _ _ _ _ _ c.requires.0.block c.number.ensures c.if-number-over-eq0.true (omega arith)))

pub walk_entries-loop-preserved : goal.walk_entries-loop-preserved
unfolding Bounded Inside
walk_entries-loop-preserved t c =
    let way = c.loop.invariant in
    let row = rw (c.number-in-loop.ensures, c.number-in-loop-2.ensures) at c.in_ok-row.ensures.value in
    let rest = rw (c.is_big-big.ensures, c.number-datas.ensures, c.number-in-loop-3.ensures) at c.in_ok-at.ensures.records in
    record {
      whole = way.whole ∙ entry_next _ _ _ _ _ _ _ _ _ _ _ _ _ _ _ _ (omega arith) (omega arith) row rest
          (c.number-fields.ensures ∙ sym (fields_length _ _ _ _)) c.number-datas.ensures;
      after = grind arith;
      inside = grind arith;
      few = grind arith;
    }

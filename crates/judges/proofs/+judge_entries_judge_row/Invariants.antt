-- The judging pass calls itself: an entry's row of groups, a group's entries. What is left of a row or of entries
-- answers as all of it does; the measure of a call is the depth left, and within a depth the order of the calls.
use Rattle.std.proofs.Common.{◌≡◌, ◌+◌, ◌*◌, ◌≤◌}
use Rattle.prepared.specs.Positions.{IsRow, groups_at, inner_at, is_counted, shape_at}
use Rattle.judges.specs.Judges.{entries_at, judged, limit, row_end}
use Rattle.judges.proofs.Judging.{entries_told, row_told}
use Rattle.judges.proofs.+judge_entries_judge_row.Given as goal

abbrev pub decreases-judge_entries : goal.decreases-judge_entries
decreases-judge_entries l = 2 * l.depth + 1

abbrev pub decreases-judge_row : goal.decreases-judge_row
decreases-judge_row l = 2 * l.depth

abbrev pub invariant-judge_entries-loop : goal.invariant-judge_entries-loop
invariant-judge_entries-loop l =
    let p = l.l.book.now in
    let s = shape_at p l.a in
    let gs = inner_at p l.depth l.a in
    (l.seen ≤ limit)
    × (judged (row_end (is_counted p) s gs 0) (entries_at p l.depth l.a l.l.numbers.now l.l.pool.now l.k l.start)
    ≡ entries_told (is_counted p) l.l.numbers.now l.l.pool.now s gs l.k l.counter l.seen l.i)

abbrev pub invariant-judge_row-loop-left : goal.invariant-judge_row-loop-left
invariant-judge_row-loop-left l =
    let p = l.l.book.now in
    let told = row_told (is_counted p) l.l.numbers.now l.l.pool.now (shape_at p l.a) in
    IsRow p l.depth l.left l.g × (l.seen ≤ limit)
    × (told (inner_at p l.depth l.a) 0 l.start ≡ told (groups_at p l.depth l.left l.g) l.seen l.i)

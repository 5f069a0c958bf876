-- Its elements are stored, then its groups one after the other, and its head when it is known where they end. The
-- measure of a call is the depth left.
use Rattle.std.proofs.Common.{◌-◌}
use Rattle.prepare.specs.Names.{big_in, from_in, lists_in, version_of}
use Rattle.prepare.proofs.Rows.{Storing}
use Rattle.prepare.proofs.+put_group.Given as goal

abbrev pub decreases-put_group : goal.decreases-put_group
decreases-put_group l = l.depth

abbrev pub invariant-loop-i : goal.invariant-loop-i
invariant-loop-i l =
    Storing (lists_in l.book) (from_in l.book) (big_in l.book) (version_of l.book) l.body l.depth l.group.word l.at l.initial.room
    l.room (l.many - l.i) l.x l.to

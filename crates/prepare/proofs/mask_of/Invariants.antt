-- What was added and the mask of the numbers that are left are the mask of all.
use Rattle.std.proofs.Common.{◌≡◌, ◌+◌, take, drop}
use Rattle.layout.specs.Octets.{words_of}
use Rattle.book.proofs.NameLists.{numbers_left}
use Rattle.prepared.specs.Numbers.{mask_of}
use Rattle.prepare.proofs.mask_of.Given as goal

abbrev pub invariant-loop-w : goal.invariant-loop-w
invariant-loop-w l =
    let b = words_of l.book in
    mask_of (take l.n (drop l.from b)) ≡ l.mask + mask_of (numbers_left b (l.from + l.n) l.w)

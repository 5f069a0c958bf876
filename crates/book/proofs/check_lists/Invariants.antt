-- What is left of the lists answers as all of them do.
use mathlib.Core.Path.{◌≡◌}
use Rattle.layout.specs.Octets.{words_of}
use Rattle.layout.specs.BookRules.{each_must, list_good, lists_of, word}
use Rattle.layout.specs.declared.Reason.TheVariants.{BookBlock}
use Rattle.book.proofs.NameLists.{lists_from}
use Rattle.book.proofs.check_lists.Given as goal

abbrev pub invariant-loop-place : goal.invariant-loop-place
invariant-loop-place l =
    let b = words_of l.book in
    each_must list_good BookBlock (word b 2) (lists_of b) ≡ lists_from b l.place

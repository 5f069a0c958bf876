-- So many lists are stored.
use Rattle.std.proofs.Common.{◌≡◌, ◌+◌, ◌*◌, map}
use lib.Seq.{sets}
use Rattle.layout.specs.Octets.{words_of}
use Rattle.layout.specs.BookRules.{head_size, name_list_of, parse_contents, word}
use Rattle.prepared.specs.Numbers.{lists_numbers, lists_size}
use Rattle.prepare.proofs.put_lists.Given as goal

abbrev pub invariant-loop-i : goal.invariant-loop-i
invariant-loop-i l =
    let b = words_of l.book in
    let ls = map (name_list_of b) (parse_contents b l.i (head_size + 3 * word b 2)) in
    (l.at ≡ l.start + lists_size ls) × (l.room ≡ sets l.initial.room l.start (lists_numbers ls))

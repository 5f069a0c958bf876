-- One list after the other is stored.
use Rattle.std.proofs.Common.{refl, arith}
use Rattle.layout.specs.BookRules.{parse_contents}
use Rattle.prepared.specs.Numbers.{lists_numbers, lists_size}
use Rattle.prepare.proofs.Lists.{next_fits, next_list}
use Rattle.prepare.proofs.put_lists.Goals as goal

pub loop-i-init : goal.loop-i-init
unfolding lists_numbers lists_size parse_contents
loop-i-init c = (omega arith, refl)

pub put_list-at-requires : goal.put_list-at-requires
put_list-at-requires c =
    let next = rw c.word-i-end.ensures.value at c.loop-i-test.true in
    rw c.word.ensures.value
    (next_list _ c.requires.0 _ next, omega (arith, next_fits _ c.requires.0 _ next, c.requires.1))

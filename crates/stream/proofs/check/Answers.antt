-- The walk refuses the message, or comes to its end.
use mathlib.Core.List.{[]}
use Rattle.std.proofs.Common.{arith}
use Rattle.prepared.proofs.Books.{holds_book}
use Rattle.wire.proofs.Steps.{steps}
use Rattle.whole.proofs.Entries.{enters, read_refused}
use Rattle.stream.proofs.Reading.{no_steps}
use Rattle.stream.proofs.check.Goals as goal

pub enter-requires : goal.enter-requires
enter-requires c = (holds_book c.requires, no_steps)

pub returns-in_err-enter : goal.returns-in_err-enter
returns-in_err-enter c =
    let e = read_refused _ c.args.m.now [] (holds_book c.requires) _ c.in_err-enter.ensures.value in
    grind (arith, steps)

pub returns : goal.returns
returns c =
    let o = enters _ c.args.m.now [] (holds_book c.requires) _ c.in_ok-enter.ensures.value in
    let e = o.read in
    grind (arith, steps)

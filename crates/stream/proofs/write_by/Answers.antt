-- Each way out is one law on what the judging came to.
use native.Mathlib.Omega.{arith}
use Rattle.std.proofs.lemmas.Result.{err_from_is_err_and}
use Rattle.stream.proofs.Writing.{IsGood, write_done, write_full, write_ready, write_refused, write_small}
use Rattle.stream.proofs.write_by.Goals as goal
use Rattle.stream.proofs.write_by.Goals.{In_ok-judged}

good : (c : In_ok-judged) → let l = c.args.l.now in
    IsGood l.book.now c.args.a l.numbers.now l.pool.now c.in_ok-judged.judged
good c = record { block = c.requires; is = c.in_ok-judged.ensures }

pub returns-in_err-judged : goal.returns-in_err-judged
returns-in_err-judged c =
    let l = c.args.l.now in
    let e = err_from_is_err_and c.from_residual.result c.from_residual.ensures.1 in
    rw (e.1, e.2)
    (write_refused l.book.now c.args.a l.numbers.now l.pool.now c.args.room.now _ c.in_err-judged.ensures)

pub overflow_add-n : goal.overflow_add-n
overflow_add-n c =
    omega (arith, write_small (good (goal.at.overflow_add-n c).In_ok-judged))

pub returns-then-n-gt65535 : goal.returns-then-n-gt65535
returns-then-n-gt65535 c =
    let h = c.then-n-gt65535.either in
    rw c.refuse.ensures (write_full (good (goal.at.returns-then-n-gt65535 c).In_ok-judged) c.args.room.now h)

pub write_message-requires-clause-ready : goal.write_message-requires-clause-ready
write_message-requires-clause-ready c =
    write_ready (good (goal.at.write_message-requires-clause-ready c).In_ok-judged) _ c.if-n-gt65535.false
    c.if-room-n.false _ (c.fill.ensures.after (λ y e. e))

pub returns : goal.returns
returns c =
    write_done (good (goal.at.returns c).In_ok-judged) _ c.if-n-gt65535.false c.if-room-n.false _
    (c.fill.ensures.after (λ y e. e)) _ c.write_message.ensures

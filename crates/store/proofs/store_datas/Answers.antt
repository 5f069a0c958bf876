-- Of the records of the data some are stored, and those of the data that are left are to come.
use Rattle.std.proofs.Common.{◌≡◌, ◌+◌, ◌*◌, ◌-◌, ◌<◌, ◌≤◌, arith}
use Rattle.prepared.specs.Positions.{datas_from, is_big, many_datas}
use Rattle.prints.specs.Prints.{end_of}
use Rattle.prints.proofs.Going.{going_call, going_end, going_first}
use Rattle.store.proofs.Parts.{DataOpen, data_absent, data_open, datas_end_lem, skip_accepted, skip_stored}
use Rattle.prepared.proofs.Open.{no_datas_at}
use Rattle.store.proofs.store_datas.Goals as goal
use Rattle.store.proofs.store_datas.Goals.{Else-v-number}

-- A data that is present was accepted, so its octets are in the message.
opened : (c : Else-v-number) → let a = c.args in let p = a.m.now.book.now in
    DataOpen (is_big p) a.m.now.octets.now a.m.now.version p a.n (many_datas p a.a - c.loop-i.i)
    (datas_from p a.a + 2 * c.loop-i.i) c.loop-i.here.at
opened c =
    data_open _ _ _ _ _ _ _ _ (omega (arith, c.loop-i-test.true, c.number-i-end.ensures)) c.loop-i.invariant.1.room.whole
    (rw (c.number.ensures, c.number-from.ensures) at c.if-v-number.false)

pub store_answer-here-requires : goal.store_answer-here-requires
store_answer-here-requires c =
    let g = c.loop-i.invariant.1 in
    let some : 0 < many_datas c.args.m.now.book.now c.args.a - c.loop-i.i = omega (arith, c.loop-i-test.true, c.number-i-end.ensures) in
    going_first g _ (data_absent _ _ _ _ _ _ _ _ some g.room.whole
    (rw (c.number.ensures, c.number-from.ensures) at c.if-v-number.true))

pub loop-i-preserved-then-v-number : goal.loop-i-preserved-then-v-number
unfolding end_of
loop-i-preserved-then-v-number c =
    let inv = c.loop-i.invariant in
    let g = inv.1 in
    let some : 0 < many_datas c.args.m.now.book.now c.args.a - c.loop-i.i = omega (arith, c.loop-i-test.true, c.number-i-end.ensures) in
    let fewer : many_datas c.args.m.now.book.now c.args.a - (c.loop-i.i + 1)
    ≡ many_datas c.args.m.now.book.now c.args.a - c.loop-i.i - 1 = omega arith in
    let on : datas_from c.args.m.now.book.now c.args.a + 2 * (c.loop-i.i + 1)
    ≡ datas_from c.args.m.now.book.now c.args.a + 2 * c.loop-i.i + 2 = omega arith in
    rw (fewer, on) (
      rw c.store_answer-here.ensures.place inv.0,
      going_call g _ (data_absent _ _ _ _ _ _ _ _ some g.room.whole
          (rw (c.number.ensures, c.number-from.ensures) at c.if-v-number.true)) c.store_answer-here.ensures,
    )

pub data_length-len-requires : goal.data_length-len-requires
data_length-len-requires c =
    (opened (goal.at.data_length-len-requires c).Else-v-number).length_within

pub store_answer-here-requires-in-loop-i : goal.store_answer-here-requires-in-loop-i
store_answer-here-requires-in-loop-i c =
    rw (rw c.is_big-big.ensures at c.data_length-len.ensures.value)
    (going_first c.loop-i.invariant.1 _ (opened (goal.at.store_answer-here-requires-in-loop-i c).Else-v-number).same)

pub loop-i-preserved : goal.loop-i-preserved
unfolding end_of
loop-i-preserved c =
    let inv = c.loop-i.invariant in
    let o = opened (goal.at.loop-i-preserved c).Else-v-number in
    let stored = rw (rw c.is_big-big.ensures at c.data_length-len.ensures.value) at c.store_answer-here-in-loop-i.ensures in
    let fewer : many_datas c.args.m.now.book.now c.args.a - (c.loop-i.i + 1)
    ≡ many_datas c.args.m.now.book.now c.args.a - c.loop-i.i - 1 = omega arith in
    let on : datas_from c.args.m.now.book.now c.args.a + 2 * (c.loop-i.i + 1)
    ≡ datas_from c.args.m.now.book.now c.args.a + 2 * c.loop-i.i + 2 = omega arith in
    rw (fewer, on) (
      record { short = inv.0.short; inside = omega (arith, stored.place, o.within) },
      going_call inv.1 _ o.same stored,
    )

pub pass_datas-requires : goal.pass_datas-requires
pass_datas-requires c =
    let inv = c.loop-i.invariant in
    let none : many_datas c.args.m.now.book.now c.args.a - c.loop-i.i ≤ 0 = omega (arith, c.loop-i-test.false, c.number-i-end.ensures) in
    rw c.is_big-big.ensures (
      skip_accepted _ (datas_end_lem _ _ _ _ _ _ (no_datas_at _ _ _ none)) inv.1.room.whole,
      inv.0.inside,
    )

pub returns-clause-stored : goal.returns-clause-stored
returns-clause-stored c =
    let inv = c.loop-i.invariant in
    let none : many_datas c.args.m.now.book.now c.args.a - c.loop-i.i ≤ 0 = omega (arith, c.loop-i-test.false, c.number-i-end.ensures) in
    let end = rw c.is_big-big.ensures at c.pass_datas.ensures in
    going_end inv.1 (skip_stored _ (datas_end_lem _ _ _ _ _ _ (no_datas_at _ _ _ none)) inv.1.room.whole end.0)

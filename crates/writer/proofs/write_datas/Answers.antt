-- Some of the data are written, and those that are left are to come.
use mathlib.Core.Path.{◌≡◌}
use Prim.Native.Nat.{◌+◌}
use native.Mathlib.Omega.{arith}
use Rattle.prints.proofs.Going.{going_call, going_end, going_first, stored_none}
use Rattle.writer.proofs.Parts.{datas_end, datas_step}
use Rattle.writer.proofs.Zeros.{part_room, part_stored}
use Rattle.writer.proofs.write_datas.Goals as goal

pub write_data-at-requires : goal.write_data-at-requires
write_data-at-requires c =
    part_room _ c.loop-data.room (going_first c.loop-data.invariant.1 _
    (datas_step _ _ _ _ _ _ (omega (arith, c.loop-data-test.true, c.number-datas.ensures))))

pub overflow_add-at : goal.overflow_add-at
overflow_add-at c =
    let g = c.loop-data.invariant.1 in
    let room = going_first g _ (datas_step _ _ _ _ _ _ (omega (arith, c.loop-data-test.true, c.number-datas.ensures))) in
    omega (arith, room.fits, c.write_data-at.ensures.0.taken, c.well_formed)

pub loop-data-preserved : goal.loop-data-preserved
loop-data-preserved c =
    let next : c.args.c.record + (c.loop-data.data + 1) ≡ c.args.c.record + c.loop-data.data + 1 = omega arith in
    let g = c.loop-data.invariant.1 in
    let step = datas_step _ _ _ _ _ _ (omega (arith, c.loop-data-test.true, c.number-datas.ensures)) in
    rw next (c.write_data-at.ensures.1, going_call g _ step (part_stored _ c.loop-data.room (going_first g _ step) c.write_data-at.ensures.0))

pub returns : goal.returns
returns c =
    let all : c.number-datas.result ≡ c.loop-data.data = omega (arith, c.loop-data-test.false) in
    rw (← c.is_big-big.ensures, all)
    (going_end c.loop-data.invariant.1 (stored_none (datas_end _ _ _ _ _ (omega (arith, c.loop-data-test.false, c.number-datas.ensures)))))

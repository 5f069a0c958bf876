-- One octet more is read at each step.
use Prim.Native.Nat.{◌+◌}
use native.Mathlib.Omega.{arith}
use Rattle.octets.proofs.Joined.{eight_octets, spelt_next, spelt_none}
use Rattle.octets.proofs.get.Goals as goal

pub loop-i-init : goal.loop-i-init
loop-i-init g c = spelt_none _ _

pub loop-i-preserved : goal.loop-i-preserved
loop-i-preserved g c =
    let l = c.loop-i in
    spelt_next l.i (omega arith) (omega arith) (c.type_inv.s (c.args.at + l.i)).fits l.invariant

pub overflow_add-x-in-loop-i : goal.overflow_add-x-in-loop-i
overflow_add-x-in-loop-i g c =
    let l = c.loop-i in
    let octet = (c.type_inv.s (c.args.at + l.i)).fits in
    let next = spelt_next l.i (omega arith) (omega arith) octet l.invariant in
    record { fits = omega (arith, next.small, eight_octets (l.i + 1) (omega arith)) }

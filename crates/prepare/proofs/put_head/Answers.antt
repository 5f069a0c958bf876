-- Twelve stores are the head.
use Rattle.std.proofs.Common.{◌≡◌, suc, ◌+◌, ◌*◌, arith}
use native.Mathlib.Numerals.{towards_suc}
use Rattle.prepare.specs.Positions.{size_at}
use Rattle.prepare.proofs.put_head.Goals as goal

pub returns : goal.returns
returns c =
    let at = c.args.at in
    let f = c.word-f.result in
    let d = c.word-d.result in
    let end : at + 12 + 7 * f + 2 * d + 6 * f ≡ at + size_at c.args.body.now c.args.group.word =
    omega (arith, c.word-f.ensures.value, c.word-d.ensures.value) in
    let nine : at + 9 ≡ suc (at + 8) = omega arith in
    let ten : at + 10 ≡ suc (suc (at + 8)) = omega arith in
    let eleven : at + 11 ≡ suc (suc (suc (at + 8))) = omega arith in
    rw (
      end,
      nine,
      ten,
      eleven,
      c.word.ensures.value,
      c.word-f.ensures.value,
      c.word-g.ensures.value,
      c.word-d.ensures.value,
    ) (simp towards_suc)

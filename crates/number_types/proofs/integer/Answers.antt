-- Computed at each width.
use mathlib.Core.Bool.{false, true}
use mathlib.Core.Path.{◌≡◌, refl}
use Prim.Native.Nat.{◌+◌, ◌-◌, ◌/◌, ◌^◌}
use Rattle.layout.specs.Types.{row_of}
use Rattle.number_types.specs.Value.{kept}
use Rattle.number_types.proofs.Types.{each_width, ones}
use Rattle.number_types.proofs.integer.Goals as goal

pub returns-then-signed : goal.returns-then-signed
returns-then-signed c =
    rw c.if-signed.true
    (each_width
    (λ w. record {
      width = w;
      signed = true;
      least = 2 ^ 64 - 1 - ones w / 2 + 1;
      greatest = ones w / 2;
      null = 2 ^ 64 - 1 - ones w / 2;
    } ≡ kept (row_of w true)) refl refl refl refl _ c.requires)

pub returns : goal.returns
returns c =
    rw c.if-signed.false
    (each_width
    (λ w. record { width = w; signed = false; least = 0; greatest = ones w - 1; null = ones w } ≡ kept (row_of w false))
    refl refl refl refl _ c.requires)

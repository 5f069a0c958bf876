-- A surplus group, as the code takes its parts in turn.
use mathlib.Core.Path.{◌∙◌, ◌≡◌, ap, refl}
use mathlib.Core.Bool.{Bool}
use mathlib.Core.List.{List}
use Prim.Native.Nat.{◌*◌, ◌+◌, ◌-◌, ◌<◌, suc, zero, ℕ}
use Rattle.std.specs.Prelude.{Err, Ok}
use Rattle.layout.specs.Result.{◌>>=◌, done, refused}
use Rattle.layout.specs.Message.{dimension_size, in_row, read_dimension, skip_entry, skip_group}
use Rattle.layout.specs.Operations.{Told, told}
use Rattle.layout.proofs.Results.{some_left}
use Rattle.layout.proofs.Skipped as Skipped
use Rattle.layout.proofs.Told.{inv_ok, refused_on}
use Rattle.surplus.specs.Surplus.{dimension_of, passed, sizes_of, skip_end}
use Rattle.surplus.specs.declared.Sizes.{Sizes}
use Rattle.layout.specs.declared.Refusal.{Refusal}
use Rattle.layout.specs.declared.Reason.TheVariants.{GroupTooDeep}
use Rattle.surplus.proofs.Rows.{rows}

-- A dimension that is refused is refused at each level.
pub not_read : (counted big : Bool) (m : List ℕ) (levels at : ℕ) (z : Refusal)
    → ◌≡◌ {A = Told Sizes} (Err z) (told sizes_of (read_dimension counted big m at))
    → told skip_end (skip_group counted big m levels at) ≡ Err z
unfolding skip_group
not_read counted big m zero at z e = refused_on sizes_of (read_dimension counted big m at) _ skip_end z e
not_read counted big m (suc levels) at z e = refused_on sizes_of (read_dimension counted big m at) _ skip_end z e

module _ (counted big : Bool) (m : List ℕ) (levels at : ℕ) where
  -- What was read is the definition's.
  pub was_read : (s : Sizes) → Ok s ≡ told sizes_of (read_dimension counted big m at)
      → read_dimension counted big m at ≡ done (dimension_of s)
  was_read s e =
      let given = inv_ok sizes_of (read_dimension counted big m at) s e in
      rw given.is (ap (λ (z : Sizes). done (dimension_of z)) given.gives)

  pub too_deep : levels ≡ 0
      → skip_group counted big m levels at ≡ (read_dimension counted big m at >>= λ d. refused GroupTooDeep at)
  unfolding skip_group
  too_deep h = rw h refl

  pub group_next : 0 < levels → skip_group counted big m levels at ≡ (read_dimension counted big m at >>= λ d.
      in_row d.entries (skip_entry big m (skip_group counted big m (levels - 1)) d at) (at + dimension_size counted))
  unfolding skip_group
  group_next h =
      ap (λ (k : ℕ). skip_group counted big m k at) (some_left h)

  pub group_at_once : (s : Sizes) → 0 < levels → Ok s ≡ told sizes_of (read_dimension counted big m at) → s.groups ≡ 0
      → s.datas ≡ 0
      → skip_group counted big m levels at ≡ passed m (s.length * s.entries) at (at + dimension_size counted)
  group_at_once s h e g n =
      ap (λ (k : ℕ). skip_group counted big m k at) (some_left h)
      ∙ Skipped.group_at_once big m counted (levels - 1) at _ (was_read s e) g n

pub ruleset groups = (was_read, too_deep, group_next, group_at_once, rows)

-- Surplus groups whose entries have neither groups nor data are passed at once: "skipped as dimension plus block length
-- times entries".
use mathlib.Core.Path.{◌∙◌, ◌≡◌, ap, refl, sym}
use mathlib.Core.Bool.{Bool, false, true}
use mathlib.Core.List.{List}
use Prim.Native.Nat.{◌*◌, ◌+◌, ◌≤◌, suc, zero, ℕ}
use native.Mathlib.Omega.{arith}
use lib.Dec.{leb}
use lib.ListN.{length}
use borrow.Author.Tests.{le-leb, leb-false, leb-true, lt-leb}
use Rattle.layout.specs.Result.{Result, ◌>>=◌, done, when◌then◌else◌, must}
use Rattle.layout.specs.Message.{Dimension, dimension_size, in_row, read_dimension, skip_entry, skip_group}
use Rattle.layout.proofs.Results.{bind_done, done_inj, inv_bind, inv_must}
use Rattle.layout.specs.declared.Reason.TheVariants.{PastTheEnd}

module _ (big : Bool) (m : List ℕ) where
  -- n octets from `at` on, or 16 at `place`.
  abbrev pub passed : ℕ → ℕ → ℕ → Result ℕ
  passed n place at = must (leb (at + n) (length m)) PastTheEnd place >>= λ _. done (at + n)

  module _ (f : ℕ → Result ℕ) (d : Dimension) (place : ℕ) (no_groups : d.groups ≡ 0) (no_datas : d.datas ≡ 0) where
    entry_at_once : (at : ℕ) → skip_entry big m f d place at ≡ passed d.length place at
    unfolding skip_entry in_row ◌>>=◌
    entry_at_once at = rw (no_groups, no_datas) refl

    -- Where the first does not fit, they do not fit together.
    pub entries_at_once : (k at : ℕ) → at ≤ length m
        → in_row k (skip_entry big m f d place) at ≡ passed (d.length * k) place at
    unfolding in_row must ◌>>=◌
    entries_at_once zero at h =
        let none : at + d.length * zero ≡ at = omega arith in
        rw (none, le-leb at (length m) h) refl
    entries_at_once (suc k) at h = go (leb (at + d.length) (length m)) refl (entries_at_once k (at + d.length))
      where
        all : at + d.length + d.length * k ≡ at + d.length * suc k
        all = omega arith

        go : (t : Bool) → leb (at + d.length) (length m) ≡ t
            → (at + d.length ≤ length m → in_row k (skip_entry big m f d place) (at + d.length)
            ≡ passed (d.length * k) place (at + d.length))
            → in_row (suc k) (skip_entry big m f d place) at ≡ passed (d.length * suc k) place at
        go true t ih = rw (entry_at_once at, t, ih (leb-true (at + d.length) (length m) t), all) refl
        go false t ih =
            let past = leb-false (at + d.length) (length m) t in
            rw (entry_at_once at, t, lt-leb (at + d.length * suc k) (length m) (omega (arith, all))) refl

  pub group_at_once : (counted : Bool) (levels at : ℕ) (d : Dimension) → read_dimension counted big m at ≡ done d
      → d.groups ≡ 0 → d.datas ≡ 0
      → skip_group counted big m (suc levels) at ≡ passed (d.length * d.entries) at (at + dimension_size counted)
  unfolding skip_group read_dimension
  group_at_once counted levels at d e g n =
      let fits = leb-true (at + dimension_size counted) (length m) (inv_must _ _ _ _ (inv_bind _ _ _ e).first) in
      ap (λ (r : Result Dimension). r >>= λ x.
      in_row x.entries (skip_entry big m (skip_group counted big m levels) x at) (at + dimension_size counted)) e
      ∙ bind_done d _
      ∙ entries_at_once (skip_group counted big m levels) d at g n d.entries (at + dimension_size counted) fits

-- With two-number dimensions every surplus group is.
pub two_at_once : (big : Bool) (m : List ℕ) (levels at : ℕ) (d : Dimension) → read_dimension false big m at ≡ done d
    → skip_group false big m (suc levels) at ≡ passed big m (d.length * d.entries) at (at + dimension_size false)
unfolding read_dimension when◌then◌else◌
two_at_once big m levels at d e =
    let q = done_inj (inv_bind _ _ _ (inv_bind _ _ _ e).next).next in
    group_at_once big m false levels at d e (sym (ap (λ (x : Dimension). x.groups) q))
    (sym (ap (λ (x : Dimension). x.datas) q))

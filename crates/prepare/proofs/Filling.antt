-- The steps of filling the room: what is left to store, and where; and stores that do not meet, in either order.
use Rattle.std.proofs.Common.{◌≡◌, ℕ, zero, suc, ◌+◌, ◌<◌, ◌≤◌, List, [], ◌∷◌, ◌++◌, length, set, sym, refl, ap, ◌∙◌, add-zero, append_assoc, arith, set-set}
use borrow.Rule.Slice.PartMut.{put_mid}
use lib.Seq.{drop-drop, length-sets, sets, sets-eq}
use Rattle.octets.proofs.Joined.{set_past, sets_append}

-- ---- in either order

pub sets_past : (d : List ℕ) (i : ℕ) (ys : List ℕ) (n : ℕ) (xs : List ℕ) → i + length ys ≤ n
    → sets (sets d n xs) i ys ≡ sets (sets d i ys) n xs
sets_past d i [] n xs h = refl
sets_past d i (y ∷ ys) n xs h =
    ap (λ (l : List ℕ). sets l (suc i) ys) (set_past d i y n xs (omega arith))
    ∙ sets_past (set d i y) (suc i) ys n xs (omega arith)

-- One of the numbers that are set is set anew.
pub set_again : (d : List ℕ) (k : ℕ) (vs : List ℕ) (i x : ℕ) → i < length vs
    → set (sets d k vs) (k + i) x ≡ sets d k (set vs i x)
set_again d k [] i x h = absurd (omega arith)
set_again d k (v ∷ vs) zero x h =
    rw add-zero (set_past (set d k v) k x (suc k) vs (omega arith)
    ∙ ap (λ (l : List ℕ). sets l (suc k) vs) (set-set d k v x))
set_again d k (v ∷ vs) (suc i) x h =
    let q : k + suc i ≡ suc k + i = omega arith in
    rw q (set_again (set d k v) (suc k) vs i x (omega arith))

-- A part of the room is stored.
pub mid_sets : (d : List ℕ) (at k : ℕ) {ys : List ℕ} (xs : List ℕ) → ys ≡ xs → length xs ≡ k → at + k ≤ length d
    → put_mid at k d ys ≡ sets d at xs
mid_sets d at k xs is e h = rw (sets-eq xs d at (omega arith), is, e, drop-drop, append_assoc) refl

-- ---- what is left

-- The numbers `all` are stored from n₀ on in the room d₀ once `rest` is stored from n on in the room d.
pub record Filling (d₀ : List ℕ) (n₀ : ℕ) (all : List ℕ) (d : List ℕ) (n : ℕ) (rest : List ℕ) : Type 0 where
  pub whole : sets d₀ n₀ all ≡ sets d n rest
  pub long : length d ≡ length d₀

module _ {d₀ : List ℕ} {n₀ : ℕ} {all : List ℕ} {d : List ℕ} {n : ℕ} {rest : List ℕ}
    (f : Filling d₀ n₀ all d n rest) where
  -- Some are stored.
  pub filling_on : (part left : List ℕ) (d' : List ℕ) (n' : ℕ) → rest ≡ part ++ left → d' ≡ sets d n part
      → n' ≡ n + length part → Filling d₀ n₀ all d' n' left
  filling_on part left d' n' e q k =
      record {
        whole = f.whole ∙ ap (sets d n) e ∙ sets_append d n part left ∙ rw (q, k) refl;
        long = ap length q ∙ length-sets d n part ∙ f.long;
      }

  -- Nothing is left.
  pub filling_ends : rest ≡ [] → d ≡ sets d₀ n₀ all
  filling_ends e = sym (f.whole ∙ ap (sets d n) e)

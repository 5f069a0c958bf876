-- A room of zeros that is filled part by part. What is not stored yet is zeros, so zeros need not be stored.
use mathlib.Core.Path.{◌≡◌, refl, sym, ap, ◌∙◌}
use mathlib.Core.List.{List, [], ◌∷◌, ◌++◌, append_assoc, append-nil}
use Prim.Native.Nat.{ℕ, zero, suc, ◌+◌, ◌-◌, ◌≤◌}
use native.Mathlib.Nat.{zero-add}
use native.Mathlib.Omega.{arith}
use lib.ListN.{drop, get_or, length, length-drop, length-replicate, replicate, set, take}
use lib.Seq.{drop-drop, drop-length, get_or-drop, get_or-set_other, set-get_or, sets, sets-eq, take_at}
use lib.Seq.{take-length}
use borrow.Rule.Slice.PartMut.{put_mid}
use Rattle.octets.proofs.Joined.{sets_append}
use Rattle.prints.specs.Prints.{Printed, Room, Stored, numbers_of, prepend}
use Rattle.prints.proofs.Going.{Going, going_put}
use Rattle.writer.specs.Zeros.{Zeros, ZerosFrom}

-- ---- zeros

-- What is stored before n is not seen from n on.
sets_before : (e d : List ℕ) (i n : ℕ) → i + length e ≤ n → get_or (sets d i e) n 0 ≡ get_or d n 0
sets_before [] d i n h = refl
sets_before (x ∷ e) d i n h =
    sets_before e (set d i x) (suc i) n (omega arith)
    ∙ get_or-set_other d i n x 0 (λ q. absurd (omega arith))

-- Zeros over zeros change nothing.
zeros_over : (k : ℕ) (d : List ℕ) (n : ℕ) → ((i : ℕ) → n ≤ i → get_or d i 0 ≡ 0) → sets d n (replicate k 0) ≡ d
zeros_over zero d n z = refl
zeros_over (suc k) d n z =
    let q : set d n 0 ≡ d = rw (z n (omega arith)) at (set-get_or d n 0) in
    ap (λ (y : List ℕ). sets y (suc n) (replicate k 0)) q ∙ zeros_over k d (suc n) (λ i h. z i (omega arith))

-- The first n octets of a room where n zeros were put.
pub zeros_put : (d : List ℕ) (n : ℕ) → n ≤ length d → Zeros (take n (sets d 0 (replicate n 0)))
zeros_put d n h =
    let long = length-replicate {A = ℕ} n 0 in
    let laid = sets-eq (replicate n 0) d 0 (omega arith) in
    rw (laid, take_at (replicate n 0) (drop (0 + length (replicate {A = ℕ} n 0)) d) n long)
    (record { each = zero_at n })
  where
    zero_at : (n i : ℕ) → get_or (replicate {A = ℕ} n 0) i 0 ≡ 0
    zero_at zero i = refl
    zero_at (suc n) zero = refl
    zero_at (suc n) (suc i) = zero_at n i

pub zeros_start : {d : List ℕ} → Zeros d → ZerosFrom 0 d
zeros_start z = record { each = λ i h. z.each i }

module _ {n : ℕ} {d : List ℕ} (z : ZerosFrom n d) where
  pub zeros_past : (e : List ℕ) {m : ℕ} {d' : List ℕ} → m ≡ n + length e → d' ≡ sets d n e → ZerosFrom m d'
  zeros_past e long q =
      record { each = λ i h. rw q (sets_before e d n i (omega (arith, long)) ∙ z.each i (omega (arith, long))) }

  -- Zeros after what is stored stand already.
  pub zeros_fill : (e : List ℕ) (k : ℕ) → sets d n (e ++ replicate k 0) ≡ sets d n e
  zeros_fill e k =
      sets_append d n e (replicate k 0) ∙ zeros_over k (sets d n e) (n + length e) (zeros_past e refl refl).each

  pub zeros_on : {x : Printed} {a k : ℕ} {d' : List ℕ} → Stored x n d a k d' → ZerosFrom k d'
  zeros_on {x} t = zeros_past (numbers_of x) t.taken t.room

  pub zeros_after : {m : ℕ} → n ≤ m → ZerosFrom m d
  zeros_after h = record { each = λ i k. z.each i (omega arith) }

  -- Zeros stand already.
  pub going_pad : {x y : Printed} {n₀ : ℕ} {d₀ : List ℕ} → Going x y n₀ d₀ n d → (k : ℕ) {w : Printed} {m : ℕ}
      → y ≡ prepend (replicate k 0) w → m ≡ n + k → Going x w n₀ d₀ m d
  going_pad g k s q =
      let long : n + k ≡ n + length (replicate {A = ℕ} k 0) = omega (arith, length-replicate {A = ℕ} k 0) in
      rw (q, long) (going_put g (replicate k 0) s (sym (zeros_over k d n z.each)))

-- ---- a part that is lent on

module _ (n : ℕ) (d : List ℕ) where
  -- The part from n on.
  abbrev pub part_of : List ℕ
  part_of = take (length d - n) (drop n d)

  part_is : part_of ≡ drop n d
  part_is = rw (← (length-drop n d), take-length (drop n d)) refl

  pub part_long : length part_of ≡ length d - n
  part_long = rw (part_is, length-drop n d) refl

  pub part_room : {x : Printed} → Room x n (length d) → Room x 0 (length part_of)
  part_room r = record { whole = r.whole; fits = rw part_long (omega (arith, r.fits)) }

  pub part_zeros : ZerosFrom n d → ZerosFrom 0 part_of
  part_zeros z = record { each = λ i h. rw part_is (get_or-drop n d i 0 ∙ z.each (n + i) (omega arith)) }

  -- e was stored from the part's start.
  pub part_put : (e ys : List ℕ) → n + length e ≤ length d → ys ≡ sets part_of 0 e
      → put_mid n (length d - n) d ys ≡ sets d n e
  part_put e ys h y =
      let l : length d - n ≡ length (drop n d) = sym (length-drop n d) in
      let fits : 0 + length e ≤ length (drop n d) = omega arith in
      let z : ys ≡ e ++ drop (length e) (drop n d) =
      y ∙ rw (part_is, sets-eq e (drop n d) 0 fits, zero-add) refl in
      rw (
        z,
        l,
        drop-length (drop n d),
        append-nil (e ++ drop (length e) (drop n d)),
        sets-eq e d n h,
        append_assoc (take n d) e (drop (n + length e) d),
        drop-drop (length e) n d,
      ) refl

  pub part_stored : {x : Printed} {a k : ℕ} {ys : List ℕ} → Room x n (length d) → Stored x 0 part_of a k ys
      → Stored x n d a (n + k) (put_mid n (length d - n) d ys)
  part_stored {x} r t =
      record {
        place = t.place;
        taken = omega (arith, t.taken);
        room = part_put (numbers_of x) _ r.fits t.room;
      }

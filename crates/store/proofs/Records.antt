-- A record as it stands in the room, and what it is there beside a list.
use mathlib.Core.Path.{◌∙◌, ◌≡◌, ap, refl, sym}
use mathlib.Core.Bool.{false, true}
use mathlib.Core.List.{List, [], ◌∷◌}
use Prim.Native.Nat.{ℕ, zero, suc, ◌+◌, ◌<◌, ◌≤◌}
use native.Mathlib.Nat.{add-zero}
use native.Mathlib.Omega.{arith}
use lib.ListN.{get_or, length, length-set, set}
use lib.Seq.{get_or-set_other, get_or-set_same, set-set, sets}
use Rattle.layout.specs.Result.{when◌then◌else◌}
use Rattle.layout.specs.Lists.{Names, beside, has}
use Rattle.layout.specs.Values.{record_of}
use Rattle.layout.specs.declared.Answer.{Answer}
use Rattle.layout.specs.declared.Answer.TheVariants.{Absent, Group, Null, Number, Octets, OutOfRange, Unlisted}
use Rattle.layout.proofs.Records.{record_three}
use Rattle.octets.proofs.Joined.{set_past}
use Rattle.prints.specs.Prints.{Room, Stored, end_of, got, numbers_of}

-- ---- numbers that were stored

before : (d : List ℕ) (i n : ℕ) (xs : List ℕ) → i < n → get_or (sets d n xs) i 0 ≡ get_or d i 0
before d i n [] h = refl
before d i n (x ∷ xs) h =
    before (set d n x) i (suc n) xs (omega arith) ∙ get_or-set_other d n i x 0 (λ e. absurd (omega arith))

stored : (d : List ℕ) (n : ℕ) (vs : List ℕ) (i : ℕ) → i < length vs → n + length vs ≤ length d
    → get_or (sets d n vs) (n + i) 0 ≡ get_or vs i 0
stored d n [] i h fit = absurd (omega arith)
stored d n (v ∷ vs) zero h fit =
    rw add-zero (before (set d n v) n (suc n) vs (omega arith) ∙ get_or-set_same d n v 0 (omega arith))
stored d n (v ∷ vs) (suc i) h fit =
    let q : n + suc i ≡ suc n + i = omega arith in
    rw q (stored (set d n v) (suc n) vs i (omega arith) (rw length-set (omega arith)))

-- As many are stored over them.
stored_over : (d : List ℕ) (n : ℕ) (vs ws : List ℕ) → length vs ≡ length ws
    → sets (sets d n vs) n ws ≡ sets d n ws
stored_over d n [] [] e = refl
stored_over d n [] (w ∷ ws) e = absurd (omega arith)
stored_over d n (v ∷ vs) [] e = absurd (omega arith)
stored_over d n (v ∷ vs) (w ∷ ws) e =
    ap (λ (l : List ℕ). sets l (suc n) ws) (set_past (set d n v) n w (suc n) vs (omega arith)
    ∙ ap (λ (l : List ℕ). sets l (suc n) vs) (set-set d n v w))
    ∙ stored_over (set d n w) (suc n) vs ws (omega arith)

-- ---- a record that was stored

pub room_three : {at : ℕ} (a : Answer) {n k : ℕ} → Room (got at (record_of a)) n k → n + 3 ≤ k
unfolding numbers_of
room_three a r = omega (arith, r.fits, record_three a)

pub record_stored : (d : List ℕ) (n at : ℕ) {a b : Answer} {e : List ℕ} → e ≡ sets d n (record_of a) → a ≡ b
    → Stored (got at (record_of b)) n d at (n + 3) e
unfolding end_of numbers_of
record_stored d n at e q = record { place = refl; taken = rw record_three refl; room = rw (← q) e }

-- The record of a was stored from n on into what was d.
pub record Holds (d : List ℕ) (n : ℕ) (a : Answer) (room : List ℕ) : Type 0 where
  pub fits : n + 3 ≤ length d
  pub is : room ≡ sets d n (record_of a)

-- Its first number tells whether it is a number's.
module _ {d : List ℕ} {n : ℕ} {a : Answer} {room : List ℕ} (s : Holds d n a room) where
  number_of : (i : ℕ) → i < 3 → get_or room (n + i) 0 ≡ get_or (record_of a) i 0
  number_of i h = rw s.is (stored d n (record_of a) i (rw record_three h) (rw record_three s.fits))

  kind_of : get_or room n 0 ≡ get_or (record_of a) 0 0
  kind_of = rw add-zero at (number_of 0 (omega arith))

  pub no_number : (l : Names) → (get_or room n 0 ≡ 0 → ⊥) → a ≡ beside l a
  unfolding beside record_of
  no_number l e = go a (λ z. e (kind_of ∙ z))
    where
      go : (a : Answer) → (get_or (record_of a) 0 0 ≡ 0 → ⊥) → a ≡ beside l a
      go (Number x) e = absurd (e refl)
      go Null e = refl
      go (Octets start len) e = refl
      go Absent e = refl
      go (Group entries) e = refl
      go (OutOfRange x) e = refl
      go (Unlisted x) e = refl

  -- It is one, and the list has it or lacks it.
  module _ (e : get_or room n 0 ≡ 0) where
    is_number_lem : a ≡ Number (get_or room (n + 1) 0)
    unfolding record_of
    is_number_lem = rw (number_of 1 (omega arith)) (go a (sym kind_of ∙ e))
      where
        go : (a : Answer) → get_or (record_of a) 0 0 ≡ 0 → a ≡ Number (get_or (record_of a) 1 0)
        go (Number x) e = refl
        go Null e = absurd (omega (arith, e))
        go (Octets start len) e = absurd (omega (arith, e))
        go Absent e = absurd (omega (arith, e))
        go (Group entries) e = absurd (omega (arith, e))
        go (OutOfRange x) e = absurd (omega (arith, e))
        go (Unlisted x) e = absurd (omega (arith, e))

    pub is_listed_lem : (l : Names) → has l (get_or room (n + 1) 0) ≡ true → a ≡ beside l a
    unfolding beside when◌then◌else◌
    is_listed_lem l h = is_number_lem ∙ sym (ap (beside l) is_number_lem ∙ rw h refl)

    pub is_unlisted : (l : Names) → has l (get_or room (n + 1) 0) ≡ false → Unlisted (get_or room (n + 1) 0) ≡ beside l a
    unfolding beside when◌then◌else◌
    is_unlisted l h = sym (ap (beside l) is_number_lem ∙ rw h refl)

  -- Another is stored over it.
  pub stored_anew : (b : Answer) → sets room n (record_of b) ≡ sets d n (record_of b)
  stored_anew b = rw s.is (stored_over d n (record_of a) (record_of b) (record_three a ∙ sym (record_three b)))

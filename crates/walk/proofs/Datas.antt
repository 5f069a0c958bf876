-- Data in a row, of which some were passed.
use mathlib.Core.Path.{◌≡◌, ◌∙◌, ap, refl, sym}
use mathlib.Core.Bool.{Bool}
use mathlib.Core.List.{List, [], ◌∷◌}
use Prim.Native.Nat.{ℕ, suc, ◌+◌, ◌-◌, ◌*◌, ◌≤◌, ◌<◌}
use native.Mathlib.Omega.{arith}
use lib.Dec.{leb}
use lib.ListN.{length}
use Rattle.std.specs.Prelude.{Ok}
use Rattle.layout.specs.Result.{Result, ◌>>=◌, done, when◌then◌else◌}
use Rattle.layout.specs.Book.{Data}
use Rattle.layout.specs.BookRules.{parse_datas}
use Rattle.layout.specs.Operations.{told}
use Rattle.layout.specs.Message.{in_row, read_data, read_datas, skip_datas}
use Rattle.layout.specs.declared.Answer.{Answer}
use Rattle.layout.specs.declared.Answer.TheVariants.{Absent}
use Rattle.layout.proofs.Accepted.{datas_length_lem}
use Rattle.layout.proofs.Told.{inv_ok, tells}
use Rattle.layout.proofs.Results.{bind_assoc, bind_done, done_inj, inv_bind, inv_both, one_less, some_left}
use Rattle.wire.proofs.Steps.{steps}
use Rattle.walk.specs.Walks.{after_datas, data_at, datas_end}
use Rattle.walk.proofs.Surplus.{and_skip, skip_first}

-- The n data at a of the prepared numbers p, and s surplus ones.
module _ (big : Bool) (m : List ℕ) (v : ℕ) (p : List ℕ) (s : ℕ) where
  abbrev pub datas_at : ℕ → ℕ → ℕ → Result (List Answer × ℕ)
  datas_at n a at = read_datas big m v (parse_datas p n a) s at

  pub datas_step : (n a at : ℕ) → 0 < n → datas_at n a at
      ≡ (data_at p a big m v at >>= λ d. datas_at (n - 1) (a + 2) d.1
      >>= λ r. done (d.0 ∷ r.0, r.1))
  unfolding read_datas parse_datas
  datas_step n a at h = rw (some_left h, one_less) refl

-- Of n data at a and then s surplus ones i were passed.
module _ (big : Bool) (m : List ℕ) (v : ℕ) (p : List ℕ) (n s a : ℕ) where
  unfoldable pub datas_left : ℕ → ℕ → Result (List Answer × ℕ)
  datas_left i at = read_datas big m v (parse_datas p (n - i) (a + 2 * i)) (s - (i - n)) at

  pub datas_all : (at : ℕ) → datas_left 0 at ≡ read_datas big m v (parse_datas p n a) s at
  unfolding datas_left
  datas_all at =
      let all : n - 0 ≡ n = omega arith in
      let over : s - (0 - n) ≡ s = omega arith in
      let from : a + 2 * 0 ≡ a = omega arith in
      rw (all, over, from) refl

  module _ (i at : ℕ) where
    pub datas_done : n + s ≤ i → datas_left i at ≡ done ([], at)
    unfolding datas_left read_datas parse_datas in_row ◌>>=◌
    datas_done h =
        let none : n - i ≡ 0 = omega arith in
        let over : s - (i - n) ≡ 0 = omega arith in
        rw (none, over) refl

    pub data_own : i < n → datas_left i at
        ≡ (data_at p (a + 2 * i) big m v at >>= λ d. datas_left (i + 1) d.1 >>= λ r. done (d.0 ∷ r.0, r.1))
    unfolding datas_left read_datas parse_datas
    data_own h =
        let some : n - i ≡ suc (n - (i + 1)) = omega arith in
        let over : s - (i + 1 - n) ≡ s - (i - n) = omega arith in
        let from : a + 2 * (i + 1) ≡ a + 2 * i + 2 = omega arith in
        rw (some, over, from) refl

    pub data_over : n ≤ i → i < n + s → datas_left i at ≡ (read_data big m at >>= λ d. datas_left (i + 1) d.1)
    unfolding datas_left read_datas parse_datas in_row
    data_over h k =
        let none : n - i ≡ 0 = omega arith in
        let none' : n - (i + 1) ≡ 0 = omega arith in
        let some : s - (i - n) ≡ suc (s - (i + 1 - n)) = omega arith in
        rw (none, none', some) (simp (bind_assoc, bind_done) refl)

-- ---- surplus data come after the row

module _ (big : Bool) (m : List ℕ) (n : ℕ) where
  pub datas_surplus : (v : ℕ) (ds : List Data) (at : ℕ)
      → read_datas big m v ds n at ≡ (read_datas big m v ds 0 at >>= and_skip (skip_datas big m n))
  unfolding read_datas in_row ◌>>=◌
  datas_surplus v [] at = refl
  datas_surplus v (d ∷ ds) at =
      skip_first (skip_datas big m n) (when leb d.since v then read_data big m at else done (Absent, at)) (λ a. a.1)
      (λ a rest. a.0 ∷ rest) (read_datas big m v ds n) (read_datas big m v ds 0) (λ x. datas_surplus v ds x)

-- ---- as many are read as there are

pub datas_length : (big : Bool) (m : List ℕ) (v : ℕ) (ds : List Data) (n at : ℕ) (r : List Answer × ℕ)
    → read_datas big m v ds n at ≡ done r → length r.0 ≡ length ds
unfolding read_datas
datas_length big m v [] n at r e = ap (λ (x : List Answer × ℕ). length x.0) (sym (done_inj (inv_bind _ _ _ e).next))
datas_length big m v (d ∷ ds) n at r e =
    let a = inv_both _ _ _ _ e in
    ap (λ (x : List Answer × ℕ). length x.0) (sym a.is) ∙ ap suc (datas_length big m v ds n _ a.other a.second)

-- Where their octet is told, so is their number.
pub datas_told : (big : Bool) (m : List ℕ) (v : ℕ) (p : List ℕ) (n a s at x : ℕ)
    → Ok x ≡ told after_datas (read_datas big m v (parse_datas p n a) s at)
    → told (datas_end 0) (read_datas big m v (parse_datas p n a) s at) ≡ Ok (x, n)
datas_told big m v p n a s at x e =
    let g = inv_ok after_datas (read_datas big m v (parse_datas p n a) s at) x e in
    let many : 0 + length g.value.0 ≡ n =
    omega (arith, datas_length big m v (parse_datas p n a) s at g.value g.is, datas_length_lem p n a) in
    tells (datas_end 0) g.is ∙ rw (g.gives, many) refl

pub ruleset datas = (datas_all, datas_done, data_own, data_over, steps)

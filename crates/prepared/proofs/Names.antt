-- What the place of a field's list leads to.
use mathlib.Core.Path.{◌∙◌, ◌≡◌, refl, sym}
use mathlib.Core.Bool.{false}
use mathlib.Core.List.{List, []}
use Prim.Native.Nat.{ℕ, zero, suc, ◌+◌}
use native.Mathlib.Omega.{arith}
use lib.Dec.{eqb}
use borrow.Author.Tests.{eq-eqb, ltb-false, ne_eqb}
use Rattle.layout.specs.Result.{when◌then◌else◌}
use Rattle.layout.specs.Lists.{Kind, Names, enumeration, find_names, free, missing, names_of, no_names, set}
use Rattle.layout.specs.BookRules.{word}
use Rattle.layout.proofs.Results.{either}
use Rattle.prepared.specs.Names.{HasNames, has_lists, list_at, lists_at, lists_in, names_at}
use Rattle.prepared.specs.Positions.{IsField, field_at}

module _ {p : List ℕ} {x : ℕ} {l : Names} (h : HasNames p x l) where
  pub names_free : x ≡ 0 → l ≡ no_names
  unfolding names_at when◌then◌else◌
  names_free e = sym h.names ∙ rw (eq-eqb x 0 e) refl

  pub names_here : (x ≡ 0 → ⊥) → l ≡ names_of (list_at p x)
  unfolding names_at when◌then◌else◌
  names_here n = sym h.names ∙ rw (ne_eqb x 0 n) refl

-- A place leads to no list that is missing.
lacks : Kind → ℕ
lacks missing = 1
lacks free = 0
lacks enumeration = 0
lacks set = 0

never_missing : (p : List ℕ) (x : ℕ) → lacks (names_at p x).kind ≡ 0
unfolding names_at lacks
never_missing p x =
    either (λ (l : Names). lacks l.kind ≡ 0) (eqb x 0) no_names (names_of (list_at p x)) refl
    (either (λ k. lacks k ≡ 0) (eqb (list_at p x).kind 0) enumeration set refl refl)

-- Where there are no lists, no field that keeps the rules has one.
pub no_lists : {p : List ℕ} {f t : ℕ} → IsField p f t → has_lists p ≡ false → (field_at p f).names ≡ no_names
unfolding find_names lacks lists_at lists_in
no_lists {p} {f} {t} field none =
    let many : word p 3 ≡ 0 = omega (arith, ltb-false 0 (word p 3) none) in
    rw many (go (word p (f + 6)) (rw (field.derived.names.names, many) at (never_missing p (word p (t + 5)))))
  where
    go : (w : ℕ) → lacks (find_names w []).kind ≡ 0 → find_names w [] ≡ no_names
    go zero h = refl
    go (suc id) h = absurd (omega (arith, h))

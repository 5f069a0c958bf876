-- What the search for a key says where keys rise.
use Rattle.std.proofs.Common.{◌≡◌, ℕ, ◌-◌, ◌<◌, ◌≤◌, arith, Option, Some, None, IfNone, IfSome, MatchOption}

module _ (key : ℕ → ℕ) (n x : ℕ) where
  -- The index whose key is x, if there is one.
  abbrev pub IsPlace : Option ℕ → Type 0
  IsPlace r = MatchOption r ((i : ℕ) → i < n → key i ≡ x → ⊥) (λ i. (i < n) × (key i ≡ x))

  -- It is what was met; what was missed lies beside x.
  pub is_place : {Met : ℕ → Type 0} {Missed : Type 0} → ((i j : ℕ) → i < j → j < n → key i < key j) → (r : Option ℕ)
      → IfSome r (λ i. i < n) → IfSome r Met → IfNone r Missed → ((i : ℕ) → Met i → key i ≡ x)
      → (Missed → (i : ℕ) × (i ≤ n) × (0 < i → key (i - 1) < x) × (i < n → x < key i)) → IsPlace r
  is_place rising (Some i) inside met missing is beside = (inside, is i met)
  is_place rising None inside met missing is beside = λ j h e.
      let lies = beside missing in
      let i = lies.0 in
      let less : 0 < i → key (i - 1) < x = lies.2 in
      let more : i < n → x < key i = lies.3 in
      grind (arith, lies.1, less, more, rising j (i - 1), rising i j)

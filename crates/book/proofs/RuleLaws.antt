-- The rules of 5 and of 6 over a row, one element at a time, as the loops find them.
use mathlib.Core.Path.{◌≡◌, refl}
use mathlib.Core.Bool.{Bool, false, true}
use mathlib.Core.List.{List, [], ◌∷◌}
use Prim.Native.Nat.{◌*◌, ◌+◌, ◌-◌, ◌<◌, ◌≤◌, suc, ℕ}
use native.Mathlib.Omega.{arith}
use lib.Dec.{leb}
use Rattle.layout.proofs.Results.{and_assoc}
use Rattle.layout.specs.Result.{◌and◌}
use Rattle.layout.specs.Lists.{NameList}
use Rattle.layout.specs.Book.{Field, data_sinces, end, field_sinces}
use Rattle.layout.specs.BookRules.{field_at, fields_good, fields_since, parse_datas, parse_fields, rising, word}
use Rattle.book.specs.Answers.{all_rules, field_of, fields_rules, rules_are}
use Rattle.book.specs.declared.Rules.{Rules}
use Rattle.book.proofs.Rows.{known}

pub rules_assoc : (a b c : Rules) → all_rules (all_rules a b) c ≡ all_rules a (all_rules b c)
unfolding all_rules
rules_assoc a b c =
    rw (and_assoc a.layout b.layout c.layout, and_assoc a.since b.since c.since) refl

pub rules_start : (a : Rules) → all_rules (rules_are true true) a ≡ a
unfolding all_rules ◌and◌
rules_start a = refl

-- ---- fields

later_fields : (version low : ℕ) (ss : List ℕ) → rising version low ss ≡ fields_since version low version ss
unfolding rising fields_since
later_fields version low [] = refl
later_fields version low (s ∷ ss) = refl

fields_rules_lem : (version low high l e : ℕ) (f : Field) (fs : List Field)
    → fields_rules version low high l e (f ∷ fs)
    ≡ all_rules (field_of l e low high f).rules (fields_rules version f.since version l (end f) fs)
unfolding fields_good fields_since all_rules
fields_rules_lem version low high l e f fs =
    rw (← (later_fields version f.since (field_sinces fs)), and_assoc (leb low f.since)) refl

-- Of n fields from word `from` on, those from field i on.
abbrev pub fields_left : List NameList → List ℕ → ℕ → ℕ → ℕ → List Field
fields_left ls b from n i = parse_fields ls b (n - i) (from + 7 * i)

fields_step : (ls : List NameList) (b : List ℕ) (from n i : ℕ) → i < n
    → fields_left ls b from n i ≡ field_at ls b (from + 7 * i) ∷ fields_left ls b from n (i + 1)
unfolding parse_fields
fields_step ls b from n i h =
    let q : n - i ≡ suc (n - (i + 1)) = omega arith in
    let r : from + 7 * (i + 1) ≡ from + 7 * i + 7 = omega arith in
    rw (q, r) refl

pub fields_start : (ls : List NameList) (b : List ℕ) (version low high l e from n : ℕ)
    → fields_rules version low high l e (parse_fields ls b n from)
    ≡ all_rules (rules_are true true) (fields_rules version low high l e (fields_left ls b from n 0))
fields_start ls b version low high l e from n =
    let q : n - 0 ≡ n = omega arith in
    let r : from + 7 * 0 ≡ from = omega arith in
    rw (rules_start, q, r) refl

-- A field more: `so_far` are the rules of the fields before it.
pub fields_more : (ls : List NameList) (b : List ℕ) (version low high l e from n i : ℕ) (so_far : Rules) → i < n
    → let f = field_at ls b (from + 7 * i) in
    all_rules so_far (fields_rules version low high l e (fields_left ls b from n i))
    ≡ all_rules (all_rules so_far (field_of l e low high f).rules)
    (fields_rules version f.since version l (end f) (fields_left ls b from n (i + 1)))
fields_more ls b version low high l e from n i so_far h =
    rw (
      fields_step ls b from n i h,
      fields_rules_lem version low high l e (field_at ls b (from + 7 * i)) (fields_left ls b from n (i + 1)),
      ← rules_assoc,
    ) refl

pub and_true : (a : Bool) → (a and true) ≡ a
unfolding ◌and◌
and_true true = refl
and_true false = refl

pub fields_end_lem : (ls : List NameList) (b : List ℕ) (version low high l e from n i : ℕ) (so_far : Rules) → n ≤ i
    → all_rules so_far (fields_rules version low high l e (fields_left ls b from n i)) ≡ so_far
unfolding parse_fields fields_good fields_since all_rules
fields_end_lem ls b version low high l e from n i so_far h =
    let q : n - i ≡ 0 = omega arith in
    rw (q, and_true so_far.layout, and_true so_far.since) refl

pub ruleset field_laws = (known, fields_start, fields_more, fields_end_lem)

-- ---- data

-- The sinces of those of n data from word `from` on that come from data i on.
abbrev pub datas_left : List ℕ → ℕ → ℕ → ℕ → List ℕ
datas_left b from n i = data_sinces (parse_datas b (n - i) (from + 2 * i))

module _ (b : List ℕ) (high low from n i : ℕ) where
  pub datas_end : n ≤ i → rising high low (datas_left b from n i) ≡ true
  unfolding rising parse_datas
  datas_end h = let q : n - i ≡ 0 = omega arith in rw q refl

  pub datas_more : i < n → let since = word b (from + 2 * i + 1) in
      rising high low (datas_left b from n i)
      ≡ ((leb low since and leb since high) and rising high since (datas_left b from n (i + 1)))
  unfolding rising parse_datas
  datas_more h =
      let q : n - i ≡ suc (n - (i + 1)) = omega arith in
      let r : from + 2 * (i + 1) ≡ from + 2 * i + 2 = omega arith in
      rw (q, r, and_assoc (leb low (word b (from + 2 * i + 1)))) refl

pub ruleset data_laws = (known, datas_end, datas_more)

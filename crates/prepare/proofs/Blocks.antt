-- A block's numbers, as they are stored.
use Rattle.std.proofs.Common.{◌≡◌, ℕ, zero, suc, ◌+◌, ◌*◌, Bool, List, [], ◌∷◌, ◌++◌, length, set, sym, refl, ap, ◌∙◌, append_assoc, add-zero, add-suc, suc-add, zero-add, add-one, arith, length-append}
use native.Mathlib.Numerals.{towards_suc}
use lib.Seq.{sets}
use Rattle.octets.proofs.Joined.{sets_append}
use Rattle.layout.specs.Result.{when◌then◌else◌}
use Rattle.layout.specs.Octets.{words_of}
use Rattle.layout.specs.Lists.{NameList}
use Rattle.layout.specs.Book.{need as need_of}
use Rattle.layout.specs.BookRules.{field_at, parse_datas, parse_fields, word}
use Rattle.number_types.specs.Value.{order_of}
use Rattle.prepared.specs.Numbers.{block_of, block_size, datas_of, fields_of, place_of, table_of}
use Rattle.layout.proofs.Accepted.{datas_length_lem}
use Rattle.prepared.proofs.Accepted.{fields_length}
use Rattle.prepared.proofs.Prepared.{length_table}
use Rattle.prepare.specs.Positions.{elements_at, head_at, many_datas, many_fields, many_groups, shape_at, size_at}
use Rattle.prepare.specs.Positions.{words_from, worked}

-- What says `unfolding chosen` opens a choice.
unfoldable pub chosen : Unit {0}
unfolding when◌then◌else◌
chosen = tt

-- ---- words

length_words : (s : List ℕ) (n w : ℕ) → length (words_from s n w) ≡ n
length_words s zero w = refl
length_words s (suc n) w = ap suc (length_words s n (suc w))

words_join : (s : List ℕ) (m n w : ℕ) → words_from s (m + n) w ≡ words_from s m w ++ words_from s n (w + m)
words_join s zero n w = rw (zero-add, add-zero) refl
words_join s (suc m) n w =
    rw (suc-add, add-suc, ← suc-add) (ap (λ (l : List ℕ). word (words_of s) w ∷ l) (words_join s m n (suc w)))

-- One more is stored.
pub words_more : (s d : List ℕ) (start i from : ℕ)
    → set (sets d start (words_from s i from)) (start + i) (word (words_of s) (from + i))
    ≡ sets d start (words_from s (i + 1) from)
words_more s d start i from = rw (words_join s i 1 from, sets_append d start, length_words s i from) refl

fields_words : (ls : List NameList) (s : List ℕ) (n w : ℕ)
    → fields_of (parse_fields ls (words_of s) n w) ≡ words_from s (7 * n) w
unfolding fields_of parse_fields
fields_words ls s zero w = refl
fields_words ls s (suc n) w =
    let e : 7 * suc n ≡ suc (suc (suc (suc (suc (suc (suc (7 * n))))))) = omega arith in
    rw (e, fields_words ls s n (w + 7)) (simp towards_suc)

datas_words : (s : List ℕ) (n w : ℕ) → datas_of (parse_datas (words_of s) n w) ≡ words_from s (2 * n) w
unfolding datas_of parse_datas
datas_words s zero w = refl
datas_words s (suc n) w =
    let e : 2 * suc n ≡ suc (suc (2 * n)) = omega arith in
    rw (e, datas_words s n (w + 2)) (simp towards_suc)

-- ---- tables

module _ (ls : List NameList) (b : List ℕ) (from : ℕ) (big : Bool) where
  table_last : (i w : ℕ) → table_of ls from big (parse_fields ls b (suc i) w)
      ≡ table_of ls from big (parse_fields ls b i w) ++ table_of ls from big (field_at ls b (w + 7 * i) ∷ [])
  unfolding table_of parse_fields
  table_last zero w = let q : w + 7 * 0 ≡ w = omega arith in rw q refl
  table_last (suc i) w = let q : w + 7 * suc i ≡ w + 7 + 7 * i = omega arith in rw (q, table_last i (w + 7)) refl

  -- The row of one more field is stored, of type t with this order, its list at `place`.
  pub table_more : (d : List ℕ) (start i w t order place : ℕ) → t ≡ word b (w + 7 * i + 1) → order ≡ order_of big
      → place ≡ place_of (word b (w + 7 * i + 6)) ls from
      → sets (sets d start (table_of ls from big (parse_fields ls b i w))) (start + 6 * i) (worked t order place)
      ≡ sets d start (table_of ls from big (parse_fields ls b (i + 1) w))
  unfolding table_of
  table_more d start i w t order place is-t is-order is-place =
      let fs = parse_fields ls b i w in
      let long : length (table_of ls from big fs) ≡ 6 * i =
      omega (arith, length_table ls from big fs, fields_length ls b i w) in
      rw (add-one i, table_last i w, sets_append d start, long, is-t, is-order, is-place) refl

-- ---- a block's numbers

module _ (ls : List NameList) (s : List ℕ) (w : ℕ) where
  fields_are : length (shape_at ls s w).fields ≡ many_fields s w
  fields_are = fields_length ls (words_of s) (many_fields s w) (w + 4)

  datas_are : length (shape_at ls s w).datas ≡ many_datas s w
  datas_are = datas_length_lem (words_of s) (many_datas s w) (w + 4 + 7 * many_fields s w)

  pub block_size_lem : block_size (shape_at ls s w) ≡ size_at s w
  block_size_lem = omega (arith, fields_are, datas_are)

  module _ (from : ℕ) (big : Bool) where
    pub elements_long : length (elements_at ls s w from big) + 12 ≡ size_at s w
    elements_long = simp (length-append, length_words, length_table, fields_are) (omega arith)

    -- n words are stored, and then the table of f fields.
    pub elements_stored : (f n start : ℕ) (d d₁ d₂ : List ℕ) → f ≡ many_fields s w → n ≡ 7 * f + 2 * many_datas s w
        → d₁ ≡ sets d start (words_from s n (w + 4))
        → d₂ ≡ sets d₁ (start + n) (table_of ls from big (parse_fields ls (words_of s) f (w + 4)))
        → d₂ ≡ sets d start (elements_at ls s w from big)
    elements_stored f n start d d₁ d₂ ef en p q =
        let k = 7 * many_fields s w + 2 * many_datas s w in
        let table = table_of ls from big (shape_at ls s w).fields in
        q ∙ rw (p, en, ef) (sym (sets_append d start (words_from s k (w + 4)) table ∙ rw length_words refl))

    pub block_is : (version id since need next at : ℕ) → need ≡ need_of version (shape_at ls s w)
        → block_of ls from big version id since (shape_at ls s w) (many_groups s w) next at
        ≡ head_at s w id since need (order_of big) next at ++ elements_at ls s w from big
    block_is version id since need next at en =
        let f = many_fields s w in
        let d = many_datas s w in
        let q : at + (12 + 7 * f + 2 * d + 6 * f) ≡ at + size_at s w = omega arith in
        rw (
          en,
          fields_are,
          datas_are,
          q,
          fields_words ls s f (w + 4),
          datas_words s d (w + 4 + 7 * f),
          words_join s (7 * f) (2 * d) (w + 4),
          append_assoc,
        ) refl

-- One law for each part that is judged: what is told of it is told of its first step, and then of the rest.
use Rattle.std.proofs.Common.{◌≡◌, ℕ, zero, suc, ◌+◌, ◌-◌, ◌*◌, ◌/◌, ◌%◌, ◌^◌, ◌<◌, ◌≤◌, Bool, true, false, eqb, leb, ltb, List, length, sym, refl, ap, ◌∙◌, mul-le-mul, mul-zero, add-one, arith, ltb-true, eqb-true, leb-true}
use Rattle.std.specs.Prelude.{Err, Ok}
use native.Mathlib.Nat.{sub-zero, zero-add}
use borrow.Author.Tests.{eqb-false}
use Rattle.layout.specs.Result.{Result, done, must, when◌then◌else◌, ◌and◌, ◌>>=◌}
use Rattle.layout.specs.Octets.{null16}
use Rattle.layout.specs.Types.{in_range, type_at}
use Rattle.layout.specs.Lists.{has, is_listed, names_of}
use Rattle.layout.specs.Book.{Field, Groups, Shape, is_array}
use Rattle.layout.specs.BookRules.{parse_datas, parse_fields, word}
use Rattle.layout.specs.Operations.{Told, checked, refusal, told}
use Rattle.layout.specs.Values.{Values}
use Rattle.layout.specs.Message.{dimension_size}
use Rattle.layout.specs.Writing.{datas_length, first, is_group, is_null, is_octets, is_there, judge_block, judge_data}
use Rattle.layout.specs.Writing.{judge_datas, judge_entries, judge_field, judge_fields, judge_groups, judge_listing, judge_null}
use Rattle.layout.specs.Writing.{judge_octets, judge_text, number_fits, row_length, second, span_of, text_fits, third}
use Rattle.layout.specs.declared.Answer.{Answer}
use Rattle.layout.specs.declared.Answer.TheVariants.{Null, Octets}
use Rattle.layout.specs.declared.Reason.TheVariants.{EntriesTooMany, OctetsWrong, RecordWrong, ValueWrong}
use Rattle.layout.proofs.Results.{and_left, and_right, bind_assoc, bind_done, each_way}
use Rattle.layout.proofs.Said.{ArraySaid, array_said, null, number_said, octets_said, plain, text}
use Rattle.layout.proofs.Told.{inv_ok}
use Rattle.layout.proofs.TypeLaws.{inside_not_null}
use Rattle.prepared.specs.Names.{has_lists, list_at, lists_at}
use Rattle.prepared.specs.Positions.{IsBlock, IsField, Opened, datas_from, field_at, groups_at, groups_from}
use Rattle.prepared.specs.Positions.{inner_at, many_datas, many_groups, next_from, shape_at}
use Rattle.prepared.specs.Books.{template_at}
use Rattle.prepared.proofs.Open.{no_datas_at, no_groups_at, some_follow}
use Rattle.prepared.proofs.Names.{names_free, names_here, no_lists}
use Rattle.prepared.proofs.Ranges.{in_range_lem}
use Rattle.judges.specs.Judges.{capped, datas_end, entries_at, fields_end, judged, limit, listing_end, octets_end}
use Rattle.judges.specs.Judges.{row_end}
use Rattle.judges.specs.declared.Judged.{Judged}
use Rattle.judges.proofs.Steps.{and_tells, ends_told, goes_on, must_told, on_good, step_told}

-- What judging comes to.
abbrev pub ends_at : ℕ → ℕ → Judged
ends_at x k = record { next = x; length = k }

-- ---- octets

-- A test that begins with whether record i is there.
there_is : (l : List ℕ) (i : ℕ) (t : Bool) → (is_there l i and t) ≡ true → 3 * i + 3 ≤ length l
there_is l i t h = leb-true (3 * i + 3) (length l) (and_left _ _ h)

module _ (l pool : List ℕ) (i : ℕ) where
  abbrev pub octets_told : Told ℕ
  octets_told = told octets_end (judge_octets l pool true i)

  -- Octets that are to fit besides.
  pub octets_law : {D : Type 0} (g : Answer → D) (fits : Bool) → told g (judge_octets l pool fits i)
      ≡ on_good octets_told (λ n. when fits then Ok (g (Octets (second l i) (third l i))) else Err (refusal OctetsWrong i))
  unfolding judge_octets told must ◌>>=◌ ◌and◌ on_good when◌then◌else◌
  octets_law g fits =
      go (is_octets l i) (leb (second l i + third l i) (length pool)) fits
    where
      judge : Bool → Bool → Result Answer
      judge a b = must a RecordWrong i >>= λ _. must b OctetsWrong i >>= λ _. done (Octets (second l i) (third l i))

      go : (a b fits : Bool) → told g (judge a (b and fits)) ≡ on_good (told octets_end (judge a (b and true)))
          (λ n. when fits then Ok (g (Octets (second l i) (third l i))) else Err (refusal OctetsWrong i))
      go false b fits = refl
      go true false fits = refl
      go true true true = refl
      go true true false = refl

  -- What was judged good: so many octets the record has, and they are in the pool.
  pub was_octets : (n : ℕ) → Ok n ≡ octets_told
      → (n ≡ third l i) × (3 * i + 3 ≤ length l) × (second l i + third l i ≤ length pool)
  unfolding span_of
  was_octets n e =
      let q = inv_ok octets_end (judge_octets l pool true i) n e in
      let o = (octets_said l pool true i q.value q.is).0 in (
        sym q.gives ∙ ap octets_end (sym o.is),
        there_is l i _ o.kind,
        o.within,
      )

-- ---- text

module _ (l pool p : List ℕ) (f i : ℕ) where
  -- A record of null's kind is no octets.
  null_kind : eqb (first l i) 1 ≡ true → is_octets l i ≡ false
  unfolding ◌and◌
  null_kind e = rw (eqb-true (first l i) 1 e) (each_way (is_there l i) (λ t. rw t refl) (λ t. rw t refl))

  -- A record of null's kind that is no null is refused either way.
  pub text_law : {D : Type 0} (g : Answer → D) → told g (judge_text l pool (field_at p f) i) ≡ (when is_null l i then
      when eqb (word p (f + 4)) 1 then Ok (g Null) else Err (refusal ValueWrong i)
      else told g (judge_octets l pool (text_fits l pool (field_at p f) i) i))
  unfolding judge_null judge_octets told must ◌>>=◌ when◌then◌else◌
  text_law g =
      each_way (is_null l i)
      (λ e. rw (e, and_left _ _ (and_right _ _ e)) (each_way (eqb (word p (f + 4)) 1) (λ k. rw k refl) (λ k. rw k refl)))
      (λ e. each_way (eqb (first l i) 1) (λ k. rw (e, null_kind k, k) refl) (λ k. rw (e, k) refl))

  pub null_there : is_null l i ≡ true → 3 * i + 3 ≤ length l
  null_there e = there_is l i _ e

pub ruleset texts = (text_law, null_there, octets_law, was_octets, goes_on)

pub ruleset octets = (octets_law, was_octets, goes_on)

-- ---- numbers

module _ (l : List ℕ) (i : ℕ) {p : List ℕ} {f t : ℕ} (field : IsField p f t) where
  -- The field's list is the one at its place, if any.
  names_law : (x : ℕ) → has (field_at p f).names x ≡ (when has_lists p then
      when eqb (word p (t + 5)) 0 then true else has (names_of (list_at p (word p (t + 5)))) x
      else true)
  unfolding when◌then◌else◌ is_listed
  names_law x =
      each_way (has_lists p)
      (λ e. each_way (eqb (word p (t + 5)) 0)
      (λ k. rw (e, k, names_free field.derived.names (eqb-true (word p (t + 5)) 0 k)) refl)
      (λ k. rw (e, k, names_here field.derived.names (eqb-false (word p (t + 5)) 0 k)) refl))
      (λ e. rw (e, no_lists field e) refl)

  -- A number is in range where it is no farther above the least than the spread.
  pub fits_law : word p (t + 1) < 2 ^ 64 → second l i < 2 ^ 64
      → number_fits l (field_at p f) i ≡ (when eqb (first l i) 1 then eqb (word p (f + 4)) 1
      else (leb ((second l i + (2 ^ 64 - word p (t + 1))) % 2 ^ 64) (word p (t + 2)) and (when has_lists p then
      when eqb (word p (t + 5)) 0 then true else has (names_of (list_at p (word p (t + 5)))) (second l i)
      else true)))
  unfolding ◌and◌
  fits_law h k =
      let type = (field_at p f).type in
      let x = second l i in
      let d = (x + (2 ^ 64 - word p (t + 1))) % 2 ^ 64 in
      let in_type : in_range (type_at type) x ≡ leb d (word p (t + 2)) =
      in_range_lem type x d _ _ (omega arith) (omega arith) field.derived.least field.derived.spread in
      ap (λ (b : Bool). when eqb (first l i) 1 then eqb (word p (f + 4)) 1 else b)
      (each_way (in_range (type_at type) x)
      (λ e. rw (← in_type, e, inside_not_null type x e) (names_law x))
      (λ e. rw (← in_type, e) refl))

-- ---- fields and data in a row

module _ (l pool : List ℕ) (f : Field) (i : ℕ) where
  array_there : {a : Answer} → ArraySaid l pool f i a → 3 * i + 3 ≤ length l
  array_there (null c n o e) = there_is l i _ n
  array_there (text c s h) = there_is l i _ s.kind
  array_there (plain c s h) = there_is l i _ s.kind

  -- What was judged good: the field's record is there.
  pub was_field : (u : Unit {0}) → Ok u ≡ checked (judge_field l pool f i) → 3 * i + 3 ≤ length l
  was_field u e =
      let is = (inv_ok _ (judge_field l pool f i) u e).is in
      each_way (is_array f) (λ a. array_there (array_said l pool f i _ a is)) (λ a. there_is l i _ (number_said l pool f i _ a is).kind)

module _ (l pool p : List ℕ) (a : ℕ) where
  -- Fields in a row at f.
  abbrev pub fields_told : ℕ → ℕ → ℕ → Told ℕ
  fields_told n f i = told fields_end (judge_fields l pool (parse_fields (lists_at p) p n f) i)

  pub fields_law : (n f i : ℕ) → 0 < n → fields_told n f i
      ≡ on_good (checked (judge_field l pool (field_at p f) i)) (λ _. fields_told (n - 1) (f + 7) (i + 1))
  unfolding judge_fields parse_fields
  fields_law zero f i h = absurd (omega arith)
  fields_law (suc n) f i h =
      let fewer : suc n - 1 ≡ n = omega arith in
      rw fewer
      (step_told (λ _. tt) _ (judge_field l pool (field_at p f) i) _ _
      (λ a e. rw (add-one i) (ends_told _ _ _ _ (λ r. refl))))

  pub fields_done : (n f i : ℕ) → n ≤ 0 → fields_told n f i ≡ Ok i
  unfolding judge_fields parse_fields told
  fields_done n f i h =
      let none : n ≡ 0 = omega arith in rw none refl

  -- The data of the block from data k on, `seen` octets having been counted before.
  abbrev pub datas_told : ℕ → ℕ → ℕ → Told Judged
  datas_told k seen i =
      judged (datas_end seen) (judge_datas l pool (parse_datas p (many_datas p a - k) (datas_from p a + 2 * k)) i)

  pub datas_law : (k seen i : ℕ) → k < many_datas p a → datas_told k seen i
      ≡ on_good (told octets_end (judge_data l pool i)) (λ o. datas_told (k + 1) (capped (seen + (2 + o))) (i + 1))
  unfolding judge_datas parse_datas datas_length
  datas_law k seen i h =
      let n : many_datas p a - k ≡ suc (many_datas p a - (k + 1)) = omega arith in
      let d : datas_from p a + 2 * (k + 1) ≡ datas_from p a + 2 * k + 2 = omega arith in
      rw (n, d)
      (step_told octets_end _ (judge_data l pool i) _ _
      (λ a e. rw (add-one i) (ends_told _ _ _ _ λ r. ap (λ (o : ℕ). ends_at r.1 o) (omega arith))))

  pub datas_done : (k seen i : ℕ) → many_datas p a ≤ k → seen ≤ limit → datas_told k seen i ≡ Ok (ends_at i seen)
  unfolding judge_datas parse_datas datas_length told
  datas_done k seen i h s =
      let n : many_datas p a - k ≡ 0 = omega arith in rw n (ap (λ (o : ℕ). Ok (ends_at i o)) (omega arith))

pub ruleset fields = (fields_law, fields_done, was_field, goes_on)

pub ruleset datas = (datas_law, datas_done, octets_law, was_octets, goes_on)

-- ---- entries

-- An entry's block is one more of those that are added at last, and the octets of its groups and data are counted.
entry_counts : (seen l n g d rest : ℕ)
    → capped (seen + l * n + (l + (g + (d + rest)))) ≡ capped (capped (capped (seen + capped (0 + g)) + capped (0 + d)) + l * (n + 1) + rest)
entry_counts seen l n g d rest = omega arith

module _ (counted : Bool) (l pool : List ℕ) (s : Shape) (gs : Groups) where
  -- The entries of k after the first n, of whose groups and data `seen` octets were counted.
  unfoldable pub entries_told : ℕ → ℕ → ℕ → ℕ → Told Judged
  entries_told k n seen i =
      judged (row_end counted s gs (seen + s.length * n)) (judge_entries l pool (k - n) (judge_block l pool s (judge_groups l pool gs)) i)

  -- From the first on.
  pub entries_all : (k i : ℕ)
      → judged (row_end counted s gs 0) (judge_entries l pool k (judge_block l pool s (judge_groups l pool gs)) i)
      ≡ entries_told k 0 0 i
  unfolding entries_told
  entries_all k i = rw (zero-add, mul-zero, sub-zero) refl

  pub entries_law : (k n seen i : ℕ) → n < k → entries_told k n seen i
      ≡ on_good (told fields_end (judge_fields l pool s.fields i)) (λ x.
      on_good (judged (row_end counted s gs 0) (judge_groups l pool gs x)) (λ row.
      on_good (judged (datas_end 0) (judge_datas l pool s.datas row.next)) (λ datas.
      entries_told k (n + 1) (capped (capped (seen + row.length) + datas.length)) datas.next)))
  unfolding entries_told judge_entries judge_block row_length
  entries_law k n seen i h =
      let left : k - n ≡ suc (k - (n + 1)) = omega arith in
      rw (left, bind_assoc) (step_told fields_end _ (judge_fields l pool s.fields i) _ _ λ fs f.
      rw bind_assoc (step_told _ _ (judge_groups l pool gs fs.1) _ _ λ g r.
      rw bind_assoc (step_told _ _ (judge_datas l pool s.datas g.1) _ _ λ ds d.
      rw bind_done (ends_told _ _ _ _ λ rest. ap (λ (o : ℕ). ends_at rest.1 o) (entry_counts _ _ _ _ _ _)))))

  pub entries_done : (k n seen i : ℕ) → k ≤ n → entries_told k n seen i ≡ Ok (ends_at i (capped (seen + s.length * n)))
  unfolding entries_told judge_entries row_length told
  entries_done k n seen i h =
      let left : k - n ≡ 0 = omega arith in rw left (ap (λ (o : ℕ). Ok (ends_at i o)) (omega arith))

-- The octets of k blocks are a number of the machine's.
pub blocks_fit : (p : List ℕ) (a l k : ℕ) → IsBlock p a → l ≡ word p (a + 2) → k ≤ 65535 → l * k < 2 ^ 64
blocks_fit p a l k b w h =
    let short : l ≤ 65535 = omega (arith, w, ltb-true (word p (a + 2)) null16 (and_left _ _ b.good)) in
    omega (arith, mul-le-mul short h)

-- ---- groups in a row

module _ (counted : Bool) (l pool : List ℕ) (s : Shape) where
  -- Of the groups before them `seen` octets were counted.
  abbrev pub row_told : Groups → ℕ → ℕ → Told Judged
  row_told gs seen i = judged (row_end counted s gs seen) (judge_groups l pool gs i)

  module _ (p : List ℕ) (depth n g : ℕ) where
    pub row_law : (seen i : ℕ) → Opened p depth n g → row_told (groups_at p depth n g) seen i
        ≡ (when is_group l i then when ltb (second l i) null16 then
        on_good (judged (row_end counted (shape_at p g) (inner_at p (depth - 1) g) 0)
        (entries_at p (depth - 1) g l pool (second l i) (i + 1)))
        (λ w. row_told (groups_at p depth (n - 1) (next_from p g)) (capped (capped (seen + dimension_size counted) + w.length)) w.next)
        else Err (refusal EntriesTooMany i) else Err (refusal RecordWrong i))
    unfolding judge_groups row_length when◌then◌else◌
    row_law seen i o =
        rw o.tree (must_told _ (is_group l i) RecordWrong i _
        ∙ ap (λ (z : Told Judged). when is_group l i then z else Err (refusal RecordWrong i))
        (must_told _ (ltb (second l i) null16) EntriesTooMany i _
        ∙ ap (λ (z : Told Judged). when ltb (second l i) null16 then z else Err (refusal EntriesTooMany i))
        (rw (add-one i) (step_told _ _ (entries_at p (depth - 1) g l pool (second l i) (suc i)) _ _ λ es e.
        ends_told _ _ _ _ λ rest. ap (λ (o : ℕ). ends_at rest.1 o) (omega arith)))))

    pub row_done : (seen i : ℕ) → n ≤ 0 → seen ≤ limit → row_told (groups_at p depth n g) seen i ≡ Ok (ends_at i seen)
    unfolding judge_groups row_length told
    row_done seen i h b = rw (no_groups_at p depth n g h) (ap (λ (o : ℕ). Ok (ends_at i o)) (omega arith))

-- ---- a block that nothing follows

module _ (l pool p : List ℕ) (a x : ℕ) (b : IsBlock p a) (follow : word p (a + 7) ≡ 0) where
  pub no_row : (counted : Bool) (s : Shape) (depth : ℕ)
      → judged (row_end counted s (inner_at p depth a) 0) (judge_groups l pool (inner_at p depth a) x) ≡ Ok (ends_at x 0)
  no_row counted s depth =
      row_done counted l pool s p depth (many_groups p a) (groups_from p a) 0 x (omega (arith, some_follow b)) (omega arith)

  pub no_datas : judged (datas_end 0) (judge_datas l pool (shape_at p a).datas x) ≡ Ok (ends_at x 0)
  unfolding judge_datas datas_length told
  no_datas = rw (no_datas_at p (many_datas p a) (datas_from p a) (omega (arith, some_follow b))) refl

-- ---- a whole listing

module _ (counted : Bool) (l pool p : List ℕ) (a : ℕ) where
  abbrev root_is : Result (Values × ℕ)
  root_is = entries_at p 4 a l pool 1 0

  -- The root is one entry.
  root_step : judge_listing l pool (template_at p a)
      ≡ (root_is >>= λ r. must (eqb (3 * r.1) (length l)) RecordWrong r.1 >>= λ _. done r.0)
  unfolding judge_listing judge_entries ◌>>=◌
  root_step = sym (bind_assoc (judge_block l pool (shape_at p a) (judge_groups l pool (inner_at p 4 a)) 0) _ _)

  -- Nothing follows it.
  pub listing_law : judged (listing_end counted (shape_at p a) (inner_at p 4 a) l) (judge_listing l pool (template_at p a))
      ≡ on_good (judged (row_end counted (shape_at p a) (inner_at p 4 a) 0) root_is)
      (λ root. when eqb (3 * root.next) (length l) then Ok root else Err (refusal RecordWrong root.next))
  unfolding told ◌>>=◌ must when◌then◌else◌
  listing_law =
      rw root_step (step_told _ _ root_is _ _ λ r e.
      each_way (eqb (3 * r.1) (length l))
      (λ k. let x : length l / 3 ≡ r.1 = omega (arith, eqb-true (3 * r.1) (length l) k) in
      rw (k, x, zero-add) refl)
      (λ k. rw k refl))

pub ruleset entries = (entries_all, entries_law, entries_done, no_row, no_datas, goes_on)

pub ruleset row = (row_law, row_done, and_tells, goes_on)

pub ruleset listing = (listing_law, goes_on)

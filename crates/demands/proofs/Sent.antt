-- "Templates that can never be sent": rule 7 refuses those, and no other for its length.
use mathlib.Core.Path.{◌∙◌, ◌≡◌, ap, refl, subst, sym}
use mathlib.Core.Bool.{Bool, false, false≢true, true}
use mathlib.Core.List.{List, [], ◌++◌, ◌∷◌, map}
use Prim.Native.Nat.{◌*◌, ◌+◌, ◌<◌, ◌^◌, ◌≤◌, suc, zero, ℕ}
use native.Mathlib.Omega.{arith}
use lib.Dec.{eqb}
use lib.ListN.{length, length-replicate, replicate}
use borrow.Author.Tests.{eq-eqb, le-leb, leb-false, leb-true, ltb-true, ne_eqb, not-true}
use Rattle.layout.specs.Result.{Each, ◌>>=◌, ◌and◌, ◌or◌, done, when◌then◌else◌, must, refused}
use Rattle.layout.specs.Octets.{AllOctets, Numbers64, text_length}
use Rattle.layout.specs.Book.{Book, Data, Field, Groups, Shape, Template, end, group_sinces, is_array, is_char, is_optional}
use Rattle.layout.specs.Book.{more, none}
use Rattle.layout.specs.BookRules.{book_of, check_templates, each_must, fields_good, layout_good, least_length, length_good}
use Rattle.layout.specs.BookRules.{length_kept, tree_of}
use Rattle.layout.specs.Values.{Values, listing, nil, record_of, records_of}
use Rattle.layout.specs.Message.{dimension_size}
use Rattle.layout.specs.Writing.{datas_length, first, judge_array, judge_block, judge_datas, judge_field, judge_fields}
use Rattle.layout.specs.Writing.{judge_groups, judge_listing, message_octets, row_length, second, span_of, written_length}
use Rattle.layout.specs.Demands.{CanBeSent, HasValue, NeverSent, no_entries, shortest}
use Rattle.demands.proofs.Judging.{Judges, all_judged, block_next, datas_next, datas_stop, entries_stop}
use Rattle.demands.proofs.Judging.{fields_next, fields_stop, groups_next, groups_stop, null_judged}
use Rattle.demands.proofs.Judging.{null_text_judged, number_judged, octets_judged, record_is}
use Rattle.demands.proofs.Numbers.{tree_refuses}
use Rattle.demands.proofs.Outcomes.{writes_on}
use Rattle.layout.proofs.Accepted.{Accepted, each_good}
use Rattle.layout.proofs.Fields.{field_good_lem}
use Rattle.layout.proofs.Least.{least_written}
use Rattle.layout.proofs.Lengths.{written_long}
use Rattle.layout.proofs.Records.{record_three}
use Rattle.layout.proofs.Results.{and_both, and_left, and_right, each_way, inv_bind, inv_both, inv_refused, or_none}
use Rattle.layout.proofs.Results.{or_right}
use Rattle.layout.proofs.Said.{number_said}
use Rattle.layout.proofs.Stands.{Stands, all_stands, below_then, split_to}
use Rattle.layout.specs.declared.Answer.{Answer}
use Rattle.layout.specs.declared.Answer.TheVariants.{Null, Number, Octets}
use Rattle.layout.specs.Reasons.{number_of}
use Rattle.layout.specs.declared.Reason.{Reason}
use Rattle.layout.specs.declared.Reason.TheVariants.{BookLayout, BookSince, BookUnsendable}

-- ---- something for each field, of a pool of zeros

abbrev zeros : List ℕ
zeros = replicate 1024 0

-- What is written for a field.
record Filled (f : Field) : Type 0 where
  answer : Answer
  small : Numbers64 (record_of answer)
  judged : (l : List ℕ) (i to : ℕ) → Stands l (3 * i) (record_of answer) to → judge_field l zeros f i ≡ done answer

none_small : Numbers64 []
none_small i = omega arith

three_small : (kind b c : ℕ) → kind ≤ 6 → b < 2 ^ 64 → c < 2 ^ 64 → Numbers64 (kind ∷ b ∷ c ∷ [])
three_small kind b c p q r zero = omega arith
three_small kind b c p q r (suc zero) = q
three_small kind b c p q r (suc (suc zero)) = r
three_small kind b c p q r (suc (suc (suc i))) = omega arith

kind_small : (kind : ℕ) → kind ≤ 6 → Numbers64 (kind ∷ 0 ∷ 0 ∷ [])
kind_small kind h = three_small kind 0 0 h (omega arith) (omega arith)

module _ (f : Field) where
  array_short : length_good f ≡ true → is_array f ≡ true → f.length ≤ 1024
  array_short g y =
      let many = or_right _ _ g (ne_eqb f.length 1 λ e. omega (arith, ltb-true 1 f.length y)) in
      leb-true f.length 1024 (and_left _ _ (and_right _ _ many))

  -- Null for an optional text, no octets for a required one, all of its length for another array.
  array_filled : length_good f ≡ true → is_array f ≡ true → Filled f
  array_filled g y = go (is_char f) refl (is_optional f) refl
    where
      go : (c : Bool) → is_char f ≡ c → (o : Bool) → is_optional f ≡ o → Filled f
      go true c true o =
          record {
            answer = Null;
            small = unfold record_of in kind_small 1 (omega arith);
            judged = λ l i to s. unfold judge_array when◌then◌else◌ in rw (y, c) (null_text_judged l zeros f i to o s);
          }
      go true c false o =
          record {
            answer = Octets 0 0;
            small = unfold record_of in kind_small 2 (omega arith);
            judged = λ l i to s.
                let r = record_is l zeros i 2 0 0 to (unfold record_of in s) in
                unfold judge_array when◌then◌else◌ in
                rw (y, c, r.is₁)
                (octets_judged l zeros _ i 0 0 to
                (unfold ◌and◌ text_length in rw (r.is₂, r.is₃, le-leb 0 f.length (omega arith), o) refl)
                (omega arith) s);
          }
      go false c o' o =
          let short = array_short g y in
          record {
            answer = Octets 0 f.length;
            small = unfold record_of in three_small 2 0 f.length (omega arith) (omega arith) (omega arith);
            judged = λ l i to s.
                let r = record_is l zeros i 2 0 f.length to (unfold record_of in s) in
                unfold judge_array when◌then◌else◌ in
                rw (y, c)
                (octets_judged l zeros _ i 0 f.length to (eq-eqb _ _ r.is₃)
                (omega (arith, length-replicate {A = ℕ} 1024 0)) s);
          }

  number_filled : is_array f ≡ false → HasValue f → Filled f
  number_filled y h = go (is_optional f) refl
    where
      go : (o : Bool) → is_optional f ≡ o → Filled f
      go true o =
          record {
            answer = Null;
            small = unfold record_of in kind_small 1 (omega arith);
            judged = λ l i to s. unfold when◌then◌else◌ in rw y (null_judged l zeros f i to o s);
          }
      go false o =
          let x = h (unfold ◌or◌ in rw (y, o) refl) in
          let t = and_right _ _ x.2 in
          record {
            answer = Number x.0;
            small = unfold record_of in three_small 0 x.0 0 (omega arith) x.1 (omega arith);
            judged = λ l i to s.
                unfold when◌then◌else◌ in
                rw y (number_judged l zeros f i x.0 to (and_left _ _ x.2) (not-true _ (and_left _ _ t))
                (and_right _ _ t) s);
          }

  filled : length_good f ≡ true → HasValue f → Filled f
  filled g h = each_way (is_array f) (λ y. array_filled g y) (λ y. number_filled y h)

-- ---- and so for a row of them

record RowFilled (fs : List Field) : Type 0 where
  answers : List Answer
  small : Numbers64 (records_of answers)
  judged : (l : List ℕ) (i to : ℕ) → Stands l (3 * i) (records_of answers) to
      → Judges l zeros (judge_fields l zeros fs) i to answers

fields_filled : (len e : ℕ) (fs : List Field) → fields_good len e fs ≡ true → Each HasValue fs → RowFilled fs
unfolding Each records_of
fields_filled len e [] g h =
    record {
      answers = [];
      small = none_small;
      judged = λ l i to s. (i, omega (arith, s.ends), fields_stop l zeros i);
    }
fields_filled len e (f ∷ fs) g h =
    let k = field_good_lem len e f fs g in
    let a = filled f k.length h.0 in
    let r = fields_filled len (end f) fs k.rest h.1 in
    record {
      answers = a.answer ∷ r.answers;
      small = below_then (record_of a.answer) (records_of r.answers) a.small r.small;
      judged = λ l i to s.
          let o = split_to (record_of a.answer) (records_of r.answers) (3 * suc i)
          (omega (arith, record_three a.answer)) s in
          let w = r.judged l (suc i) to o.1 in
          (w.0, w.1, fields_next l zeros f fs i w.0 _ _ (a.judged l i (3 * suc i) o.0) w.2);
    }

-- ---- groups without entries, data without octets

groups_filled : (l : List ℕ) (gs : Groups) (i to : ℕ) → Stands l (3 * i) (listing (no_entries gs)) to
    → Judges l zeros (judge_groups l zeros gs) i to (no_entries gs)
unfolding no_entries listing record_of
groups_filled l none i to s = (i, omega (arith, s.ends), groups_stop l zeros i)
groups_filled l (more id since sh inner rest) i to s =
    let o = split_to (4 ∷ 0 ∷ 0 ∷ []) (listing (no_entries rest)) (3 * suc i) (omega arith) s in
    let w = groups_filled l rest (suc i) to o.1 in (
      w.0,
      w.1,
      groups_next l zeros id since sh inner rest i (suc i) 0 w.0 nil (no_entries rest)
          (record_is l zeros i 4 0 0 (3 * suc i) o.0) (omega arith)
          (entries_stop l zeros sh (judge_groups l zeros inner) (suc i)) w.2,
    )

abbrev no_octets : List Data → List Answer
no_octets ds = map (λ _. Octets 0 0) ds

datas_filled : (l : List ℕ) (ds : List Data) (i to : ℕ) → Stands l (3 * i) (records_of (no_octets ds)) to
    → Judges l zeros (judge_datas l zeros ds) i to (no_octets ds)
unfolding records_of record_of
datas_filled l [] i to s = (i, omega (arith, s.ends), datas_stop l zeros i)
datas_filled l (d ∷ ds) i to s =
    let o = split_to (2 ∷ 0 ∷ 0 ∷ []) (records_of (no_octets ds)) (3 * suc i) (omega arith) s in
    let w = datas_filled l ds (suc i) to o.1 in
    let r = record_is l zeros i 2 0 0 (3 * suc i) o.0 in (
      w.0,
      w.1,
      datas_next l zeros d ds i w.0 (Octets 0 0) (no_octets ds)
          (octets_judged l zeros _ i 0 0 (3 * suc i) (rw r.is₃ refl) (omega arith) o.0) w.2,
    )

groups_small : (gs : Groups) → Numbers64 (listing (no_entries gs))
unfolding no_entries listing record_of
groups_small none = none_small
groups_small (more id since s inner rest) =
    below_then (4 ∷ 0 ∷ 0 ∷ []) (listing (no_entries rest)) (kind_small 4 (omega arith)) (groups_small rest)

datas_small : (ds : List Data) → Numbers64 (records_of (no_octets ds))
unfolding records_of record_of
datas_small [] = none_small
datas_small (d ∷ ds) =
    below_then (2 ∷ 0 ∷ 0 ∷ []) (records_of (no_octets ds)) (kind_small 2 (omega arith)) (datas_small ds)

groups_long : (counted : Bool) (s : Shape) (gs : Groups)
    → row_length counted s gs (no_entries gs) ≡ dimension_size counted * length (group_sinces gs)
unfolding no_entries row_length group_sinces
groups_long counted s none = omega arith
groups_long counted s (more id since sh inner rest) = omega (arith, groups_long counted s rest)

datas_long : (ds : List Data) → datas_length (no_octets ds) ≡ 2 * length ds
unfolding datas_length span_of
datas_long [] = refl
datas_long (d ∷ ds) = omega (arith, datas_long ds)

-- ---- the whole listing

module _ (t : Template) (r : RowFilled t.shape.fields) where
  abbrev said : Values
  said = shortest t r.answers

  said_judged : judge_listing (listing said) zeros t ≡ done said
  unfolding listing
  said_judged =
      let l = listing said in
      let gs = listing (no_entries t.groups) in
      let ds = records_of (no_octets t.shape.datas) in
      let o = split_to (records_of r.answers) (gs ++ (ds ++ [])) _ refl (all_stands l) in
      let w = r.judged l 0 _ o.0 in
      let o₁ = split_to gs (ds ++ []) _ refl
      (subst (λ (y : ℕ). Stands l y (gs ++ (ds ++ [])) (length l)) w.1 o.1) in
      let w₁ = groups_filled l t.groups w.0 _ o₁.0 in
      let o₂ = split_to ds [] _ refl (subst (λ (y : ℕ). Stands l y (ds ++ []) (length l)) w₁.1 o₁.1) in
      let w₂ = datas_filled l t.shape.datas w₁.0 _ o₂.0 in
      all_judged l zeros t w₂.0 r.answers (no_entries t.groups) (no_octets t.shape.datas)
      (block_next l zeros t.shape (judge_groups l zeros t.groups) 0 w.0 w₁.0 w₂.0 _ _ _ w.2 w₁.2
      w₂.2) (omega (arith, w₂.1, o₂.1.ends))

  said_small : Numbers64 (listing said)
  unfolding listing
  said_small =
      let gs = listing (no_entries t.groups) in
      let ds = records_of (no_octets t.shape.datas) in
      below_then (records_of r.answers) (gs ++ (ds ++ [])) r.small
      (below_then gs (ds ++ []) (groups_small t.groups)
      (below_then ds [] (datas_small t.shape.datas) none_small))

  said_long : (b : Book) → written_length b t said ≡ least_length b.format t.shape t.groups
  unfolding row_length
  said_long b =
      omega (arith, groups_long b.format.in_groups t.shape t.groups, datas_long t.shape.datas)

-- ---- an accepted book

zeros_octets : (n : ℕ) → AllOctets (replicate n 0)
zeros_octets zero i = omega arith
zeros_octets (suc n) zero = omega arith
zeros_octets (suc n) (suc i) = zeros_octets n i

pub sent : (book : List ℕ) (b : Book) (t : Template) → book_of book ≡ done b → Accepted b t
    → Each HasValue t.shape.fields
    → CanBeSent book b t
unfolding must ◌>>=◌
sent book b t e a h =
    let fields = and_right _ _ (and_left _ _ a.layout) in
    let r = fields_filled t.shape.length 0 t.shape.fields fields h in
    let l = listing (said t r) in
    let least = least_length b.format t.shape t.groups in
    let n = written_length b t (said t r) in
    let same : n ≡ least = said_long t r b in
    let short = leb-true least 65535 a.length in
    let long = written_long l zeros b t (said t r) a.layout (said_judged t r) in
    record {
      fields = r.answers;
      pool = zeros;
      message = message_octets b t zeros (said t r);
      numbers = said_small t r;
      octets = zeros_octets 1024;
      long = long ∙ same;
      written = λ room fits.
          writes_on book t.id l zeros room b t (said t r) e a.there (said_judged t r) true
          (and_both (le-leb n room (omega (arith, long))) (le-leb n 65535 (omega (arith, same, short))));
    }

-- ---- what is written had something for each field

module _ (l pool : List ℕ) (small : Numbers64 l) where
  field_said : (f : Field) (i : ℕ) (a : Answer) → judge_field l pool f i ≡ done a → HasValue f
  unfolding ◌or◌ when◌then◌else◌
  field_said f i a e other =
      let y : is_array f ≡ false = (or_none (is_array f) (is_optional f) other).0 in
      let q = number_said l pool f i a y e in
      each_way (eqb (first l i) 1)
      (λ k. absurd (false≢true (sym (or_none (is_array f) (is_optional f) other).1 ∙ (rw k at q.fits))))
      (λ k. (second l i, small (3 * i + 1), rw k at q.fits))

  fields_said : (fs : List Field) (i : ℕ) (r : List Answer × ℕ) → judge_fields l pool fs i ≡ done r → Each HasValue fs
  unfolding judge_fields Each
  fields_said [] i r e = tt
  fields_said (f ∷ fs) i r e =
      let p = inv_both _ _ _ _ e in
      (field_said f i p.value p.first, fields_said fs (suc i) p.other p.second)

  pub said_has_values : (t : Template) (r : Values) → judge_listing l pool t ≡ done r → Each HasValue t.shape.fields
  unfolding judge_listing judge_block
  said_has_values t r e =
      let f = inv_bind _ _ _ (inv_both _ _ _ _ e).first in
      fields_said t.shape.fields 0 f.value f.first

-- ---- a book that rule 7 refuses

-- The first that fails the test, number p, the numbers starting at k.
record FaultIn {A : Type 0} (f : A → Bool) (k : ℕ) (xs : List A) (p : ℕ) : Type 0 where
  before : List A
  at : A
  after : List A
  all : xs ≡ before ++ (at ∷ after)
  place : k + length before ≡ p
  first : Each (λ x. f x ≡ true) before
  fails : f at ≡ false

fault_in_lem : {A : Type 0} (f : A → Bool) (n : Reason) (k : ℕ) (xs : List A) (m : Reason) (p : ℕ)
    → each_must f n k xs ≡ refused m p
    → (m ≡ n) × FaultIn f k xs p
unfolding each_must must ◌>>=◌ Each
fault_in_lem f n k [] m p e = absurd (cc)
fault_in_lem {A = A} f n k (x ∷ xs) m p e =
    each_way (f x)
    (λ t.
    let r = fault_in_lem f n (suc k) xs m p (rw t at e) in
    let q = r.1 in (
      r.0,
      record {
        before = x ∷ q.before;
        at = q.at;
        after = q.after;
        all = ap (λ (l : List A). x ∷ l) q.all;
        place = omega (arith, q.place);
        first = (t, q.first);
        fails = q.fails;
      },
    ))
    (λ t.
    let is : refused n k ≡ refused m p = rw t at e in
    let j : k ≡ p = cc in (
      cc,
      record { before = []; at = x; after = xs; all = refl; place = omega arith; first = tt; fails = t },
    ))

each_at : {A : Type 0} (P : A → Type 0) (xs : List A) (y : A) (ys : List A) → Each P (xs ++ (y ∷ ys)) → P y
unfolding Each
each_at P [] y ys a = a.0
each_at P (x ∷ xs) y ys a = each_at P xs y ys a.1

-- Of a tree whose templates keep 5.
fault_never_sent : (book : List ℕ) (b : Book) (n : ℕ) → tree_of book ≡ done b
    → Each (λ t. layout_good t ≡ true) b.templates
    → FaultIn (length_kept b.format) 0 b.templates n
    → NeverSent book n
fault_never_sent book b n is good q =
    let t = q.at in
    let layout = each_at (λ t. layout_good t ≡ true) q.before t q.after (rw q.all at good) in
    record {
      tree = b;
      is_tree = is;
      before = q.before;
      template = t;
      after = q.after;
      templates = q.all;
      place = omega (arith, q.place);
      first = q.first;
      too_long = λ l pool r e.
          omega (
            arith,
            leb-false (least_length b.format t.shape t.groups) 65535 q.fails,
            least_written l pool b t r e,
            written_long l pool b t r layout e,
          );
    }

pub never_sent : (book : List ℕ) (n : ℕ) → book_of book ≡ refused BookUnsendable n → NeverSent book n
unfolding book_of check_templates number_of
never_sent book n e =
    inv_refused (tree_of book) _ BookUnsendable n e (λ no. absurd (omega (arith, tree_refuses book _ _ no)))
    λ b is e₁.
    inv_refused _ _ BookUnsendable n e₁ (λ e₂.
    inv_refused (each_must layout_good BookLayout 0 b.templates) _ BookUnsendable n e₂
    (λ no. let wrong = fault_in_lem layout_good BookLayout 0 b.templates BookUnsendable n no in absurd (cc))
    λ u good e₃.
    inv_refused _ _ BookUnsendable n e₃
    (λ no. let wrong = fault_in_lem _ BookSince 0 b.templates BookUnsendable n no in absurd (cc)) λ _ _ e₄.
    fault_never_sent book b n is (each_good layout_good BookLayout 0 b.templates u good)
    (fault_in_lem _ BookUnsendable 0 b.templates BookUnsendable n e₄).1)
    λ _ _ no. absurd (cc)

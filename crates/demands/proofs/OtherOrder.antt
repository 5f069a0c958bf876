-- The walk over a message beside the walk, in the other order, over the message with its numbers turned: line by line
-- the two read the same answers, at the same places and of the same octets.
use mathlib.Core.Path.{◌∙◌, ◌≡◌, ap, refl, subst, sym}
use mathlib.Core.Bool.{Bool, false, not, true}
use mathlib.Core.List.{List, [], ◌∷◌, map}
use Prim.Native.Nat.{◌*◌, ◌+◌, ◌-◌, ◌≤◌, suc, zero, ℕ}
use native.Mathlib.Nat.{le_refl}
use native.Mathlib.Omega.{arith}
use lib.Dec.{eqb, leb}
use lib.ListN.{drop, length, take}
use lib.Seq.{take-take}
use borrow.Author.Tests.{eqb-true, leb-true}
use Rattle.layout.specs.Result.{Result, ◌>>=◌, ◌and◌, ◌or◌, done, when◌then◌else◌, must}
use Rattle.layout.specs.Octets.{number16}
use Rattle.layout.specs.Types.{classify, type_at}
use Rattle.layout.specs.Lists.{beside}
use Rattle.layout.specs.Book.{Book, Data, Field, Groups, Shape, Template, data_sinces, end, group_sinces, is_array}
use Rattle.layout.specs.Book.{is_optional, more, need, need_after, none}
use Rattle.layout.specs.BookRules.{book_of, fields_good, groups_good, layout_good, length_good}
use Rattle.layout.specs.Values.{Values, entry, nil}
use Rattle.layout.specs.Message.{Dimension, array_at, block_length, check_header, count_at, count_good, count_numbers}
use Rattle.layout.specs.Message.{depth_limit, dimension_size, header_size, header_whole, in_row, inside, read_block, read_data}
use Rattle.layout.specs.Message.{read_datas, read_dimension, read_entries, read_field, read_group, read_groups, read_message}
use Rattle.layout.specs.Message.{read_root, read_whole, skip_datas, skip_entry, skip_group, surplus, surplus_of, template_id}
use Rattle.layout.specs.Message.{template_of, version_of}
use Rattle.layout.specs.Writing.{write_in}
use Rattle.layout.specs.Demands.{OtherWay, other_order}
use Rattle.demands.proofs.Contents.{content_of, contents_of, listing_says, tree_contents}
use Rattle.demands.proofs.Needs.{need_grows}
use Rattle.demands.proofs.Read.{data_read_lem, dimension_read}
use Rattle.demands.proofs.Reread.{four_same}
use Rattle.demands.proofs.Returned.{header_read}
use Rattle.demands.proofs.Turned.{Turned, Turns, both, keep, so, turn, turns_done, turns_if, turns_on}
use Rattle.demands.proofs.Turned.{turns_past, turns_test, turns_then, whole}
use Rattle.layout.proofs.Accepted.{accepted}
use Rattle.layout.proofs.Fields.{field_good_lem, size_array, size_plain}
use Rattle.layout.proofs.Lengths.{written_long}
use Rattle.layout.proofs.Results.{and_left, and_right, bind_assoc, bind_done, each_way, either, inv_bind, inv_found}
use Rattle.layout.proofs.Results.{inv_must, same_then}
use Rattle.layout.proofs.Texts.{text_within}
use Rattle.layout.proofs.TypeLaws.{width_listed}
use Rattle.layout.specs.declared.Answer.{Answer}
use Rattle.layout.specs.declared.Answer.TheVariants.{Null, Number, Octets, OutOfRange}
use Rattle.layout.specs.declared.Reason.TheVariants.{OctetsLeftOver}

module _ (big : Bool) (m : List ℕ) where
  -- What is told of m' is what was told of m.
  abbrev SameAnswer : List ℕ → Answer → Type 0
  SameAnswer m' a = content_of m' a ≡ content_of m a

  abbrev SameAnswers : List ℕ → List Answer → Type 0
  SameAnswers m' as' = contents_of m' as' ≡ contents_of m as'

  abbrev SameTree : List ℕ → Values → Type 0
  SameTree m' r = tree_contents m' r ≡ tree_contents m r

  -- f reads m from `at` on, and what it comes to it also reads, in the other order, of the turned message.
  abbrev ReadAlike : {A : Type 0} → ℕ → (A → ℕ) → (A → List ℕ → Type 0) → (Bool → List ℕ → Result A) → Type 0
  ReadAlike at end P f = Turns m at end P (f big m) (λ m'. f (not big) m')

  -- A 16-bit number.
  abbrev Same16 : ℕ → List ℕ → Type 0
  Same16 at m' = number16 (not big) m' at ≡ number16 big m at

  turn16 : (at : ℕ) {to : ℕ} → at + 2 ≡ to → to ≤ length m → Turned m at to (Same16 at)
  unfolding ◌or◌
  turn16 at e h = turn big at 2 refl e h

  -- The counts of a dimension, where there are any.
  turned_counts : (counted : Bool) (at : ℕ) {to : ℕ} → at + 2 * count_numbers counted ≡ to → to ≤ length m
      → Turned m at to (λ m'. (count_at counted (not big) m' at ≡ count_at counted big m at)
      × (count_at counted (not big) m' (at + 2) ≡ count_at counted big m (at + 2)))
  turned_counts true at e h = both (turn16 at refl (omega arith)) (turn16 (at + 2) (omega arith) h)
  turned_counts false at e h = so (keep at 0 (omega arith) h) λ m' _ _. (refl, refl)

  -- "Let v be the message's version."
  module _ (v : ℕ) where
    -- ---- data, and what is surplus

    turned_data : (at : ℕ) → ReadAlike at (λ a. a.1) (λ a m'. SameAnswer m' a.0) (λ o s. read_data o s at)
    unfolding read_data content_of
    turned_data at fits a e =
        let r = data_read_lem big m v at a e in
        subst (λ (c : Answer × ℕ). Turned m at c.1
        (λ m'. Unit {0} → (read_data (not big) m' at ≡ done c) × SameAnswer m' c.0)) r.is
        (so (both (turn16 at refl r.head) (keep (at + 2) (number16 big m at) refl r.fits)) λ m' l p _.
        (rw (p.0, l) (e ∙ ap done (sym r.is)), ap (λ (s : List ℕ). 2 ∷ s) p.1))

    -- What only leads on.
    abbrev PassedAlike : (Bool → List ℕ → ℕ → Result ℕ) → Type 0
    PassedAlike f = (at : ℕ) → ReadAlike at (λ x. x) (λ x m'. Unit {0}) (λ o s. f o s at)

    turned_row : (n : ℕ) (f : Bool → List ℕ → ℕ → Result ℕ) → PassedAlike f → PassedAlike (λ o s. in_row n (f o s))
    unfolding in_row
    turned_row zero f h at = turns_done _ _ _ refl λ m' _. (refl, tt)
    turned_row (suc n) f h at = turns_then (h at) λ x _. turns_on (turned_row n f h x)

    turned_skipped_datas : (n : ℕ) → PassedAlike (λ o s. skip_datas o s n)
    turned_skipped_datas n =
        turned_row n (λ o s x. read_data o s x >>= λ r. done r.1) λ x.
        turns_then (turned_data x) λ r _. turns_done _ _ _ refl λ m' _. (refl, tt)

    turned_datas : (ds : List Data) (n at : ℕ)
        → ReadAlike at (λ r. r.1) (λ r m'. SameAnswers m' r.0) (λ o s. read_datas o s v ds n at)
    unfolding read_datas content_of
    turned_datas [] n at = turns_then (turned_skipped_datas n at) λ x _. turns_done _ _ _ refl λ m' _. (refl, refl)
    turned_datas (d ∷ ds) n at =
        turns_then (turns_if _ (turned_data at) (turns_done _ _ _ refl λ m' _. (refl, refl))) λ a _.
        turns_then (turned_datas ds n a.1) λ r _.
        turns_done _ _ _ refl λ m' h. (refl, rw (h.0.1, h.1) refl)

    turned_skipped_entry : (f : Bool → List ℕ → ℕ → Result ℕ) (d : Dimension) (place : ℕ) → PassedAlike f
        → PassedAlike (λ o s. skip_entry o s (f o s) d place)
    unfolding skip_entry
    turned_skipped_entry f d place h at =
        let to = at + d.length in
        turns_test (leb to) _ _ λ e.
        turns_past (keep at d.length refl (leb-true to (length m) e))
        (turns_then (turned_row d.groups f h to) λ x _. turns_on (turned_skipped_datas d.datas x))

    -- ---- fields

    -- Octets that are kept say the same, and so does a text in them.
    same_octets : (m' : List ℕ) (p n k : ℕ) → k ≤ n → take n (drop p m') ≡ take n (drop p m)
        → SameAnswer m' (Octets p k)
    unfolding content_of
    same_octets m' p n k h e =
        ap (λ (s : List ℕ). 2 ∷ s) (sym (take-take k n (drop p m') h) ∙ ap (take k) e ∙ take-take k n (drop p m) h)

    array_same : (m' : List ℕ) (p : ℕ) (f : Field) → take f.length (drop p m') ≡ take f.length (drop p m)
        → (array_at m' p f ≡ array_at m p f) × SameAnswer m' (array_at m p f)
    unfolding array_at content_of
    array_same m' p f e =
        let within : (k : ℕ) → k ≤ f.length → SameAnswer m' (Octets p k) =
        λ k h. same_octets m' p f.length k h e in (
          rw e refl,
          either (SameAnswer m') _ _ _
              (either (SameAnswer m') _ _ _ refl (within _ (text_within f.length (drop p m))))
              (within f.length (le_refl f.length)),
        )

    -- Of a number no octets are told.
    number_same : (m' : List ℕ) (f : Field) (x : ℕ)
        → SameAnswer m' (beside f.names (classify (type_at f.type) (is_optional f) x))
    unfolding classify beside content_of
    number_same m' f x =
        let Same : Answer → Type 0 = λ a. SameAnswer m' (beside f.names a) in
        either Same _ Null _ refl
        (either Same _ (Number x) (OutOfRange x) (either (SameAnswer m') _ _ _ refl refl) refl)

    abbrev SameField : ℕ → Field → List ℕ → Type 0
    SameField at f m' =
        let a = read_field big m v at f in (read_field (not big) m' v at f ≡ a) × SameAnswer m' a

    turned_field : (at : ℕ) (f : Field) → length_good f ≡ true → leb f.since v ≡ true → at + end f ≤ length m
        → Turned m (at + f.offset) (at + end f) (SameField at f)
    unfolding read_field when◌then◌else◌
    turned_field at f g e h =
        let p = at + f.offset in
        let k = type_at f.type in
        each_way (is_array f)
        (λ y. so (keep p f.length (omega (arith, size_array f g y)) h) λ m' _ s. rw (e, y) (array_same m' p f s))
        (λ y. so (turn big p k.width (width_listed f.type) (omega (arith, size_plain f g y)) h) λ m' _ n.
        rw (e, y, n) (refl, number_same m' f _))

    abbrev SameFields : ℕ → List Field → List ℕ → Type 0
    SameFields at fs m' =
        let as' = map (read_field big m v at) fs in
        (map (read_field (not big) m' v at) fs ≡ as') × SameAnswers m' as'

    next_field : (at : ℕ) (f : Field) (fs : List Field) (m' : List ℕ) → SameField at f m' → SameFields at fs m'
        → SameFields at (f ∷ fs) m'
    next_field at f fs m' a b = (rw (a.0, b.0) refl, rw (a.1, b.1) refl)

    absent_field : (at : ℕ) (f : Field) → leb f.since v ≡ false → (m' : List ℕ) → SameField at f m'
    unfolding read_field when◌then◌else◌ content_of
    absent_field at f e m' = rw e (refl, refl)

    -- Of the block of l octets at `at`, from its octet `from` on: the fields before end there, or later if absent, at
    -- `low`.
    turned_fields : (fs : List Field) (at len low from l : ℕ) → fields_good len low fs ≡ true → from ≤ low
        → need_after v from fs ≤ l → at + l ≤ length m
        → Turned m (at + from) (at + l) (SameFields at fs)
    unfolding need_after when◌then◌else◌
    turned_fields [] at len low from l g u h fits =
        so (keep (at + from) (l - from) (omega arith) fits) λ m' _ _. (refl, refl)
    turned_fields (f ∷ fs) at len low from l g u h fits =
        let k = field_good_lem len low f fs g in
        each_way (leb f.since v)
        (λ e.
        let n : need_after v (end f) fs ≤ l = rw e at h in
        let grows = need_grows v len (end f) (end f) fs k.rest (le_refl (end f)) in
        let here = turned_field at f k.length e (omega arith) in
        let rest = turned_fields fs at len (end f) (end f) l k.rest (le_refl (end f)) n fits in
        so (both (keep (at + from) (f.offset - from) (omega (arith, k.placed)) (omega arith)) (both here rest))
        λ m' _ p. next_field at f fs m' p.1.0 p.1.1)
        (λ e.
        so (turned_fields fs at len (end f) from l k.rest (omega (arith, k.placed)) (rw e at h) fits) λ m' _ p.
        next_field at f fs m' (absent_field at f e m') p)

    -- ---- blocks, entries, groups

    abbrev RowAlike : (Bool → List ℕ → ℕ → Result (Values × ℕ)) → Type 0
    RowAlike f = (at : ℕ) → ReadAlike at (λ r. r.1) (λ r m'. SameTree m' r.0) (λ o s. f o s at)

    module _ (s : Shape) (f : Bool → List ℕ → ℕ → Result (Values × ℕ))
        (good : fields_good s.length 0 s.fields ≡ true) (turned-inner : RowAlike f) where
      turned_block : (n l at : ℕ) → need v s ≤ l
          → ReadAlike at (λ b. b.3) (λ b m'. SameAnswers m' b.0 × SameTree m' b.1 × SameAnswers m' b.2)
          (λ o m. read_block o m v s (f o m) n l at)
      unfolding read_block
      turned_block n l at h =
          turns_test (leb (at + l)) _ _ λ e.
          let start : at + 0 ≡ at = omega arith in
          let fits = leb-true (at + l) (length m) e in
          turns_past (subst (λ (x : ℕ). Turned m x (at + l) (SameFields at s.fields)) start
          (turned_fields s.fields at s.length 0 0 l good (le_refl 0) h fits))
          (turns_then (turned-inner (at + l)) λ g _.
          turns_then (turned_datas s.datas n g.1) λ d _.
          turns_done _ _ _ refl λ m' o. (rw o.0.0.1.0 refl, (o.0.0.1.1, o.0.1, o.1)))

      turned_entries : (k n l : ℕ) → need v s ≤ l → RowAlike (λ o m. read_entries k (read_block o m v s (f o m) n l))
      unfolding read_entries tree_contents
      turned_entries zero n l h at = turns_done _ _ _ refl λ m' _. (refl, refl)
      turned_entries (suc k) n l h at =
          turns_then (turned_block n l at h) λ b _.
          turns_then (turned_entries k n l h b.3) λ r _.
          turns_done _ _ _ refl λ m' o. (refl, four_same o.0.1.0 o.0.1.1 o.0.1.2 o.1)

    -- Whether dimensions have counts is the same in either order.
    module _ (counted : Bool) where
      turned_dimension : (at : ℕ)
          → ReadAlike at (λ d. at + dimension_size counted) (λ d m'. Unit {0}) (λ o s. read_dimension counted o s at)
      unfolding read_dimension
      turned_dimension at h d e =
          let fits = (dimension_read counted big m at d e).fits in
          let counts = turned_counts counted (at + 4) (omega arith) fits in
          so (both (turn16 at refl (omega arith)) (both (turn16 (at + 2) (omega arith) (omega arith)) counts))
          λ m' l p _. (rw (p.0, p.1.0, p.1.1.0, p.1.1.1, l) e, tt)

      turned_skipped_group : (levels : ℕ) → PassedAlike (λ o s. skip_group counted o s levels)
      unfolding skip_group
      turned_skipped_group zero at =
          turns_then (turned_dimension at) λ d _ _ x e. absurd (cc)
      turned_skipped_group (suc levels) at =
          turns_then (turned_dimension at) λ d _.
          turns_on (turned_row d.entries (λ o s. skip_entry o s (skip_group counted o s levels) d at)
          (turned_skipped_entry (λ o s. skip_group counted o s levels) d at (turned_skipped_group levels))
          (at + dimension_size counted))

      -- `version` is the book's.
      module _ (version : ℕ) where
        turned_group : (s : Shape) (groups : List ℕ) (f : Bool → List ℕ → ℕ → ℕ → Result (Values × ℕ))
            → fields_good s.length 0 s.fields ≡ true
            → ((n : ℕ) → RowAlike (λ o m. f o m n)) → (at : ℕ)
            → ReadAlike at (λ g. g.2) (λ g m'. SameAnswer m' g.0 × SameTree m' g.1)
            (λ o m. read_group counted version o m v s groups (f o m) at)
        unfolding read_group content_of
        turned_group s groups f good h at =
            let datas = data_sinces s.datas in
            turns_then (turned_dimension at) λ d _.
            turns_test (λ _. leb (need v s) d.length) _ _ λ long.
            turns_test (λ _. count_good counted version v groups d.groups
            and count_good counted version v datas d.datas) _ _ λ _.
            let g = surplus v groups d.groups in
            turns_then (turned_entries s (λ o m. f o m g) good (h g) d.entries (surplus v datas d.datas)
            d.length (leb-true _ _ long) (at + dimension_size counted)) λ es _.
            turns_done _ _ _ refl λ m' o. (refl, (refl, o.1))

        turned_groups : (gs : Groups) (levels n : ℕ) → groups_good gs ≡ true
            → RowAlike (λ o m. read_groups counted version o m v gs levels n)
        unfolding read_groups groups_good tree_contents content_of
        turned_groups none levels n g at =
            turns_then (turned_row n (λ o s. skip_group counted o s levels) (turned_skipped_group levels) at) λ x _.
            turns_done _ _ _ refl λ m' _. (refl, refl)
        turned_groups (more i since s inner rest) levels n g at =
            let h = and_right _ _ g in
            turns_then (turns_if _
            (turned_group s (group_sinces inner) (λ o m. read_groups counted version o m v inner (inside levels))
            (and_right _ _ (and_left _ _ g)) (λ k. turned_groups inner (inside levels) k (and_left _ _ h)) at)
            (turns_done _ _ _ refl λ m' _. (refl, (refl, refl)))) λ x _.
            turns_then (turned_groups rest levels n (and_right _ _ h) x.2) λ r _.
            turns_done _ _ _ refl λ m' o. (refl, rw (o.0.1.0, o.0.1.1, o.1) refl)

  -- ---- the message

  -- The header's numbers.
  abbrev SameHeader : List ℕ → Type 0
  SameHeader m' =
      Same16 0 m' × (Same16 2 m' × (Same16 4 m' × (Same16 6 m' × (Same16 8 m' × Same16 10 m'))))

  turned_header : header_size ≤ length m → Turned m 0 header_size SameHeader
  turned_header h =
      both (turn16 0 refl (omega arith)) (both (turn16 2 refl (omega arith)) (both (turn16 4 refl (omega arith))
      (both (turn16 6 refl (omega arith)) (both (turn16 8 refl (omega arith)) (turn16 10 refl h)))))

  module _ (m' : List ℕ) (l : length m' ≡ length m) (h : SameHeader m') where
    check_same : (schema : ℕ) → check_header (not big) schema m' ≡ check_header big schema m
    unfolding check_header header_whole
    check_same schema =
        rw (l, h.0, h.1.0, h.1.1.0, h.1.1.1.0, h.1.1.1.1.0, h.1.1.1.1.1) refl

    surplus_same : (version : ℕ) (t : Template) → surplus_of (not big) version t m' ≡ surplus_of big version t m
    unfolding surplus_of
    surplus_same version t = rw (h.0, h.1.1.1.0, h.1.1.1.1.0, h.1.1.1.1.1) refl

  -- The root block and what follows it, the header's numbers being m's.
  abbrev whole_by : Bool → ℕ → Template → ℕ × ℕ → Bool → List ℕ → Result Values
  whole_by counted version t n o s =
      let v = version_of big m in
      let groups = read_groups counted version o s v t.groups depth_limit n.0 in
      read_block o s v t.shape groups n.1 (block_length big m) header_size >>= λ b.
      must (eqb b.3 (length s)) OctetsLeftOver b.3 >>= λ _.
      done (entry b.0 b.1 b.2 nil)

  turned_whole : (counted : Bool) (version : ℕ) (t : Template) (n : ℕ × ℕ) → layout_good t ≡ true
      → need (version_of big m) t.shape ≤ block_length big m
      → ReadAlike header_size (λ r. length m) (λ r m'. SameTree m' r) (whole_by counted version t n)
  unfolding tree_contents
  turned_whole counted version t n good h =
      let v = version_of big m in
      turns_then (turned_block v t.shape (λ o s. read_groups counted version o s v t.groups depth_limit n.0)
      (and_right _ _ (and_left _ _ good))
      (turned_groups v counted version t.groups depth_limit n.0 (and_right _ _ good)) n.1
      (block_length big m) header_size h) λ b _.
      turns_test (eqb b.3) _ _ λ e.
      turns_done _ _ _ (sym (eqb-true b.3 (length m) e)) λ m' o.
      (refl, four_same o.1.0 o.1.1 o.1.2 refl)

root_enough : (big : Bool) (version : ℕ) (t : Template) (m : List ℕ) (s : ℕ × ℕ) → surplus_of big version t m ≡ done s
    → need (version_of big m) t.shape ≤ block_length big m
unfolding surplus_of
root_enough big version t m s e = leb-true _ _ (inv_must _ _ _ _ (inv_bind _ _ _ e).first)

-- What a message is read as, from what each of its parts came to.
turned_reads : (b : Book) (m m' : List ℕ) (t : Template) (s : ℕ × ℕ) (r : Values) → let big = b.format.big in
    length m' ≡ length m → SameHeader big m m' → check_header big b.schema m ≡ done tt → template_of b m ≡ done t
    → surplus_of big b.version t m ≡ done s
    → whole_by big m b.format.in_groups b.version t s (not big) m' ≡ done r
    → read_message (other_order b) m' ≡ done r
unfolding read_message read_root read_whole
turned_reads b m m' t s r l h c f q w =
    let big = b.format.big in
    rw (check_same big m m' l h b.schema, c, bind_done, h.1.0, f, bind_done)
    (rw (surplus_same big m m' l h b.version t, q, bind_done, h.1.1.1.0, h.0) w)

pub turned_message : (book m : List ℕ) (b : Book) (r : Values) → book_of book ≡ done b → read_message b m ≡ done r
    → (m' : List ℕ) × OtherWay b m r m'
unfolding read_message read_root read_whole
turned_message book m b r is e =
    let big = b.format.big in
    let p = inv_bind _ _ _ e in
    let q = inv_bind _ _ _ p.next in
    let w = inv_bind _ _ _ q.next in
    let t = q.value in
    let long = (header_read big b.schema m p.value p.first).long in
    let good = (accepted book b (template_id big m) t is (inv_found _ _ _ t q.first)).1.layout in
    let enough = root_enough big b.version t m w.value w.first in
    let a = both (turned_header big m long)
    (turned_whole big m b.format.in_groups b.version t w.value good enough long r w.next) in
    let m' = a.octets in
    let o = whole a in (
      m',
      record {
        runs = a.runs;
        template = o.0.1.0;
        reads = turned_reads b m m' t w.value r (omega (arith, a.ends)) o.0 p.first q.first w.first
            (o.1 tt).0;
        octets = listing_says m' r ∙ (o.1 tt).1 ∙ sym (listing_says m r);
      },
    )

-- ---- writing

-- The size of what is written is the same in either order, and so is what is refused.
pub writes_alike : (book : List ℕ) (b : Book) → book_of book ≡ done b → (id : ℕ) (l pool : List ℕ) (room : ℕ)
    → (write_in (other_order b) id l pool room >>= λ m. done (length m))
    ≡ (write_in b id l pool room >>= λ m. done (length m))
writes_alike book b is id l pool room =
    bind_assoc _ _ _ ∙ same_then _ _ _ _ refl λ t h.
    bind_assoc _ _ _ ∙ same_then _ _ _ _ refl λ r j.
    let good = (accepted book b id t is (inv_found _ _ _ t h)).1.layout in
    let long = written_long l pool (other_order b) t r good j ∙ sym (written_long l pool b t r good j) in
    bind_assoc _ _ _ ∙ same_then _ _ _ _ (rw long refl) λ _ _. rw (bind_done, bind_done, long) refl

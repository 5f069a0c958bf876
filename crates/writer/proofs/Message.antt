-- The parts, one after the other, are the message that the definition says; and its header and dimensions in the
-- code's terms.
use mathlib.Core.Path.{◌≡◌, refl, sym, ap, ◌∙◌}
use mathlib.Core.Bool.{Bool}
use mathlib.Core.List.{List, [], ◌∷◌, ◌++◌, append_assoc, append-nil}
use Prim.Native.Nat.{ℕ, zero, suc, ◌+◌, ◌*◌, ◌≤◌}
use native.Mathlib.Numerals.{add-one}
use native.Mathlib.Omega.{arith}
use lib.ListN.{length}
use lib.Seq.{length-sets, sets}
use Rattle.layout.specs.Result.{Result, done, when◌then◌else◌, ◌and◌, ◌>>=◌}
use Rattle.layout.specs.Octets.{octets_of}
use Rattle.layout.specs.Book.{Book, Data, Field, Groups, Shape, Template, end, more, none}
use Rattle.layout.specs.Values.{Values, entry, nil}
use Rattle.layout.specs.Message.{Entry}
use Rattle.layout.specs.Writing.{block_octets, counts_of, data_octets, entries_in, header_of, judge_block, judge_datas}
use Rattle.layout.specs.Writing.{judge_entries, judge_fields, judge_groups, judge_listing, message_octets, numbers16}
use Rattle.layout.specs.Writing.{row_octets, second}
use Rattle.layout.specs.declared.Answer.{Answer}
use Rattle.layout.proofs.Results.{done_inj}
use Rattle.layout.proofs.Stands.{length_numbers, length_octets}
use Rattle.octets.proofs.Joined.{sets_append}
use Rattle.prints.specs.Prints.{Accepted, Printed, Room, and_then, end_of, got, numbers_of, prepend, printed}
use Rattle.prints.proofs.Going.{Done, Going, going_none, going_put, was_done}
use Rattle.prints.proofs.Steps.{passed, step}
use Rattle.writer.specs.Zeros.{Ready, Zeros, ZerosFrom}
use Rattle.writer.specs.Parts.{data_part, datas_part, entries_part, fields_part, groups_part, message_part, value_part}
use Rattle.writer.proofs.Zeros.{zeros_past, zeros_start}

-- ---- numbers of a header or a dimension

module _ (big : Bool) where
  pub two_numbers : (d : List ℕ) (at x y : ℕ)
      → sets (sets d at (octets_of big 2 x)) (at + 2) (octets_of big 2 y) ≡ sets d at (numbers16 big (x ∷ y ∷ []))
  unfolding numbers16
  two_numbers d at x y =
      let first = octets_of big 2 x in
      let second = octets_of big 2 y in
      rw (append-nil second, sets_append d at first second, length_octets big 2 x) refl

  numbers_append : (xs ys : List ℕ) → numbers16 big (xs ++ ys) ≡ numbers16 big xs ++ numbers16 big ys
  unfolding numbers16
  numbers_append [] ys = refl
  numbers_append (x ∷ xs) ys =
      rw (numbers_append xs ys) (sym (append_assoc (octets_of big 2 x) (numbers16 big xs) (numbers16 big ys)))

  -- Numbers after numbers.
  pub numbers_laid : (d : List ℕ) (at : ℕ) (xs ys : List ℕ) {r₁ r₂ : List ℕ} → r₁ ≡ sets d at (numbers16 big xs)
      → r₂ ≡ sets r₁ (at + 2 * length xs) (numbers16 big ys) → r₂ ≡ sets d at (numbers16 big (xs ++ ys))
  numbers_laid d at xs ys p q = q ∙ rw (p, numbers_append xs ys, sets_append d at, length_numbers big xs) refl

  pub four_numbers : (d : List ℕ) (at x y z w : ℕ)
      → sets (sets d at (numbers16 big (x ∷ y ∷ []))) (at + 4) (numbers16 big (z ∷ w ∷ []))
      ≡ sets d at (numbers16 big (x ∷ y ∷ z ∷ w ∷ []))
  four_numbers d at x y z w = numbers_laid d at (x ∷ y ∷ []) (z ∷ w ∷ []) refl refl

-- ---- one part after the other: what is judged good is written as the definition says

module _ (big : Bool) (l pool : List ℕ) where
  fields_are : (n at : ℕ) (fs : List Field) (i : ℕ) (r : List Answer × ℕ) → judge_fields l pool fs i ≡ done r
      → fields_part big l pool n at fs i ≡ got r.1 (block_octets big pool n at fs r.0)
  unfolding judge_fields fields_part value_part printed and_then prepend block_octets
  fields_are n at [] i r is = rw (← (done_inj is)) refl
  fields_are n at (f ∷ fs) i r is =
      step _ _ _ is λ a one next. step _ _ _ next λ z rest e.
      rw (one, fields_are n (end f) fs (i + 1) z (rw (add-one i) rest), ← (done_inj e)) refl

  datas_are : (ds : List Data) (i : ℕ) (r : List Answer × ℕ) → judge_datas l pool ds i ≡ done r
      → datas_part big l pool (length ds) i ≡ got r.1 (data_octets big pool r.0)
  unfolding judge_datas datas_part data_part printed and_then prepend data_octets
  datas_are [] i r is = rw (← (done_inj is)) refl
  datas_are (d ∷ ds) i r is =
      step _ _ _ is λ a one next. step _ _ _ next λ z rest e.
      rw (one, datas_are ds (i + 1) z (rw (add-one i) rest), ← (done_inj e)) (simp append_assoc)

module _ (counted big : Bool) (l pool : List ℕ) where
  -- The entries of a block s with groups gs, which f judges and `row` writes.
  module _ (s : Shape) (gs : Groups) (f : ℕ → Result (Values × ℕ)) (row : ℕ → Printed)
      (rows : (i : ℕ) (r : Values × ℕ) → f i ≡ done r
      → row i ≡ got r.1 (row_octets counted big pool s gs r.0)) where
    entries_are : (k i : ℕ) (r : Values × ℕ)
        → judge_entries l pool k (judge_block l pool s f) i ≡ done r
        → entries_part big l pool s row k i ≡ got r.1 (row_octets counted big pool s gs r.0)
    unfolding judge_entries judge_block entries_part and_then prepend row_octets
    entries_are zero i r is = rw (← (done_inj is)) refl
    entries_are (suc k) i r is =
        step _ _ _ is λ x one next.
        step _ _ _ one λ fs fields two. step _ _ _ two λ g groups three. step _ _ _ three λ ds datas whole.
        step _ _ _ (rw (← (done_inj whole)) at next) λ z rest e.
        rw (
          fields_are big l pool s.length 0 s.fields i fs fields,
          rows fs.1 g groups,
          datas_are big l pool s.datas g.1 ds datas,
          entries_are k ds.1 z rest,
          ← (done_inj e),
        ) (simp append_assoc)

  groups_are : (s : Shape) (gs : Groups) (i : ℕ) (r : Values × ℕ) → judge_groups l pool gs i ≡ done r
      → groups_part counted big l pool gs i ≡ got r.1 (row_octets counted big pool s gs r.0)
  unfolding judge_groups groups_part and_then prepend row_octets entries_in when◌then◌else◌ ◌and◌
  groups_are s none i r is = rw (← (done_inj is)) refl
  groups_are s (more id since sh inner rest) i r is =
      passed _ _ _ _ _ is λ a one. passed _ _ _ _ _ one λ b two.
      step _ _ _ two λ es entries three. step _ _ _ three λ z others e.
      rw (
        a,
        b,
        entries_are sh inner _ _ (groups_are sh inner) (second l i) (i + 1) es (rw (add-one i) entries),
        groups_are s rest es.1 z others,
        ← (done_inj e),
      ) refl

-- ---- the whole

module _ (l pool : List ℕ) (b : Book) (t : Template) where
  abbrev big : Bool
  big = b.format.big

  abbrev counted : Bool
  counted = b.format.in_groups

  abbrev header : List ℕ
  header = numbers16 big (header_of b t)

  -- The root, which is one entry, and with the header before it.
  abbrev entry_part : Printed
  entry_part = entries_part big l pool t.shape (groups_part counted big l pool t.groups) 1 0

  abbrev pub root_part : Printed
  root_part = prepend header entry_part

  root_entry : (e : Entry)
      → judge_block l pool t.shape (judge_groups l pool t.groups) 0 ≡ done e
      → root_part ≡ got e.3 (message_octets b t pool (entry e.0 e.1 e.2 nil))
  unfolding judge_entries message_octets prepend ◌>>=◌
  root_entry e is =
      let gs = t.groups in
      rw (entries_are counted big l pool t.shape gs (judge_groups l pool gs) (groups_part counted big l pool gs)
      (groups_are counted big l pool t.shape gs) 1 0 (entry e.0 e.1 e.2 nil, e.3) (rw is refl)) refl

  -- The message of a listing that was judged.
  module _ (r : Values) (is : judge_listing l pool t ≡ done r) where
    message_is : message_part l pool b t ≡ got 0 (message_octets b t pool r)
    unfolding message_part printed
    message_is = rw is refl

    pub message_octets_lem : numbers_of (message_part l pool b t) ≡ message_octets b t pool r
    unfolding numbers_of
    message_octets_lem = rw message_is refl

    pub message_ready : (d : List ℕ) → Zeros d → length (message_octets b t pool r) ≤ length d
        → Ready (message_part l pool b t) d
    unfolding end_of numbers_of
    message_ready d z h = rw message_is (record { room = record { whole = refl; fits = omega arith }; zeros = z })

    root_is_lem : (y : ℕ) × (root_part ≡ got y (message_octets b t pool r))
    unfolding judge_listing
    root_is_lem =
        step _ _ _ is λ e one next. passed _ _ _ _ _ next λ all whole.
        (e.3, root_entry e one ∙ ap (λ (z : Values). got e.3 (message_octets b t pool z)) (done_inj whole))

  message_judged : Accepted (message_part l pool b t) → Done (judge_listing l pool t)
  unfolding message_part
  message_judged r = was_done _ _ _ r

  module _ {d : List ℕ} (y : Ready (message_part l pool b t) d) where
    pub root_same : numbers_of (message_part l pool b t) ≡ numbers_of root_part
    unfolding numbers_of
    root_same =
        let j = message_judged y.room.whole in
        message_octets_lem j.value j.is ∙ sym (ap numbers_of (root_is_lem j.value j.is).1)

    root_room : Room root_part 0 (length d)
    unfolding end_of numbers_of
    root_room =
        let j = message_judged y.room.whole in
        record { whole = rw (root_is_lem j.value j.is).1 refl; fits = rw root_same at y.room.fits }

    -- The header stands, and the root is to come.
    pub root_headed : {d' : List ℕ} → d' ≡ sets d 0 header → Going root_part entry_part 0 d 12 d'
    unfolding counts_of
    root_headed q = rw (length_numbers big (header_of b t)) at (going_put (going_none root_room) header refl q)

    pub header_fits : 12 ≤ length d
    header_fits = omega (arith, (root_headed refl).room.fits, length-sets d 0 header)

    pub header_zeros : {d' : List ℕ} → d' ≡ sets d 0 header → ZerosFrom 12 d'
    unfolding counts_of
    header_zeros q =
        let long = length_numbers big (header_of b t) in
        zeros_past (zeros_start y.zeros) header (omega arith) q

-- Which numbers each part of the definitions refuses with.
use mathlib.Core.Path.{◌≡◌, refl, subst, sym}
use mathlib.Core.Bool.{Bool, false, true}
use mathlib.Core.List.{List, [], ◌∷◌}
use mathlib.Core.Option.{Option, none as no, some}
use Prim.Native.Nat.{◌*◌, ◌+◌, ◌<◌, ◌≤◌, suc, zero, ℕ}
use native.Mathlib.Omega.{arith}
use lib.Dec.{leb}
use borrow.Author.Tests.{leb-false}
use Rattle.layout.specs.Result.{Result, ◌>>=◌, ◌and◌, as_refusal, done, must, or_refuse, refused}
use Rattle.layout.specs.Lists.{NameList}
use Rattle.layout.specs.Book.{Book, Data, Field, Format, Groups, Shape, Template, more, none}
use Rattle.layout.specs.BookRules.{ContentsRow, book_of, check_contents, check_templates, contents_end, each_must}
use Rattle.layout.specs.BookRules.{parse_bodies, tree_of}
use Rattle.layout.specs.Values.{Step, Values, answer_at, element_in, entry, group, measure, nil}
use Rattle.layout.specs.Message.{Dimension, Entry, check_header, count_at, count_good, depth_limit, header_numbers}
use Rattle.layout.specs.Message.{header_whole, in_row, read_block, read_data, read_datas, read_dimension, read_entries}
use Rattle.layout.specs.Message.{read_group, read_groups, read_message, read_root, read_whole, skip_datas, skip_entry}
use Rattle.layout.specs.Message.{skip_group, surplus_of}
use Rattle.layout.specs.Reading.{check_of, list_of, place_asked, place_by, steps_of}
use Rattle.layout.specs.Writing.{judge_array, judge_block, judge_datas, judge_entries, judge_fields, judge_groups}
use Rattle.layout.specs.Writing.{judge_listing, judge_null, judge_number, judge_octets, write_of}
use Rattle.demands.proofs.Outcomes.{Reads, goes_on}
use Rattle.demands.proofs.Read.{dimension_read}
use Rattle.layout.proofs.Results.{bind_done, each_way, either, inv_bind, inv_refused}
use Rattle.layout.specs.declared.Element.{Element}
use Rattle.layout.specs.Reasons.{number_of}
use Rattle.layout.specs.declared.Reason.{Reason}
use Rattle.layout.specs.declared.Reason.TheVariants.{GroupCountsWrong, RoomTooSmall}

-- If x is refused, then with a number from `low` to `high`.
abbrev pub Refuses : {A : Type 0} → ℕ → ℕ → Result A → Type 0
Refuses low high x = (n : Reason) (p : ℕ) → x ≡ refused n p → (low ≤ number_of n) × (number_of n ≤ high)

module _ {low high : ℕ} where
  refuses_done : {A : Type 0} {a : A} → Refuses low high (done a)
  refuses_done n p e = absurd (cc)

  refuses_always : {A : Type 0} {m : Reason} {q : ℕ} → (low ≤ number_of m) × (number_of m ≤ high)
      → Refuses {A = A} low high (refused m q)
  refuses_always {m = m} h n p e = let is : m ≡ n = cc in rw (← is) h

  -- What follows may use what is done.
  refuses_then : {A B : Type 0} {x : Result A} {k : A → Result B} → Refuses low high x
      → ((a : A) → x ≡ done a → Refuses low high (k a))
      → Refuses low high (x >>= k)
  refuses_then {x = x} {k = k} h q n p e = inv_refused x k n p e (h n p) λ a is. q a is n p

  refuses_bind : {A B : Type 0} {x : Result A} {k : A → Result B} → Refuses low high x
      → ((a : A) → Refuses low high (k a))
      → Refuses low high (x >>= k)
  refuses_bind h q = refuses_then h λ a _. q a

  refuses_must : (t : Bool) (m : Reason) (q : ℕ) → (low ≤ number_of m) × (number_of m ≤ high)
      → Refuses low high (must t m q)
  unfolding must
  refuses_must true m q h = refuses_done
  refuses_must false m q h = refuses_always h

  refuses_found : {A : Type 0} (o : Option A) (m : Reason) (q : ℕ) → (low ≤ number_of m) × (number_of m ≤ high)
      → Refuses low high (or_refuse o m q)
  unfolding or_refuse
  refuses_found no m q h = refuses_always h
  refuses_found (some a) m q h = refuses_done

  refuses_as : {A : Type 0} (x : Result A) (m : Reason) (q : ℕ) → (low ≤ number_of m) × (number_of m ≤ high)
      → Refuses low high (as_refusal x m q)
  unfolding as_refusal
  refuses_as (done a) m q h = refuses_done
  refuses_as (refused l i) m q h = refuses_always h

  -- A test first.
  refuses_unless : {B : Type 0} (t : Bool) (m : Reason) (q : ℕ) {k : Unit {0} → Result B}
      → (low ≤ number_of m) × (number_of m ≤ high)
      → ((u : Unit {0}) → Refuses low high (k u))
      → Refuses low high (must t m q >>= k)
  refuses_unless t m q h = refuses_bind (refuses_must t m q h)

wider : {A : Type 0} {low high low' high' : ℕ} {x : Result A} → low ≤ low' → high' ≤ high → Refuses low' high' x
    → Refuses low high x
wider l g h n p e = omega (arith, h n p e)

-- ---- 1 to 7

rows_refuse : (low at : ℕ) (rows : List ContentsRow) → Refuses 1 4 (contents_end low at rows)
unfolding contents_end number_of
rows_refuse low at [] = refuses_done
rows_refuse low at (r ∷ rs) = refuses_unless _ _ _ (omega arith) λ _. rows_refuse (suc r.id) (at + r.words) rs

contents_refuse : (b : List ℕ) → Refuses 1 4 (check_contents b)
unfolding check_contents number_of
contents_refuse b =
    refuses_bind (rows_refuse 0 _ _) λ at.
    refuses_bind (rows_refuse 0 at _) λ e. refuses_must _ _ _ (omega arith)

bodies_refuse : (ls : List NameList) (b : List ℕ) (t : ℕ) (rows : List ContentsRow)
    → Refuses 1 4 (parse_bodies ls b t rows)
unfolding parse_bodies number_of
bodies_refuse ls b t [] = refuses_done
bodies_refuse ls b t (r ∷ rs) =
    refuses_bind (refuses_as _ _ _ (omega arith)) λ x.
    refuses_bind (bodies_refuse ls b (suc t) rs) λ xs. refuses_done

each_refuses : {A : Type 0} {low high : ℕ} (f : A → Bool) (m : Reason) (t : ℕ) (xs : List A)
    → (low ≤ number_of m) × (number_of m ≤ high)
    → Refuses low high (each_must f m t xs)
unfolding each_must
each_refuses f m t [] h = refuses_done
each_refuses f m t (x ∷ xs) h = refuses_unless _ _ _ h λ _. each_refuses f m (suc t) xs h

pub tree_refuses : (octets : List ℕ) → Refuses 1 4 (tree_of octets)
unfolding tree_of number_of
tree_refuses octets =
    refuses_unless _ _ _ (omega arith) λ _.
    refuses_unless _ _ _ (omega arith) λ _.
    refuses_bind (contents_refuse _) λ _.
    refuses_bind (bodies_refuse _ _ 0 _) λ ts.
    refuses_bind (each_refuses _ _ _ _ (omega arith)) λ _. refuses_done

templates_refuse : (b : Book) → Refuses 5 7 (check_templates b)
unfolding check_templates number_of
templates_refuse b =
    refuses_bind (each_refuses _ _ _ _ (omega arith)) λ _.
    refuses_bind (each_refuses _ _ _ _ (omega arith)) λ _. each_refuses _ _ _ _ (omega arith)

pub book_refuses : (octets : List ℕ) → Refuses 1 7 (book_of octets)
unfolding book_of
book_refuses octets =
    refuses_bind (wider (omega arith) (omega arith) (tree_refuses octets)) λ b.
    refuses_bind (wider (omega arith) (omega arith) (templates_refuse b)) λ _. refuses_done

-- ---- 10 to 20, and 21 and 22 where dimensions have counts

-- A dimension without counts passes their test ..
counts_refuse : (counted : Bool) (high version v : ℕ) (groups datas : List ℕ) (g d at : ℕ)
    → (counted ≡ true → 22 ≤ high)
    → Refuses 10 high
    (must (count_good counted version v groups g and count_good counted version v datas d) GroupCountsWrong at)
unfolding must count_good ◌and◌ number_of
counts_refuse true high version v groups datas g d at deep = refuses_must _ _ _ (omega (arith, deep refl))
counts_refuse false high version v groups datas g d at deep = refuses_done

-- .. and counts no groups.
counts_groups : (counted big : Bool) (m : List ℕ) (at : ℕ) (d : Dimension) → d.groups ≡ count_at counted big m (at + 4)
    → 0 < d.groups → counted ≡ true
counts_groups true big m at d e h = refl
counts_groups false big m at d e h = absurd (omega arith)

module _ (counted : Bool) (high : ℕ) (known : 20 ≤ high) (deep : counted ≡ true → 22 ≤ high) (big : Bool)
    (m : List ℕ) where
  data_refuses : (at : ℕ) → Refuses 10 high (read_data big m at)
  unfolding read_data number_of
  data_refuses at =
      refuses_unless _ _ _ (omega arith) λ _.
      refuses_unless _ _ _ (omega arith) λ _.
      refuses_unless _ _ _ (omega arith) λ _. refuses_done

  row_refuses : (n : ℕ) (f : ℕ → Result ℕ) (at : ℕ) → (0 < n → (x : ℕ) → Refuses 10 high (f x))
      → Refuses 10 high (in_row n f at)
  unfolding in_row
  row_refuses zero f at h = refuses_done
  row_refuses (suc n) f at h = refuses_bind (h (omega arith) at) λ x. row_refuses n f x (λ _. h (omega arith))

  skipped_datas_refuse : (n at : ℕ) → Refuses 10 high (skip_datas big m n at)
  skipped_datas_refuse n at = row_refuses n _ at λ _ x. refuses_bind (data_refuses x) λ r. refuses_done

  skipped_entry_refuses : (f : ℕ → Result ℕ) (d : Dimension) (place at : ℕ)
      → (0 < d.groups → (x : ℕ) → Refuses 10 high (f x))
      → Refuses 10 high (skip_entry big m f d place at)
  unfolding skip_entry number_of
  skipped_entry_refuses f d place at h =
      refuses_unless _ _ _ (omega arith) λ _.
      refuses_bind (row_refuses d.groups f _ h) λ x. skipped_datas_refuse d.datas x

  dimension_refuses : (at : ℕ) → Refuses 10 high (read_dimension counted big m at)
  unfolding read_dimension number_of
  dimension_refuses at =
      refuses_unless _ _ _ (omega arith) λ _.
      refuses_unless _ _ _ (omega arith) λ _. refuses_done

  -- What follows a dimension, in which there are groups only if they are counted.
  dimension_then : {A : Type 0} (at : ℕ) (k : Dimension → Result A)
      → ((d : Dimension) → (0 < d.groups → counted ≡ true) → Refuses 10 high (k d))
      → Refuses 10 high (read_dimension counted big m at >>= k)
  dimension_then at k h =
      refuses_then (dimension_refuses at) λ d e.
      h d (counts_groups counted big m at d (dimension_read counted big m at d e).groups_is)

  skipped_group_refuses : (levels at : ℕ) → (levels ≡ 0 → counted ≡ true)
      → Refuses 10 high (skip_group counted big m levels at)
  unfolding skip_group number_of
  skipped_group_refuses zero at h = dimension_then at _ λ d _. refuses_always (omega (arith, deep (h refl)))
  skipped_group_refuses (suc levels) at h =
      dimension_then at _ λ d some.
      row_refuses _ _ _ λ _ x.
      skipped_entry_refuses _ d at x λ g y. skipped_group_refuses levels y (λ _. some g)

  header_refuses : (n at : ℕ) → Refuses 10 high (header_whole big m n at)
  unfolding header_whole number_of
  header_refuses zero at = refuses_done
  header_refuses (suc n) at = refuses_unless _ _ _ (omega arith) λ _. header_refuses n (at + 2)

  module _ (v : ℕ) where
    datas_refuse : (ds : List Data) (n at : ℕ) → Refuses 10 high (read_datas big m v ds n at)
    unfolding read_datas
    datas_refuse [] n at = refuses_bind (skipped_datas_refuse n at) λ x. refuses_done
    datas_refuse (d ∷ ds) n at =
        refuses_bind (either (Refuses 10 high) _ _ _ (data_refuses at) refuses_done) λ x.
        refuses_bind (datas_refuse ds n x.1) λ y. refuses_done

    block_refuses : (s : Shape) (f : ℕ → Result (Values × ℕ)) (n l at : ℕ) → ((x : ℕ) → Refuses 10 high (f x))
        → Refuses 10 high (read_block big m v s f n l at)
    unfolding read_block number_of
    block_refuses s f n l at h =
        refuses_unless _ _ _ (omega arith) λ _.
        refuses_bind (h (at + l)) λ x.
        refuses_bind (datas_refuse s.datas n x.1) λ y. refuses_done

    entries_refuse : (n : ℕ) (f : ℕ → Result Entry) (at : ℕ) → ((x : ℕ) → Refuses 10 high (f x))
        → Refuses 10 high (read_entries n f at)
    unfolding read_entries
    entries_refuse zero f at h = refuses_done
    entries_refuse (suc n) f at h =
        refuses_bind (h at) λ x.
        refuses_bind (entries_refuse n f x.3 h) λ y. refuses_done

    module _ (version : ℕ) where
      group_refuses : (s : Shape) (groups : List ℕ) (f : ℕ → ℕ → Result (Values × ℕ)) (at : ℕ)
          → ((n x : ℕ) → (0 < n → counted ≡ true) → Refuses 10 high (f n x))
          → Refuses 10 high (read_group counted version big m v s groups f at)
      unfolding read_group number_of
      group_refuses s groups f at h =
          dimension_then at _ λ d some.
          refuses_unless _ _ _ (omega arith) λ _.
          refuses_bind (counts_refuse counted high version v groups _ _ _ at deep) λ _.
          refuses_bind (entries_refuse _ _ _ λ y. block_refuses s _ _ _ y λ x.
          h _ x (λ g. some (omega arith))) λ y. refuses_done

      groups_refuse : (gs : Groups) (levels n at : ℕ) → (0 < n → levels ≡ 0 → counted ≡ true)
          → Refuses 10 high (read_groups counted version big m v gs levels n at)
      unfolding read_groups
      groups_refuse none levels n at h =
          refuses_bind (row_refuses n _ at λ g x. skipped_group_refuses levels x (h g)) λ x. refuses_done
      groups_refuse (more i since s inner rest) levels n at h =
          refuses_bind
          (either (Refuses 10 high) _ _ _
          (group_refuses s _ _ at λ k x some. groups_refuse inner _ k x (λ g _. some g)) refuses_done) λ x.
          refuses_bind (groups_refuse rest levels n x.2 h) λ y. refuses_done

module _ (high : ℕ) (known : 20 ≤ high) (m : List ℕ) where
  root_refuses : (format : Format) (version : ℕ) (t : Template) → (format.in_groups ≡ true → 22 ≤ high)
      → Refuses 10 high (read_root format version t m)
  unfolding read_root surplus_of read_whole number_of
  root_refuses format version t deep =
      let counted = format.in_groups in
      let big = format.big in
      refuses_bind (refuses_unless _ _ _ (omega arith) λ _.
      refuses_unless _ _ _ (omega arith) λ _.
      refuses_unless _ _ _ (omega arith) λ _. refuses_done) λ _.
      refuses_bind (block_refuses counted high known deep big m _ t.shape _ _ _ _ λ x.
      groups_refuse counted high known deep big m _ version t.groups depth_limit _ x λ _ z. absurd (omega arith)) λ x.
      refuses_unless _ _ _ (omega arith) λ _. refuses_done

  message_refuses : (b : Book) → (b.format.in_groups ≡ true → 22 ≤ high) → Refuses 10 high (read_message b m)
  unfolding read_message check_header number_of
  message_refuses b deep =
      let header = header_refuses b.format.in_groups high known deep b.format.big m header_numbers 0 in
      refuses_bind (refuses_unless _ _ _ (omega arith) λ _.
      refuses_bind header λ _. refuses_must _ _ _ (omega arith)) λ _.
      refuses_bind (refuses_found _ _ _ (omega arith)) λ t.
      root_refuses b.format b.version t deep

-- ---- 30 and 31

element_refuses : (x : Element) (r : Values) → Refuses 30 31 (element_in x r)
unfolding element_in number_of
element_refuses x nil = refuses_always (omega arith)
element_refuses x (entry fs gs ds rest) = refuses_done
element_refuses x (group a es rest) = refuses_always (omega arith)

answer_refuses : (p : List Step) (x : Element) (r : Values) → Refuses 30 31 (answer_at p x r)
unfolding answer_at
answer_refuses [] x r = element_refuses x r
answer_refuses (s ∷ p) x r = answer_refuses p x _

-- ---- 50 to 55

module _ (l pool : List ℕ) where
  octets_refuse : (fits : Bool) (i : ℕ) → Refuses 50 55 (judge_octets l pool fits i)
  unfolding judge_octets number_of
  octets_refuse fits i =
      refuses_unless _ _ _ (omega arith) λ _.
      refuses_unless _ _ _ (omega arith) λ _. refuses_done

  number_refuses : (f : Field) (i : ℕ) → Refuses 50 55 (judge_number l f i)
  unfolding judge_number number_of
  number_refuses f i =
      refuses_unless _ _ _ (omega arith) λ _.
      refuses_unless _ _ _ (omega arith) λ _. refuses_done

  null_refuses : (f : Field) (i : ℕ) → Refuses 50 55 (judge_null l f i)
  unfolding judge_null number_of
  null_refuses f i =
      refuses_unless _ _ _ (omega arith) λ _.
      refuses_unless _ _ _ (omega arith) λ _. refuses_done

  array_refuses : (f : Field) (i : ℕ) → Refuses 50 55 (judge_array l pool f i)
  unfolding judge_array
  array_refuses f i =
      either (Refuses 50 55) _ _ _ (either (Refuses 50 55) _ _ _ (null_refuses f i) (octets_refuse _ i))
      (octets_refuse _ i)

  judged_fields_refuse : (fs : List Field) (i : ℕ) → Refuses 50 55 (judge_fields l pool fs i)
  unfolding judge_fields
  judged_fields_refuse [] i = refuses_done
  judged_fields_refuse (f ∷ fs) i =
      refuses_bind (either (Refuses 50 55) _ _ _ (array_refuses f i) (number_refuses f i)) λ a.
      refuses_bind (judged_fields_refuse fs (suc i)) λ x. refuses_done

  judged_datas_refuse : (ds : List Data) (i : ℕ) → Refuses 50 55 (judge_datas l pool ds i)
  unfolding judge_datas
  judged_datas_refuse [] i = refuses_done
  judged_datas_refuse (d ∷ ds) i =
      refuses_bind (octets_refuse _ i) λ a.
      refuses_bind (judged_datas_refuse ds (suc i)) λ x. refuses_done

  judged_block_refuses : (s : Shape) (f : ℕ → Result (Values × ℕ)) (i : ℕ) → ((j : ℕ) → Refuses 50 55 (f j))
      → Refuses 50 55 (judge_block l pool s f i)
  unfolding judge_block
  judged_block_refuses s f i h =
      refuses_bind (judged_fields_refuse s.fields i) λ x.
      refuses_bind (h x.1) λ y.
      refuses_bind (judged_datas_refuse s.datas y.1) λ z. refuses_done

  judged_entries_refuse : (k : ℕ) (f : ℕ → Result Entry) (i : ℕ) → ((j : ℕ) → Refuses 50 55 (f j))
      → Refuses 50 55 (judge_entries l pool k f i)
  unfolding judge_entries
  judged_entries_refuse zero f i h = refuses_done
  judged_entries_refuse (suc k) f i h =
      refuses_bind (h i) λ x.
      refuses_bind (judged_entries_refuse k f x.3 h) λ y. refuses_done

  judged_groups_refuse : (gs : Groups) (i : ℕ) → Refuses 50 55 (judge_groups l pool gs i)
  unfolding judge_groups number_of
  judged_groups_refuse none i = refuses_done
  judged_groups_refuse (more id since s inner rest) i =
      refuses_unless _ _ _ (omega arith) λ _.
      refuses_unless _ _ _ (omega arith) λ _.
      refuses_bind
      (judged_entries_refuse _ _ (suc i) λ j. judged_block_refuses s _ j (judged_groups_refuse inner)) λ x.
      refuses_bind (judged_groups_refuse rest x.1) λ y. refuses_done

  listing_refuses : (t : Template) → Refuses 50 55 (judge_listing l pool t)
  unfolding judge_listing number_of
  listing_refuses t =
      refuses_bind (judged_block_refuses t.shape _ 0 (judged_groups_refuse t.groups)) λ x.
      refuses_unless _ _ _ (omega arith) λ _. refuses_done

-- ---- the operations, each after what it checks first

pub check_refuses : (high : ℕ) (book m : List ℕ) (b : Book) → book_of book ≡ done b → 20 ≤ high
    → (b.format.in_groups ≡ true → 22 ≤ high)
    → Refuses 10 high (check_of book m)
unfolding check_of
check_refuses high book m b e known deep =
    rw (e, bind_done) (refuses_bind (message_refuses high known m b deep) λ r. refuses_done)

-- A listing lacks room for a message that was read, and for nothing else.
pub lacks_room : (book m : List ℕ) (room p : ℕ) → list_of book m room ≡ refused RoomTooSmall p
    → (r : Values) × Reads book m r × (p ≡ measure r) × (room < 3 * measure r)
unfolding list_of must number_of ◌>>=◌
lacks_room book m room p e =
    inv_refused (book_of book) _ RoomTooSmall p e (λ no. absurd (omega (arith, book_refuses book _ _ no)))
    λ b is e₁.
    inv_refused (read_message b m) _ RoomTooSmall p e₁
    (λ no. absurd (omega (arith, message_refuses 22 (omega arith) m b (λ _. omega arith) _ _ no)))
    λ r reads e₂.
    each_way (leb (3 * measure r) room) (λ t. absurd (let no = rw t at e₂ in cc)) λ t.
    let full = rw t at e₂ in
    (r, record { by = b; accepted = is; reads = reads }, cc, leb-false (3 * measure r) room t)

pub place_refuses : (book m : List ℕ) (r : Values) → Reads book m r → (steps : List ℕ) (x : Element)
    → Refuses 30 31 (place_by book m steps x)
unfolding place_by place_asked read_message number_of
place_refuses book m r q steps x =
    let t = inv_bind _ _ _ (inv_bind _ _ _ q.reads).next in
    subst (Refuses 30 31) (sym (goes_on book m _ q))
    (rw (t.first, bind_done) (refuses_unless _ _ _ (omega arith) λ _. answer_refuses (steps_of steps) x r))

pub write_refuses : (book : List ℕ) (id : ℕ) (l pool : List ℕ) (room : ℕ) (b : Book) → book_of book ≡ done b
    → Refuses 50 55 (write_of book id l pool room)
unfolding write_of number_of
write_refuses book id l pool room b e =
    rw (e, bind_done)
    (refuses_bind (refuses_found _ _ _ (omega arith)) λ t.
    refuses_bind (listing_refuses l pool t) λ r.
    refuses_unless _ _ _ (omega arith) λ _. refuses_done)

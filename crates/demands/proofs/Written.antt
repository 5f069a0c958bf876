-- The first round trip, from octets to octets: what `write_of` gives is accepted under the same book and reads back with
-- the same values.
use mathlib.Core.Path.{◌∙◌, ◌≡◌, ap, refl, subst, sym}
use mathlib.Core.Bool.{Bool, true}
use mathlib.Core.List.{List, [], ◌∷◌}
use mathlib.Core.Option.{some}
use Prim.Native.Nat.{◌*◌, ◌+◌, ◌≤◌, ℕ}
use native.Mathlib.Omega.{arith}
use lib.ListN.{length, length-append}
use borrow.Author.Tests.{eq-eqb, le-leb, leb-true, lt-ltb}
use Rattle.layout.specs.Result.{Each, ◌>>=◌, ◌and◌, done, must, or_refuse}
use Rattle.layout.specs.Octets.{Numbers64, null16}
use Rattle.layout.specs.Book.{Book, Template, find_template}
use Rattle.layout.specs.BookRules.{book_of}
use Rattle.layout.specs.Values.{Values, entry, listing, measure, nil}
use Rattle.layout.specs.Message.{Entry, check_header, depth_limit, header_size, header_whole, read_block, read_groups}
use Rattle.layout.specs.Message.{read_message, read_root, read_whole, schema_id, surplus_of}
use Rattle.layout.specs.Reading.{list_of}
use Rattle.layout.specs.Writing.{counts_of, header_of, judge_block, judge_groups, judge_listing, message_octets, numbers16}
use Rattle.layout.specs.Writing.{row_octets, write_of}
use Rattle.layout.specs.Demands.{contents}
use Rattle.demands.proofs.Contents.{contents_measure, listing_says, tree_contents}
use Rattle.demands.proofs.Relisted.{relisted}
use Rattle.demands.proofs.Reread.{RowBack, block_back, entry_octets, four_same, groups_back}
use Rattle.layout.proofs.Fields.{need_within}
use Rattle.layout.proofs.Accepted.{Accepted, accepted}
use Rattle.layout.proofs.Present.{Writable, groups_in_lem, writable}
use Rattle.layout.proofs.Records.{listing_three}
use Rattle.layout.proofs.Results.{and_left, and_right, bind_done, inv_bind, inv_both, inv_found, inv_must}
use Rattle.layout.proofs.Stands.{AllWhole, AreAt, Stands, all_stands, length_numbers, numbers_are, split_to}
use Rattle.layout.proofs.Lengths.{counts_long}
use Rattle.layout.proofs.Counts.{counts_read, counts_whole}
use Rattle.layout.specs.declared.Answer.{Answer}

-- ---- the header

header_whole_lem : (big : Bool) (m : List ℕ) (at : ℕ) (xs : List ℕ) → AreAt big m at xs → AllWhole xs
    → header_whole big m (length xs) at ≡ done tt
unfolding header_whole AreAt Each must ◌>>=◌
header_whole_lem big m at [] a h = refl
header_whole_lem big m at (x ∷ xs) a h = rw (a.0, lt-ltb x null16 h.0) (header_whole_lem big m (at + 2) xs a.1 h.1)

header_good : (b : Book) (t : Template) (m : List ℕ) → header_size ≤ length m → length m ≤ 65535
    → let big = b.format.big in
    AreAt big m 0 (header_of b t) → AllWhole (header_of b t) → check_header big b.schema m ≡ done tt
unfolding check_header must ◌>>=◌ ◌and◌ counts_of
header_good b t m long few a h =
    let big = b.format.big in
    let schema : schema_id big m ≡ b.schema = unfold AreAt in a.1.1.0 in
    rw (
      le-leb 12 (length m) long,
      le-leb (length m) 65535 few,
      header_whole_lem big m 0 (header_of b t) a h,
      schema,
      eq-eqb b.schema b.schema refl,
    ) refl

-- The header stands at the start of what is written, and the root after it.
header_stands : (b : Book) (t : Template) (pool : List ℕ) (r : Values) → AllWhole (header_of b t)
    → let m = message_octets b t pool r in
    let big = b.format.big in
    AreAt big m 0 (header_of b t) × (header_size ≤ length m)
    × Stands m header_size (row_octets b.format.in_groups big pool t.shape t.groups r) (length m)
unfolding message_octets
header_stands b t pool r h =
    let m = message_octets b t pool r in
    let big = b.format.big in
    let xs = header_of b t in
    let o = split_to (numbers16 big xs) (row_octets b.format.in_groups big pool t.shape t.groups r) header_size
    (omega (arith, length_numbers big xs, counts_long true t.groups t.shape.datas)) (all_stands m) in
    (numbers_are big xs h o.0, o.0.fits, o.1)

-- ---- the root

root_reads : (b : Book) (t : Template) (m : List ℕ) (fs : List Answer) (g : Values) (ds : List Answer)
    → let v = b.version in
    let big = b.format.big in
    AreAt big m 0 (header_of b t) → Writable b t
    → read_block big m v t.shape (read_groups b.format.in_groups v big m v t.groups depth_limit 0) 0
    t.shape.length header_size
    ≡ done (fs, g, ds, length m)
    → read_root b.format v t m ≡ done (entry fs g ds nil)
unfolding read_root surplus_of read_whole must ◌>>=◌ AreAt
root_reads b t m fs g ds a w e =
    let v = b.version in
    let big = b.format.big in
    let c = counts_read true v t.groups t.shape.datas big m 8 (groups_in_lem v depth_limit t.groups w.groups)
    w.shape.datas_in a.1.1.1.1 in
    let none_left : surplus_of big v t m ≡ done (0, 0) = rw (
      a.0,
      a.1.1.1.0,
      le-leb _ _ (need_within v t.shape.length 0 0 t.shape.fields w.shape.fields (omega arith)),
      c.groups_good,
      c.datas_good,
      c.no_groups,
      c.no_datas,
    ) refl in
    let reads : read_whole b.format v t m (0, 0) ≡ done (entry fs g ds nil) =
    rw (a.0, a.1.1.1.0, e, eq-eqb (length m) (length m) refl) refl in
    rw none_left reads

-- ---- the message

-- What comes of reading what was written.
record ReadsBack (b : Book) (m pool : List ℕ) (said : Values) : Type 0 where
  values : Values
  accepts : read_message b m ≡ done values
  same : tree_contents m values ≡ tree_contents pool said

module _ (b : Book) (t : Template) (l pool : List ℕ) (small : Numbers64 l) (a : Accepted b t) where
  whole : AllWhole (header_of b t)
  unfolding Each
  whole = (
    (writable b t a).shape.short,
    (a.id, (a.schema, (a.version, counts_whole true t.shape t.groups a.few))),
  )

  message_reads : (m : List ℕ) (r : Values) → let big = b.format.big in
      check_header big b.schema m ≡ done tt → AreAt big m 0 (header_of b t)
      → read_root b.format b.version t m ≡ done r → read_message b m ≡ done r
  unfolding read_message or_refuse AreAt
  message_reads m r h i e = rw (h, i.1.0, a.there, bind_done, bind_done) e

  entry_reads : (x : Entry) → let said = entry x.0 x.1 x.2 nil in
      judge_block l pool t.shape (judge_groups l pool t.groups) 0 ≡ done x
      → length (message_octets b t pool said) ≤ 65535 → ReadsBack b (message_octets b t pool said) pool said
  unfolding row_octets tree_contents
  entry_reads x e few =
      let v = b.version in
      let big = b.format.big in
      let w = writable b t a in
      let said = entry x.0 x.1 x.2 nil in
      let m = message_octets b t pool said in
      let h = header_stands b t pool said whole in
      let counted = b.format.in_groups in
      let f = read_groups counted v big m v t.groups depth_limit 0 in
      let back : (i at to : ℕ) (r : Values × ℕ) → judge_groups l pool t.groups i ≡ done r
      → Stands m at (row_octets counted big pool t.shape t.groups r.0) to
      → RowBack counted big l pool m v small r.0 to (f at) =
      λ i at to r e' st. groups_back counted big l pool m v small t.groups t.shape depth_limit i at to r
      w.groups e' st in
      let xs = entry_octets counted big l pool m v small t.shape t.groups w.shape
      (judge_groups l pool t.groups) f back x in
      let o = split_to xs [] (length m) (omega (arith, h.2.ends, length-append xs [])) h.2 in
      let k = block_back counted big l pool m v small t.shape t.groups w.shape
      (judge_groups l pool t.groups) f back 0 header_size (length m) x e o.0 in
      record {
        values = entry k.fields k.groups k.datas nil;
        accepts = message_reads m _ (header_good b t m h.1 few h.0 whole) h.0
            (root_reads b t m k.fields k.groups k.datas h.0 w k.reads);
        same = four_same k.same_fields k.same_groups k.same_datas refl;
      }

  listing_reads : (said : Values) → judge_listing l pool t ≡ done said
      → length (message_octets b t pool said) ≤ 65535
      → ReadsBack b (message_octets b t pool said) pool said
  unfolding judge_listing
  listing_reads said e few =
      let p = inv_both _ _ _ _ e in
      subst (λ (x : Values). length (message_octets b t pool x) ≤ 65535 → ReadsBack b (message_octets b t pool x) pool x)
      p.is
      (entry_reads p.value p.first) few

-- ---- from the octets

-- How a message came to be written: the book, the template, and the tree that the listing was judged to be.
pub record WrittenBy (book : List ℕ) (id : ℕ) (l pool : List ℕ) (room : ℕ) (m : List ℕ) : Type 0 where
  pub by : Book
  pub template : Template
  pub said : Values
  pub good : book_of book ≡ done by
  pub found : find_template id by.templates ≡ some template
  pub judged : judge_listing l pool template ≡ done said
  pub fits : length (message_octets by template pool said) ≤ room
  pub short : length (message_octets by template pool said) ≤ 65535
  pub is : message_octets by template pool said ≡ m

pub written_by_lem : (book : List ℕ) (id : ℕ) (l pool : List ℕ) (room : ℕ) (m : List ℕ)
    → write_of book id l pool room ≡ done m
    → WrittenBy book id l pool room m
unfolding write_of
written_by_lem book id l pool room m e =
    let b = inv_bind _ _ _ e in
    let t = inv_bind _ _ _ b.next in
    let r = inv_both _ _ _ _ t.next in
    let n = length (message_octets b.value t.value pool r.value) in
    let h = inv_must _ _ _ _ r.second in
    record {
      by = b.value;
      template = t.value;
      said = r.value;
      good = b.first;
      found = inv_found _ _ _ t.value t.first;
      judged = r.first;
      fits = leb-true n room (and_left _ _ h);
      short = leb-true n 65535 (and_right _ _ h);
      is = r.is;
    }

-- What is read of what was written: a listing with the same contents.
pub record ReadsAgain (book l pool m : List ℕ) : Type 0 where
  pub count : ℕ
  pub read : List ℕ
  pub lists : list_of book m (length l) ≡ done (count, read)
  pub all : 3 * count ≡ length l
  pub long : length read ≡ length l
  pub same : contents m read ≡ contents pool l

pub lists_within : (book m : List ℕ) (room : ℕ) (b : Book) (r : Values) → book_of book ≡ done b
    → read_message b m ≡ done r
    → 3 * measure r ≤ room
    → list_of book m room ≡ done (measure r, listing r)
unfolding list_of must ◌>>=◌
lists_within book m room b r e q h = rw (e, q, le-leb (3 * measure r) room h) refl

pub reads_again : (book : List ℕ) (id : ℕ) (l pool : List ℕ) (room : ℕ) (m : List ℕ) → Numbers64 l
    → WrittenBy book id l pool room m
    → ReadsAgain book l pool m
reads_again book id l pool room m small w =
    let a = (accepted book w.by id w.template w.good w.found).1 in
    let k = subst (λ (x : List ℕ). ReadsBack w.by x pool w.said) w.is
    (listing_reads w.by w.template l pool small a w.said w.judged w.short) in
    let relists = relisted l pool w.template w.said w.judged in
    let count : measure k.values ≡ measure w.said =
    sym (contents_measure m k.values) ∙ ap length k.same ∙ contents_measure pool w.said in
    let all : 3 * measure k.values ≡ length l = omega (arith, count, listing_three w.said, ap length relists) in
    record {
      count = measure k.values;
      read = listing k.values;
      lists = lists_within book m (length l) w.by k.values w.good k.accepts (omega arith);
      all = all;
      long = listing_three k.values ∙ all;
      same = listing_says m k.values ∙ k.same ∙ sym (listing_says pool w.said) ∙ ap (contents pool) relists;
    }

-- What the walk over a whole message says of checking and listing it.
use mathlib.Core.Path.{◌≡◌, ◌∙◌, ap, refl, sym}
use mathlib.Core.Bool.{Bool}
use mathlib.Core.List.{List, [], ◌∷◌}
use Prim.Native.Nat.{ℕ, ◌+◌, ◌*◌, ◌<◌, ◌≤◌}
use native.Mathlib.Nat.{zero-add}
use native.Mathlib.Omega.{arith}
use lib.ListN.{length, length-map}
use lib.Seq.{sets, sets-eq}
use borrow.Author.Tests.{le-leb, lt-leb}
use Rattle.std.specs.Prelude.{Err, Ok, Option, Some}
use Rattle.layout.specs.Result.{◌>>=◌, Result, done, must, refused}
use Rattle.layout.specs.Book.{Data, need}
use Rattle.layout.specs.Operations.{ListsAs, refusal, room_after, told}
use Rattle.layout.specs.Message.{Entry, header_size, read_datas, read_field, read_message, read_whole, version_of}
use Rattle.layout.specs.Reading.{list_in, steps_of}
use Rattle.layout.specs.Values.{Values, entry, listing, measure, nil}
use Rattle.layout.specs.declared.Answer.{Answer}
use Rattle.layout.specs.declared.Reason.{Reason}
use Rattle.layout.specs.declared.Refusal.{Refusal}
use Rattle.layout.proofs.Records.{listing_three}
use Rattle.layout.proofs.Results.{done_inj, inv_bind}
use Rattle.prepared.specs.Names.{lists_at}
use Rattle.prepared.specs.Positions.{BlockAt, many_datas, datas_from, many_fields, inner_at, is_big, shape_at, version_at}
use Rattle.prepared.specs.Books.{book_at, template_at}
use Rattle.prepared.proofs.Accepted.{fields_length}
use Rattle.counts.specs.declared.Entries.{Entries}
use Rattle.counts.proofs.Counts.{length_datas}
use Rattle.walk.specs.Walks.{entry_by}
use Rattle.places.specs.Spots.{spot_in}
use Rattle.places.specs.declared.Spot.{Spot}
use Rattle.places.specs.Seeks.{Path}
use Rattle.prints.specs.Prints.{Room, end_of, got, numbers_of}
use Rattle.store.specs.Stores.{sized_print}
use Rattle.store.proofs.Root.{root_prints}
use Rattle.whole.specs.Wholes.{records_in, rest_at, root_spot, tree_at}
use Rattle.whole.proofs.Entries.{Enters}
use Rattle.whole.proofs.Messages.{root_read}
use Rattle.layout.specs.declared.Reason.TheVariants.{RoomTooSmall}

-- No numbers are a path.
pub no_steps : Path [] 0
no_steps = record { few = omega arith; inside = omega arith; even = refl }

-- As many data are read as the book has.
datas_length_lem : (big : Bool) (m : List ℕ) (v n : ℕ) (ds : List Data) (at : ℕ) (r : List Answer × ℕ)
    → read_datas big m v ds n at ≡ done r
    → length r.0 ≡ length ds
unfolding read_datas
datas_length_lem big m v n [] at r e = ap (λ (x : List Answer × ℕ). length x.0) (sym (done_inj (inv_bind _ _ _ e).next))
datas_length_lem big m v n (d ∷ ds) at r e =
    let rest = inv_bind _ _ _ (inv_bind _ _ _ e).next in
    let all = ap (λ (x : List Answer × ℕ). length x.0) (done_inj rest.next) in
    omega (arith, all, datas_length_lem big m v n ds _ rest.value rest.first)

-- ---- the root block

module _ {p m path : List ℕ} {a v : ℕ} {k : Option ℕ} {s : Option Spot} (o : Enters p m path a v k s) where
  abbrev pub tree_of : Values
  tree_of = tree_at p m (a, o.surplus, o.groups, o.datas)

  data_records : length o.datas ≡ many_datas p a
  unfolding rest_at
  data_records =
      let q = inv_bind _ _ _ o.rest in
      let same = ap (λ (x : List Answer × ℕ). length x.0) (done_inj (inv_bind _ _ _ q.next).next) in
      let many = length-map (shape_at p a).datas (λ (d : Data). d.since) in
      let all = length_datas p (many_datas p a) (datas_from p a) in
      omega (arith, same, datas_length_lem (is_big p) m _ _ _ _ q.value q.first, many, all)

  -- As it is read.
  pub record Block : Type 0 where
    pub block : Entry
    pub is_block : entry_by p m v (shape_at p a) (inner_at p 4 a) 4 o.surplus o.over o.long header_size
        ≡ done block
    pub tree_is : entry block.0 block.1 block.2 nil ≡ tree_of

  block_of : read_whole (book_at p).format (version_at p) (template_at p a) m (o.surplus, o.over) ≡ done tree_of → Block
  unfolding read_whole
  block_of h =
      let r = inv_bind _ _ _ h in
      record {
        block = r.value;
        is_block = rw (o.opens.version, o.opens.long) r.first;
        tree_is = done_inj (inv_bind _ _ _ r.next).next;
      }

  pub root_block_lem : Block
  unfolding ◌>>=◌
  root_block_lem =
      block_of (root_read p m a (o.surplus, o.over)
      ∙ rw (← o.opens.version, ← o.opens.long, o.root, o.rest) refl)

-- ---- listing

not_listed : (list : ℕ → Result (ℕ × List ℕ)) (room : List ℕ) (r : Reason) (q : ℕ) → list (length room) ≡ refused r q
    → ListsAs list room (Err (refusal r q)) room
unfolding ◌>>=◌ told room_after
not_listed list room r q e = record { answer = rw e refl; room = rw e refl }

pub list_refused : (p m room : List ℕ) (z : Refusal) → read_message (book_at p) m ≡ refused z.reason z.place
    → ListsAs (list_in (book_at p) m) room (Err z) room
unfolding ◌>>=◌
list_refused p m room z e = not_listed _ room _ _ (rw e refl)

-- The root block as the pass takes it.
abbrev pub root_entries : Spot → Entries
root_entries s = record { length = s.length; count = 1; surplus = record { groups = s.groups; datas = 0 } }

-- A message that is accepted, and its root's spot.
module _ {p m : List ℕ} {a v : ℕ} {r : Option ℕ} {s : Option Spot} (o : Enters p m [] a v r s) where
  pub records_found : r ≡ Some (measure o.groups)
  unfolding records_in
  records_found = o.records

  measured : (k : ℕ) → r ≡ Some k → many_fields p a + k + many_datas p a ≡ measure (tree_of o)
  unfolding measure
  measured k is =
      let same = sym is ∙ records_found in
      let many : k ≡ measure o.groups = cc in
      omega (
        arith,
        length-map (shape_at p a).fields (read_field (is_big p) m (version_of (is_big p) m) header_size),
        fields_length (lists_at p) p (many_fields p a) (a + 12),
        data_records o,
        many,
      )

  pub root_found : s ≡ Some (root_spot o.long o.surplus)
  unfolding spot_in steps_of
  root_found = o.spot

  -- The root block, with its surplus data.
  block_prints : (end : ℕ) × (sized_print p 4 a m v (root_entries (root_spot o.long o.surplus)) header_size
      ≡ got end (listing (tree_of o)))
  block_prints =
      let r = root_block_lem o in
      let q = root_prints p 4 a m v o.surplus o.long header_size o.over r.block r.is_block in
      (q.0, q.1 ∙ ap (λ (t : Values). got q.0 (listing t)) r.tree_is)

  module _ {k : ℕ} (found : r ≡ Some k) (room : List ℕ) (all : ℕ) (n : all ≡ many_fields p a + k + many_datas p a) where
    all_records : all ≡ measure (tree_of o)
    all_records = n ∙ measured k found

    -- The room is too small.
    pub list_full : length room < 3 * all → ListsAs (list_in (book_at p) m) room (Err (refusal RoomTooSmall all)) room
    unfolding ◌>>=◌ must
    list_full h =
        let full : length room < 3 * measure (tree_of o) = omega (arith, all_records, h) in
        not_listed _ room RoomTooSmall all (rw (o.read, lt-leb _ _ full, all_records) refl)

    module _ (h : 3 * all ≤ length room) {root : Spot} (is : s ≡ Some root) where
      fits : 3 * measure (tree_of o) ≤ length room
      fits = omega (arith, all_records, h)

      within : 0 + length (listing (tree_of o)) ≤ length room
      within = omega (arith, listing_three (tree_of o), fits)

      root_is : root ≡ root_spot o.long o.surplus
      root_is = let q = sym is ∙ root_found in cc

      -- There is room for the root block, with its surplus data.
      pub list_block : BlockAt p 4 a × (need v (shape_at p a) ≤ root.length) × (root.groups ≤ 65535)
      list_block = rw root_is (o.opens.block, o.opens.enough, o.opens.few)

      pub list_room : Room (sized_print p 4 a m v (root_entries root) header_size) 0 (length room)
      unfolding end_of numbers_of
      list_room = rw (root_is, block_prints.1) (record { whole = refl; fits = within })

      pub list_stored : (after : List ℕ)
          → after ≡ sets room 0 (numbers_of (sized_print p 4 a m v (root_entries root) header_size))
          → ListsAs (list_in (book_at p) m) room (Ok all) after
      unfolding ◌>>=◌ must told room_after numbers_of
      list_stored after q =
          let laid = rw (root_is, block_prints.1) at q ∙ sets-eq (listing (tree_of o)) room 0 within in
          record {
            answer = rw (o.read, le-leb _ _ fits, all_records) refl;
            room = rw (o.read, le-leb _ _ fits) (rw zero-add at laid);
          }

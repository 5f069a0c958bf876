-- The second round trip, from octets to octets: a message that could have been written with the book, listed and
-- written back with itself as pool, is itself.
use mathlib.Core.Path.{◌∙◌, ◌≡◌, ap₂, refl, subst, sym}
use mathlib.Core.Bool.{Bool, true}
use mathlib.Core.List.{List}
use mathlib.Core.Option.{some}
use Prim.Native.Nat.{◌≤◌, ℕ}
use native.Mathlib.Nat.{le_refl}
use native.Mathlib.Omega.{arith}
use lib.ListN.{length}
use borrow.Author.Tests.{eqb-true, le-leb, leb-true}
use Rattle.layout.specs.Result.{Result, ◌>>=◌, ◌and◌, done, must, or_refuse}
use Rattle.layout.specs.Octets.{AllOctets}
use Rattle.layout.specs.Book.{Book, Template, find_template}
use Rattle.layout.specs.BookRules.{book_of}
use Rattle.layout.specs.Values.{Values, entry, listing, nil}
use Rattle.layout.specs.Message.{Entry, block_length, check_header, depth_limit, header_size, read_block, read_groups}
use Rattle.layout.specs.Message.{read_message, read_root, read_whole, schema_id, surplus_of, template_id, version_of}
use Rattle.layout.specs.Writing.{counts_of, header_of, judge_listing, message_octets, row_octets, write_of}
use Rattle.layout.specs.Demands.{AllSound, AsWritten, OwnBlocks}
use Rattle.demands.proofs.Judged.{listing_judged_lem}
use Rattle.demands.proofs.Reprinted.{block_stands, entry_printed, groups_stand}
use Rattle.layout.proofs.Fields.{need_within}
use Rattle.layout.proofs.Accepted.{accepted}
use Rattle.layout.proofs.Present.{Writable, groups_in_lem, writable}
use Rattle.layout.proofs.Results.{and_left, and_right, bind_done, inv_bind, inv_both, inv_must}
use Rattle.layout.proofs.Stands.{AreAt, Stands, join, nothing_stands, numbers_stand, stands_all}
use Rattle.layout.proofs.Counts.{counts_written, good_counts}
use Rattle.layout.proofs.Lengths.{counts_long}

-- ---- the root of a message of the book's own version and root block length

-- Its groups and its block, with surplus groups and data.
abbrev root_groups : Book → Template → List ℕ → ℕ → ℕ → Result (Values × ℕ)
root_groups b t m groups =
    let v = b.version in
    read_groups b.format.in_groups v b.format.big m v t.groups depth_limit groups

abbrev root_block : Book → Template → List ℕ → ℕ → ℕ → Result Entry
root_block b t m groups datas =
    read_block b.format.big m b.version t.shape (root_groups b t m groups) datas t.shape.length header_size

record RootRead (b : Book) (t : Template) (m : List ℕ) (r : Values) : Type 0 where
  root : Entry
  counts : AreAt b.format.big m 8 (counts_of true t.groups t.shape.datas)
  reads : root_block b t m 0 0 ≡ done root
  ends : root.3 ≡ length m
  is : entry root.0 root.1 root.2 nil ≡ r

root_read : (b : Book) (t : Template) (m : List ℕ) (r : Values) → Writable b t → let big = b.format.big in
    version_of big m ≡ b.version → block_length big m ≡ t.shape.length
    → read_root b.format b.version t m ≡ done r → RootRead b t m r
unfolding read_root surplus_of read_whole
root_read b t m r w ve le e =
    let v = b.version in
    let big = b.format.big in
    let gs = t.groups in
    let ds = t.shape.datas in
    let p₁ = inv_bind _ _ _ (rw (ve, le) at e) in
    let p₂ = inv_both _ _ _ _ (inv_bind _ _ _ p₁.first).next in
    let left = p₂.is in
    let p₄ = inv_both _ _ _ _ (rw (sym left, ve, le) at p₁.next) in
    let own = good_counts true v gs ds big m 8 (inv_must _ _ _ _ p₂.first) (inv_must _ _ _ _ p₂.second) in
    record {
      root = p₄.value;
      counts = counts_written true v gs ds big m 8 (groups_in_lem v depth_limit gs w.groups) w.shape.datas_in own;
      reads = sym (ap₂ (root_block b t m) own.no_groups own.no_datas) ∙ p₄.first;
      ends = eqb-true p₄.value.3 (length m) (inv_must _ _ _ _ p₄.second);
      is = p₄.is;
    }

-- ---- the tree is printed as the message, and the listing judged to be the tree

module _ (b : Book) (t : Template) (m : List ℕ) (octets : AllOctets m) (w : Writable b t) where
  abbrev big : Bool
  big = b.format.big

  abbrev counted : Bool
  counted = b.format.in_groups

  root_stands : (x : Entry) → let r = entry x.0 x.1 x.2 nil in x.3 ≡ length m
      → OwnBlocks counted big m t.shape t.groups header_size r → AllSound r
      → root_block b t m 0 0 ≡ done x
      → Stands m header_size (row_octets counted big m t.shape t.groups r) (length m)
  unfolding OwnBlocks AllSound row_octets
  root_stands x e own sound q =
      let v = b.version in
      let s = (block_stands counted big m v octets t.shape t.groups (root_groups b t m 0) header_size x w.shape
      (groups_stand counted big m v octets t.groups t.shape depth_limit w.groups) own.0 own.1 own.2
      sound.0 sound.1 q).0 in
      join _ _
      (subst (λ (y : ℕ). Stands m header_size (entry_printed counted big m v octets t.shape t.groups x) y) e s)
      (nothing_stands m (length m) (le_refl (length m)))

  printed : (r : Values) → header_size ≤ length m → schema_id big m ≡ b.schema → template_id big m ≡ t.id
      → AsWritten b t m r → RootRead b t m r
      → message_octets b t m r ≡ m
  unfolding message_octets AreAt
  printed r h schema id a k =
      let root = subst (λ (x : Values). OwnBlocks counted big m t.shape t.groups header_size x → AllSound x
      → Stands m header_size (row_octets counted big m t.shape t.groups x) (length m)) k.is
      (λ own sound. root_stands k.root k.ends own sound k.reads) a.blocks a.sound in
      stands_all (join _ _ (numbers_stand big m octets 0 header_size (header_of b t)
      (omega (arith, counts_long true t.groups t.shape.datas)) h
      (a.length, (id, (schema, (a.version, k.counts))))) root)

  judged : (r : Values) → AllSound r → RootRead b t m r → judge_listing (listing r) m t ≡ done r
  judged r sound k =
      subst (λ (x : Values). AllSound x → judge_listing (listing x) m t ≡ done x) k.is
      (λ i. listing_judged_lem big _ m b.version counted t depth_limit t.shape.length header_size k.root
      w.shape w.groups
      (need_within b.version t.shape.length 0 0 t.shape.fields w.shape.fields (omega arith)) i
      k.reads refl) sound

-- ---- from the octets

-- The header of an accepted message.
pub record HeaderRead (big : Bool) (schema : ℕ) (m : List ℕ) : Type 0 where
  pub long : header_size ≤ length m
  pub short : length m ≤ 65535
  pub same : schema_id big m ≡ schema

pub header_read : (big : Bool) (schema : ℕ) (m : List ℕ) (u : Unit {0}) → check_header big schema m ≡ done u
    → HeaderRead big schema m
unfolding check_header
header_read big schema m u e =
    let p = inv_bind _ _ _ e in
    let h = inv_must _ _ _ _ p.first in
    record {
      long = leb-true header_size (length m) (and_left _ _ h);
      short = leb-true (length m) 65535 (and_right _ _ h);
      same = eqb-true (schema_id big m) schema (inv_must _ _ _ u (inv_bind _ _ _ p.next).next);
    }

message_read : (b : Book) (t : Template) (m : List ℕ) (r : Values)
    → find_template (template_id b.format.big m) b.templates ≡ some t
    → read_message b m ≡ done r
    → HeaderRead b.format.big b.schema m × (read_root b.format b.version t m ≡ done r)
unfolding read_message or_refuse
message_read b t m r h q =
    let p = inv_bind _ _ _ q in (
      header_read b.format.big b.schema m p.value p.first,
      sym (bind_done t (λ x. read_root b.format b.version x m)) ∙ rw h at p.next,
    )

pub written_back : (book m : List ℕ) (room : ℕ) (b : Book) (t : Template) (r : Values) → AllOctets m
    → book_of book ≡ done b
    → find_template (template_id b.format.big m) b.templates ≡ some t → read_message b m ≡ done r
    → AsWritten b t m r
    → length m ≤ room
    → write_of book (template_id b.format.big m) (listing r) m room ≡ done m
unfolding write_of must ◌>>=◌ or_refuse ◌and◌
written_back book m room b t r octets e h q a fits =
    let c = accepted book b (template_id b.format.big m) t e h in
    let w = writable b t c.1 in
    let k = message_read b t m r h q in
    let root = root_read b t m r w a.version a.length k.1 in
    let is = printed b t m octets w r k.0.long k.0.same (sym c.0) a root in
    rw (
      e,
      h,
      judged b t m octets w r a.sound root,
      is,
      le-leb (length m) room fits,
      le-leb (length m) 65535
          k.0.short,
    ) refl

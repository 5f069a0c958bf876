-- The groups of a body in a row, one at a time: read, and stored.
use Rattle.std.proofs.Common.{◌≡◌, ℕ, zero, suc, ◌+◌, ◌-◌, ◌<◌, ◌≤◌, Bool, List, [], ◌++◌, length, sym, refl, ap, ◌∙◌, append_assoc, append-nil, arith}
use lib.Seq.{sets}
use Rattle.octets.proofs.Joined.{sets_append}
use Rattle.layout.specs.Octets.{words_of}
use Rattle.layout.specs.Lists.{NameList}
use Rattle.layout.specs.Book.{Groups, Shape, group_sinces, more, need as need_of, none}
use Rattle.layout.specs.BookRules.{word}
use Rattle.number_types.specs.Value.{order_of}
use Rattle.prepared.specs.Numbers.{block_of, block_size, count, groups_of, groups_size}
use Rattle.prepared.proofs.Prepared.{length_groups}
use Rattle.prepare.specs.Positions.{BlockAt, IsRow, Opened, elements_at, group_at, many_groups, group_size, groups_at}
use Rattle.prepare.specs.Positions.{groups_end, groups_from, head_at, inner_at, inner_end, shape_at, size_at}
use Rattle.prepare.specs.declared.Ends.{Ends}
use Rattle.prepare.proofs.Filling.{Filling, filling_ends, filling_on, sets_past}
use Rattle.prepare.proofs.Blocks.{block_is, block_size_lem, elements_long}

-- ---- read

pub open_row : (s : List ℕ) (depth n w : ℕ) → 0 < n → IsRow s depth n w → Opened s depth n w
unfolding IsRow groups_at groups_end
open_row s depth zero w h row = absurd (omega arith)
open_row s zero (suc n) w h row = absurd row
open_row s (suc depth) (suc n) w h row =
    let d : suc depth - 1 ≡ depth = omega arith in
    let k : suc n - 1 ≡ n = omega arith in
    record {
      deep = omega arith;
      block = record { fits = row.0; row = rw d row.1 };
      rest = rw (k, d) row.2;
      end = rw (k, d) refl;
      tree = λ ls. rw (d, k) refl;
    }

none_left : (s : List ℕ) (depth n w : ℕ) → n ≤ 0 → groups_end s depth n w ≡ w
unfolding groups_end
none_left s zero zero w h = refl
none_left s (suc depth) zero w h = refl
none_left s depth (suc n) w h = absurd (omega arith)

no_groups_lem : (ls : List NameList) (s : List ℕ) (depth n w : ℕ) → n ≤ 0 → groups_at ls s depth n w ≡ none
unfolding groups_at
no_groups_lem ls s zero zero w h = refl
no_groups_lem ls s (suc depth) zero w h = refl
no_groups_lem ls s depth (suc n) w h = absurd (omega arith)

count_row : (ls : List NameList) (s : List ℕ) (depth n w : ℕ) → IsRow s depth n w → count (groups_at ls s depth n w) ≡ n
unfolding IsRow groups_at group_sinces
count_row ls s zero zero w row = refl
count_row ls s (suc depth) zero w row = refl
count_row ls s zero (suc n) w row = absurd row
count_row ls s (suc depth) (suc n) w row = ap suc (count_row ls s (suc depth) n _ row.2)

-- ---- stored

-- Groups are as many numbers by any lists.
pub size_any : (ls : List NameList) (s : List ℕ) (depth n w : ℕ)
    → groups_size (groups_at ls s depth n w) ≡ groups_size (groups_at [] s depth n w)
unfolding groups_at groups_size
size_any ls s zero zero w = refl
size_any ls s (suc depth) zero w = refl
size_any ls s zero (suc n) w = refl
size_any ls s (suc depth) (suc n) w =
    omega (
      arith,
      block_size_lem ls s (w + 2),
      block_size_lem [] s (w + 2),
      size_any ls s depth (many_groups s (w + 2)) (groups_from s (w + 2)),
      size_any ls s (suc depth) n (groups_end s depth (many_groups s (w + 2)) (groups_from s (w + 2))),
    )

pub group_size_lem : (ls : List NameList) (s : List ℕ) (depth w id since : ℕ)
    → groups_size (group_at ls s depth w id since) ≡ group_size s depth w
unfolding groups_size
group_size_lem ls s depth w id since =
    omega (arith, block_size_lem ls s w, size_any ls s depth (many_groups s w) (groups_from s w))

-- By the book's lists, of which the first stands at `from`, its order and its version.
module _ (ls : List NameList) (from : ℕ) (big : Bool) (version : ℕ) where
  -- A row is its first group, alone, and the groups after it.
  row_split : (i since : ℕ) (s : Shape) (inner rest : Groups) (at : ℕ)
      → groups_of ls from big version (more i since s inner rest) at
      ≡ groups_of ls from big version (more i since s inner none) at
      ++ groups_of ls from big version rest (at + groups_size (more i since s inner none))
  unfolding groups_of groups_size
  row_split i since s inner rest at =
      let q : at + (block_size s + groups_size inner + 0) ≡ at + block_size s + groups_size inner = omega arith in
      let b = block_of ls from big version i since s (count inner) (at + block_size s + groups_size inner) at in
      let x = groups_of ls from big version inner (at + block_size s) in
      let y = groups_of ls from big version rest (at + block_size s + groups_size inner) in
      rw q (sym (append_assoc b (x ++ []) y ∙ ap (λ (l : List ℕ). b ++ l) (append_assoc x [] y)))

  -- Of the groups of the block at word w, which is stored from `at` on, the n at word x are left, to be stored from
  -- `to` on in the room d; the room was d₀ before the first.
  pub record Storing (s : List ℕ) (depth w at : ℕ) (d₀ d : List ℕ) (n x to : ℕ) : Type 0 where
    pub row : IsRow s depth n x
    pub end : inner_end s depth w ≡ groups_end s depth n x
    pub size : at + group_size s depth w ≡ to + groups_size (groups_at ls s depth n x)
    pub fits : at + group_size s depth w ≤ length d₀
    pub filling : Filling d₀ (at + size_at s w) (groups_of ls from big version (inner_at ls s depth w) (at + size_at s w)) d
        to (groups_of ls from big version (groups_at ls s depth n x) to)

  pub storing_starts : (s : List ℕ) (depth w at : ℕ) (d : List ℕ) (n x to : ℕ) → BlockAt s depth w
      → at + group_size s depth w ≤ length d → n ≡ many_groups s w → x ≡ groups_from s w
      → to ≡ at + size_at s w → Storing s depth w at d d n x to
  storing_starts s depth w at d n x to block fits en ex et =
      record {
        row = rw (en, ex) block.row;
        end = rw (en, ex) refl;
        size = rw (en, ex) (omega (arith, size_any ls s depth (many_groups s w) (groups_from s w)));
        fits = fits;
        filling = record { whole = rw (en, ex, et) refl; long = refl };
      }

  module _ {s : List ℕ} {depth w at : ℕ} {d₀ d : List ℕ} {n x to : ℕ} (f : Storing s depth w at d₀ d n x to) where
    module _ (o : Opened s depth n x) (id since : ℕ) where
      abbrev first : Groups
      first = group_at ls s (depth - 1) (x + 2) id since

      rest_size : groups_size (groups_at ls s depth n x) ≡ group_size s (depth - 1) (x + 2)
          + groups_size (groups_at ls s depth (n - 1) (inner_end s (depth - 1) (x + 2)))
      unfolding groups_size
      rest_size =
          rw (o.tree ls) (omega (
            arith,
            block_size_lem ls s (x + 2),
            size_any ls s (depth - 1) (many_groups s (x + 2)) (groups_from s (x + 2)),
          ))

      pub first_fits : to + group_size s (depth - 1) (x + 2) ≤ length d
      first_fits = omega (arith, f.size, f.fits, f.filling.long, rest_size)

      pub storing_on : id ≡ word (words_of s) x → since ≡ word (words_of s) (x + 1) → (r : Ends) (d' : List ℕ)
          → r.word ≡ inner_end s (depth - 1) (x + 2) → r.at ≡ to + group_size s (depth - 1) (x + 2)
          → d' ≡ sets d to (groups_of ls from big version first to)
          → Storing s depth w at d₀ d' (n - 1) r.word r.at
      storing_on ei es r d' ew ea stored =
          let whole : groups_of ls from big version (groups_at ls s depth n x) to
          ≡ groups_of ls from big version first to
          ++ groups_of ls from big version (groups_at ls s depth (n - 1) r.word) r.at =
          rw (ew, ea, ← group_size_lem ls s (depth - 1) (x + 2) id since, ei, es, o.tree ls) (row_split _ _ _ _ _ to) in
          record {
            row = rw ew o.rest;
            end = f.end ∙ rw ew o.end;
            size = f.size ∙ rw ew (omega (arith, rest_size));
            fits = f.fits;
            filling = filling_on f.filling (groups_of ls from big version first to) _ d' r.at whole stored
                (omega (
                  arith,
                  length_groups ls from big version first to,
                  group_size_lem ls s (depth - 1) (x + 2) id since,
                ));
          }

    pub end_is : n ≤ 0 → x ≡ inner_end s depth w
    end_is h = sym (f.end ∙ none_left s depth n x h)

    pub next_is : n ≤ 0 → to ≡ at + group_size s depth w
    unfolding groups_size
    next_is h = omega (arith, f.size, ap groups_size (no_groups_lem ls s depth n x h))

    pub groups_stored : n ≤ 0
        → d ≡ sets d₀ (at + size_at s w) (groups_of ls from big version (inner_at ls s depth w) (at + size_at s w))
    unfolding groups_of
    groups_stored h = filling_ends f.filling (rw (no_groups_lem ls s depth n x h) refl)

  -- The block at word w, its elements stored first, then its groups, its head at last.
  module _ (s : List ℕ) (depth w : ℕ) (block : BlockAt s depth w) where
    pub group_stored : (id since need next at : ℕ) (d d₁ d₂ d₃ : List ℕ) → need ≡ need_of version (shape_at ls s w)
        → next ≡ at + group_size s depth w → d₁ ≡ sets d (at + 12) (elements_at ls s w from big)
        → d₂ ≡ sets d₁ (at + size_at s w) (groups_of ls from big version (inner_at ls s depth w) (at + size_at s w))
        → d₃ ≡ sets d₂ at (head_at s w id since need (order_of big) next at)
        → d₃ ≡ sets d at (groups_of ls from big version (group_at ls s depth w id since) at)
    unfolding groups_of
    group_stored id since need next at d d₁ d₂ d₃ en ex p q r =
        let x = at + size_at s w in
        let head = head_at s w id since need (order_of big) next at in
        let elements = elements_at ls s w from big in
        let inner = groups_of ls from big version (inner_at ls s depth w) x in
        let long : at + 12 + length elements ≡ x = omega (arith, elements_long ls s w from big) in
        let own : at + block_size (shape_at ls s w) ≡ x = omega (arith, block_size_lem ls s w) in
        let to : next ≡ at + block_size (shape_at ls s w) + groups_size (inner_at ls s depth w) =
        omega (arith, block_size_lem ls s w, size_any ls s depth (many_groups s w) (groups_from s w)) in
        let counted = count_row ls s depth _ _ block.row in
        let Block-of = block_of ls from big version id since (shape_at ls s w) (many_groups s w) next at in
        let moved : groups_of ls from big version (group_at ls s depth w id since) at ≡ Block-of ++ inner =
        rw (counted, append-nil, to, ← own) refl in
        let whole = moved ∙ ap (λ (l : List ℕ). l ++ inner) (block_is ls s w from big version id since need next at en)
        ∙ append_assoc head elements inner in
        let rest = elements ++ inner in
        rw (whole, sets_append d at head rest, ← sets_past d at head (at + 12) rest (omega arith))
        (rw (sets_append d (at + 12) elements inner, long, ← p, ← q) r)

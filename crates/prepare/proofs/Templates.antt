-- The templates of a book, one at a time: how many numbers they are, and how they are stored.
use Rattle.std.proofs.Common.{◌≡◌, ℕ, zero, suc, ◌+◌, ◌-◌, ◌*◌, ◌%◌, ◌<◌, ◌≤◌, Bool, List, [], ◌∷◌, ◌++◌, length, set, replicate, sym, refl, ap, ◌∙◌, arith, length-set}
use lib.Seq.{length-sets, sets}
use Rattle.octets.proofs.Joined.{set_past, sets_append}
use Rattle.layout.specs.Octets.{words_of}
use Rattle.layout.specs.Lists.{NameList}
use Rattle.layout.specs.Book.{Template}
use Rattle.layout.specs.BookRules.{format_of, head_size, word}
use Rattle.layout.specs.Message.{dimension_size}
use Rattle.number_types.specs.Value.{order_of}
use Rattle.book.specs.Rows.{counted_in}
use Rattle.prepared.specs.Numbers.{bodies_of, contents_from, contents_of, groups_of, groups_size, lists_from, lists_numbers}
use Rattle.prepared.specs.Numbers.{lists_size, prepared_of, row_of, sizes_of, slots, slots_from, slots_of}
use Rattle.prepared.proofs.Prepared.{length_contents, length_groups, length_lists, length_slots}
use Rattle.prepare.specs.Names.{big_in, from_in, lists_in, version_of}
use Rattle.prepare.specs.Templates.{body_at, book_at, laid, template_at, template_size}
use Rattle.prepare.specs.Templates.{templates_at}
use Rattle.prepare.proofs.Filling.{set_again, sets_past}
use Rattle.prepare.proofs.Rows.{group_size_lem}

pub length_templates : (s : List ℕ) (n w : ℕ) → length (templates_at s n w) ≡ n
unfolding templates_at
length_templates s zero w = refl
length_templates s (suc n) w = ap suc (length_templates s n (w + 3))

-- ---- n templates, of which i are passed

-- Those that are left.
abbrev pub templates_from : List ℕ → ℕ → ℕ → List Template
templates_from s n i = templates_at s (n - i) (head_size + 3 * i)

none_from : (s : List ℕ) (n i : ℕ) → n ≤ i → templates_from s n i ≡ []
unfolding templates_at
none_from s n i h = let q : n - i ≡ 0 = omega arith in rw q refl

pub sizes_none : (s : List ℕ) (n i : ℕ) → n ≤ i → sizes_of (templates_from s n i) ≡ 0
unfolding sizes_of
sizes_none s n i h = ap sizes_of (none_from s n i h)

-- The first of them, and the others.
module _ (s : List ℕ) (n i : ℕ) (h : i < n) where
  templates_next : templates_from s n i ≡ template_at s (head_size + 3 * i) ∷ templates_from s n (i + 1)
  unfolding templates_at
  templates_next =
      let q : n - i ≡ suc (n - (i + 1)) = omega arith in
      let r : head_size + 3 * (i + 1) ≡ head_size + 3 * i + 3 = omega arith in rw (q, r) refl

  pub sizes_next : sizes_of (templates_from s n i)
      ≡ template_size s (head_size + 3 * i) + sizes_of (templates_from s n (i + 1))
  unfolding sizes_of
  sizes_next =
      let w = head_size + 3 * i in
      rw (templates_next, group_size_lem (lists_in s) (body_at s w) 4 0 (word (words_of s) w) 0) refl

-- ---- stored

-- The room d with the templates in their slots, the first of them standing at `at`.
unfoldable pub slotted : List Template → ℕ → List ℕ → List ℕ
slotted [] at d = d
slotted (t ∷ ts) at d = slotted ts (at + groups_size (row_of t)) (set d (slots_from + t.id % slots) at)

slotted_past : (ts : List Template) (at : ℕ) (d : List ℕ) (n : ℕ) (xs : List ℕ) → contents_from ≤ n
    → slotted ts at (sets d n xs) ≡ sets (slotted ts at d) n xs
unfolding slotted
slotted_past [] at d n xs h = refl
slotted_past (t ∷ ts) at d n xs h =
    ap (slotted ts (at + groups_size (row_of t))) (set_past d (slots_from + t.id % slots) at n xs (omega arith))
    ∙ slotted_past ts (at + groups_size (row_of t)) (set d (slots_from + t.id % slots) at) n xs h

slotted_is : (ts : List Template) (at : ℕ) (d ss : List ℕ) → length ss ≡ slots
    → slotted ts at (sets d slots_from ss) ≡ sets d slots_from (slots_of ts at ss)
unfolding slotted slots_of
slotted_is [] at d ss h = refl
slotted_is (t ∷ ts) at d ss h =
    ap (slotted ts (at + groups_size (row_of t))) (set_again d slots_from ss (t.id % slots) at (omega arith))
    ∙ slotted_is ts (at + groups_size (row_of t)) d (set ss (t.id % slots) at) (length-set ss (t.id % slots) at ∙ h)

-- By the book's lists, of which the first stands at `from`, its order and its version.
module _ (ls : List NameList) (from : ℕ) (big : Bool) (version : ℕ) where
  -- .. and with their rows of the contents from c on, and their blocks.
  abbrev pub filled : List Template → ℕ → ℕ → List ℕ → List ℕ
  filled ts c at d = sets (sets (slotted ts at d) c (contents_of ts at)) at (bodies_of ls from big version ts at)

  filled_on : (t : Template) (ts : List Template) (c at : ℕ) (d d' : List ℕ) → contents_from ≤ c
      → c + 2 + 2 * length ts ≤ at
      → d' ≡ sets (sets (set d (slots_from + t.id % slots) at) c (t.id ∷ at ∷ [])) at
      (groups_of ls from big version (row_of t) at)
      → filled (t ∷ ts) c at d ≡ filled ts (c + 2) (at + groups_size (row_of t)) d'
  unfolding slotted contents_of bodies_of
  filled_on t ts c at d d' low gap is =
      let to = at + groups_size (row_of t) in
      let row = t.id ∷ at ∷ [] in
      let body = groups_of ls from big version (row_of t) at in
      let rows = contents_of ts to in
      let bodies = bodies_of ls from big version ts to in
      let here = set d (slots_from + t.id % slots) at in
      let e = sets (slotted ts to here) c row in
      let back : slotted ts to d' ≡ sets e at body =
      ap (slotted ts to) is ∙ slotted_past ts to (sets here c row) at body (omega arith)
      ∙ ap (λ (l : List ℕ). sets l at body) (slotted_past ts to here c row low) in
      let over : sets (sets e at body) (c + 2) rows ≡ sets (sets e (c + 2) rows) at body =
      sets_past e (c + 2) rows at body (omega (arith, length_contents ts to)) in
      ap (λ (l : List ℕ). sets l at (body ++ bodies)) (sets_append (slotted ts to here) c row rows)
      ∙ sets_append (sets e (c + 2) rows) at body bodies
      ∙ ap (λ (k : ℕ). sets (sets (sets e (c + 2) rows) at body) (at + k) bodies)
      (length_groups ls from big version (row_of t) at)
      ∙ sym (ap (λ (l : List ℕ). sets (sets l (c + 2) rows) to bodies) back
      ∙ ap (λ (l : List ℕ). sets l to bodies) over)

-- Of n templates the first i are stored in the room d, the blocks of the others from `at` on. The room was d₀ before
-- the first.
pub record Laying (s : List ℕ) (n : ℕ) (d₀ d : List ℕ) (i at : ℕ) : Type 0 where
  pub gap : contents_from + 2 * n ≤ at
  pub fits : at + sizes_of (templates_from s n i) ≤ length d
  pub whole : filled (lists_in s) (from_in s) (big_in s) (version_of s) (templates_at s n head_size) contents_from
      (lists_from n + lists_size (lists_in s)) d₀
      ≡ filled (lists_in s) (from_in s) (big_in s) (version_of s) (templates_from s n i) (contents_from + 2 * i) at d

pub laying_on : {s : List ℕ} {n : ℕ} {d₀ d : List ℕ} {i at : ℕ} → Laying s n d₀ d i at → i < n → (to : ℕ) (d' : List ℕ) → to ≡ at + template_size s (head_size + 3 * i)
    → d' ≡ laid s (template_at s (head_size + 3 * i)) (contents_from + 2 * i) at d
    → Laying s n d₀ d' (i + 1) to
laying_on {s} {n} {i = i} {at = at} f h to d' et stored =
    let w = head_size + 3 * i in
    let rest = templates_from s n (i + 1) in
    let long = simp (length-sets, length-set) at (ap length stored) in
    let c : contents_from + 2 * (i + 1) ≡ contents_from + 2 * i + 2 = omega arith in
    record {
      gap = omega (arith, f.gap);
      fits = omega (arith, f.fits, sizes_next s n i h, long);
      whole = f.whole
          ∙ rw (templates_next s n i h, et, c, ← group_size_lem (lists_in s) (body_at s w) 4 0 (word (words_of s) w) 0)
          (filled_on _ _ _ _ (template_at s w) rest (contents_from + 2 * i) at _ d' (omega arith)
          (omega (arith, f.gap, length_templates s (n - (i + 1)) (head_size + 3 * (i + 1)))) stored);
    }

-- n templates, and none is left.
pub all_laid : {s : List ℕ} {n : ℕ} {d₀ d : List ℕ} {i at : ℕ} → Laying s n d₀ d i at → n ≤ i
    → (schema version count order counts : ℕ) (e : List ℕ) → n ≡ word (words_of s) 2 → schema ≡ word (words_of s) 0
    → version ≡ word (words_of s) 1 → count ≡ length (lists_in s) → order ≡ order_of (big_in s)
    → counts ≡ dimension_size (counted_in s)
    → d₀ ≡ sets (sets (sets e 0 (schema ∷ version ∷ n ∷ count ∷ order ∷ counts ∷ [])) slots_from (replicate slots 0))
    (lists_from n) (lists_numbers (lists_in s))
    → d ≡ sets e 0 (prepared_of (book_at s))
unfolding prepared_of slotted contents_of bodies_of
all_laid {s} {n} {d₀} {d} {i} f h schema version count order counts e en es ev ek eo ec start =
    let v = version_of s in
    let big = big_in s in
    let ls = lists_in s in
    let ts = templates_at s n head_size in
    let from = lists_from n in
    let at = from + lists_size ls in
    let head = word (words_of s) 0 ∷ v ∷ n ∷ length ls ∷ order_of big ∷ dimension_size (counted_in s) ∷ [] in
    let ss = slots_of ts at (replicate slots 0) in
    let rows = contents_of ts at in
    let lists = lists_numbers ls in
    let blocks = bodies_of ls from big v ts at in
    let k : slots_from + length ss ≡ contents_from = omega (arith, length_slots ts at (replicate slots 0)) in
    let j : contents_from + length rows ≡ from = omega (arith, length_contents ts at, length_templates s n head_size) in
    let l : from + length lists ≡ at = omega (arith, length_lists ls) in
    let zeros = sets (sets e 0 head) slots_from (replicate slots 0) in
    let placed : sets (slotted ts at (sets zeros from lists)) contents_from rows
    ≡ sets (sets (sets (sets e 0 head) slots_from ss) contents_from rows) from lists =
    ap (λ (x : List ℕ). sets x contents_from rows) (slotted_past ts at zeros from lists (omega arith)
    ∙ ap (λ (x : List ℕ). sets x from lists) (slotted_is ts at (sets e 0 head) (replicate slots 0) refl))
    ∙ sets_past (sets (sets e 0 head) slots_from ss) contents_from rows from lists (omega arith) in
    let whole : prepared_of (book_at s) ≡ head ++ (ss ++ (rows ++ (lists ++ blocks))) =
    ap (λ (x : ℕ). prepared_of (record {
      schema = word (words_of s) 0;
      version = v;
      format = format_of (words_of s);
      lists = ls;
      templates = templates_at s x head_size;
    })) (sym en) ∙ rw (length_templates s n head_size) refl in
    let end : filled ls from big v ts contents_from at d₀ ≡ d =
    ap (λ (x : ℕ). filled ls (lists_from x) big v ts contents_from at d₀) en ∙ f.whole
    ∙ rw (none_from s n i h) refl in
    let stored = sets (sets (sets (sets e 0 head) slots_from ss) contents_from rows) from lists in
    let placed-all : filled ls from big v ts contents_from at d₀ ≡ sets stored at blocks =
    rw (start, es, ev, ek, eo, ec) (ap (λ (x : List ℕ). sets x at blocks) placed) in
    sym end ∙ placed-all ∙ sym (rw (
      whole,
      sets_append e 0 head (ss ++ (rows ++ (lists ++ blocks))),
      sets_append (sets e 0 head) slots_from ss (rows ++ (lists ++ blocks)),
      k,
      sets_append (sets (sets e 0 head) slots_from ss) contents_from rows (lists ++ blocks),
      j,
      sets_append (sets (sets (sets e 0 head) slots_from ss) contents_from rows) from lists blocks,
      l,
    ) refl)

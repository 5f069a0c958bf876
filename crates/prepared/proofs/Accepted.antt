-- An accepted book fits: its counts and names are those of the parse, its rules were tested, and each part of it has at
-- most two prepared numbers for each of its words.
use mathlib.Core.Path.{◌∙◌, ◌≡◌, ap, refl, subst}
use mathlib.Core.Bool.{Bool, true}
use mathlib.Core.List.{List, [], ◌∷◌, map}
use Prim.Native.Nat.{ℕ, zero, suc, ◌+◌, ◌*◌, ◌≤◌}
use native.Mathlib.Nat.{le_refl}
use native.Mathlib.Omega.{arith}
use lib.ListN.{drop, length, length-drop, length-take, take}
use borrow.Author.Tests.{eqb-true, le-leb, leb-true, ltb-true}
use Rattle.layout.specs.Result.{Each, ◌and◌, done}
use Rattle.layout.specs.Octets.{words_of}
use Rattle.layout.specs.Lists.{NameList}
use Rattle.layout.specs.Book.{Book, Groups, Shape, Template, group_sinces, more, none}
use Rattle.layout.specs.BookRules.{ContentsRow, book_of, check_contents, contents_end, contents_size, fields_since, format_of}
use Rattle.layout.specs.BookRules.{groups_good, groups_since, head_size, layout_good, lists_of, name_list_of, parse_bodies}
use Rattle.layout.specs.BookRules.{parse_body, parse_contents, parse_fields, parse_groups, parse_shape, rising, shape_good}
use Rattle.layout.specs.BookRules.{shape_since, since_good, tree_of, word, youngest}
use Rattle.layout.specs.declared.Reason.TheVariants.{BookBlock}
use Rattle.layout.proofs.Accepted.{KeepsRules, datas_length_lem, each_good, keeps_rules}
use Rattle.layout.proofs.Results.{and_left, and_right, done_inj, either, inv_bind, inv_both, inv_must, inv_refusal}
use Rattle.book.proofs.Words.{length_words}
use Rattle.prepared.specs.Numbers.{block_size, count, groups_size, lists_size, sizes_of}
use Rattle.prepared.specs.Fits.{FitTemplates, Fits, FitsBook, FitsShape, IsNamed}
use Rattle.prepared.proofs.Prepared.{length_numbers, rising_up}

-- ---- rule 6

rising_on : (high low s : ℕ) (ss : List ℕ) → low ≤ s → s ≤ high → rising high s ss ≡ true
    → rising high low (s ∷ ss) ≡ true
unfolding rising ◌and◌
rising_on high low s ss l h g = rw (le-leb low s l, le-leb s high h) g

fields_rise : (version low high : ℕ) (ss : List ℕ) → high ≤ version → fields_since version low high ss ≡ true
    → rising version 0 ss ≡ true
unfolding fields_since rising
fields_rise version low high [] h g = refl
fields_rise version low high (s ∷ ss) h g =
    let r = and_right _ _ g in
    rising_on version 0 s ss (omega arith) (omega (arith, leb-true s high (and_left _ _ r))) (and_right _ _ r)

-- ---- a block

pub fields_length : (ls : List NameList) (b : List ℕ) (n w : ℕ) → length (parse_fields ls b n w) ≡ n
unfolding parse_fields
fields_length ls b zero w = refl
fields_length ls b (suc n) w = ap suc (fields_length ls b n (w + 7))

-- Names are found while a field is parsed.
fields_named : (ls : List NameList) (b : List ℕ) (n w : ℕ) → Each (IsNamed ls) (parse_fields ls b n w)
unfolding parse_fields Each
fields_named ls b zero w = tt
fields_named ls b (suc n) w = (refl, fields_named ls b n (w + 7))

-- The shape that was parsed at word w, its number of groups, and the word after it: its counts, its names, and how many
-- numbers it is against how many words.
record Few (ls : List NameList) (w : ℕ) (r : Shape × ℕ × ℕ) : Type 0 where
  fields : length r.0.fields ≤ 64
  named : Each (IsNamed ls) r.0.fields
  datas : length r.0.datas ≤ 16
  groups : r.1 ≤ 16
  size : 2 * w + block_size r.0 ≤ 2 * r.2 + 4

shape_few : (ls : List NameList) (b : List ℕ) (few w : ℕ) (r : Shape × ℕ × ℕ) → parse_shape ls b few w ≡ done r
    → Few ls w r
unfolding parse_shape
shape_few ls b few w r e =
    let p = inv_bind _ _ _ (inv_bind _ _ _ e).next in
    let h₁ = and_right _ _ (inv_must _ _ _ _ p.first) in
    let h = and_right _ _ h₁ in
    let f = word b (w + 1) in
    let d = word b (w + 3) in
    let fs = fields_length ls b f (w + 4) in
    let ds = datas_length_lem b d (w + 4 + 7 * f) in
    subst (Few ls w) (done_inj (inv_bind _ _ _ p.next).next)
    (record {
      fields = omega (arith, leb-true f 64 (and_left _ _ h₁));
      named = fields_named ls b f (w + 4);
      datas = omega (arith, leb-true d 16 (and_right _ _ h));
      groups = leb-true _ 16 (and_left _ _ h);
      size = omega arith;
    })

fits_shape : (ls : List NameList) (version low high top w : ℕ) (r : Shape × ℕ × ℕ) (inner : Groups) → high ≤ version
    → top ≤ version → Few ls w r → count inner ≡ r.1 → shape_good r.0 ≡ true
    → shape_since version low high top r.0 ≡ true → FitsShape ls version r.0 inner
fits_shape ls version low high top w r inner h t few c l g =
    record {
      few_fields = few.fields;
      few_groups = omega (arith, few.groups);
      few_datas = few.datas;
      named = few.named;
      good = l;
      sinces = fields_rise version low high _ h (and_left _ _ g);
      data_since = rising_up version top low _ t (and_right _ _ g);
    }

-- ---- groups

-- The n groups that were parsed at word w, and the word after them.
record AreFit (ls : List NameList) (version depth n w : ℕ) (r : Groups × ℕ) : Type 0 where
  fits : Fits ls version depth r.0
  counted : count r.0 ≡ n
  size : 2 * w + groups_size r.0 ≤ 2 * r.1

none_fit : (ls : List NameList) (version depth w : ℕ) → AreFit ls version depth 0 w (none, w)
unfolding Fits group_sinces groups_size
none_fit ls version zero w = record { fits = tt; counted = refl; size = omega arith }
none_fit ls version (suc depth) w = record { fits = tt; counted = refl; size = omega arith }

groups_fit : (ls : List NameList) (b : List ℕ) (in_groups : Bool) (version low high : ℕ) → high ≤ version
    → (depth n w : ℕ) (r : Groups × ℕ) → parse_groups ls b depth n w ≡ done r → groups_good r.0 ≡ true
    → groups_since in_groups version low high r.0 ≡ true → AreFit ls version depth n w r
unfolding parse_groups group_sinces groups_good groups_since youngest Fits groups_size
groups_fit ls b in_groups version low high h zero zero w r e = λ l g.
    subst (AreFit ls version 0 0 w) (done_inj e) (none_fit ls version 0 w)
groups_fit ls b in_groups version low high h (suc depth) zero w r e = λ l g.
    subst (AreFit ls version (suc depth) 0 w) (done_inj e) (none_fit ls version (suc depth) w)
groups_fit ls b in_groups version low high h zero (suc n) w r e = λ l g.
    absurd (let z : ◌≡◌ {A = ℕ} 0 1 = cc in omega arith)
groups_fit ls b in_groups version low high h (suc depth) (suc n) w r e =
    let p = inv_bind _ _ _ e in
    let q = inv_bind _ _ _ p.next in
    let k = inv_bind _ _ _ q.next in
    let few = shape_few ls b 1 (w + 2) p.value p.first in
    subst (λ (x : Groups × ℕ). groups_good x.0 ≡ true → groups_since in_groups version low high x.0 ≡ true
    → AreFit ls version (suc depth) (suc n) w x) (done_inj k.next)
    (λ l g.
    let since = word b (w + 1) in
    let l₁ = and_right _ _ l in
    let g₁ = and_right _ _ g in
    let g₂ = and_right _ _ g₁ in
    let g₃ = and_right _ _ g₂ in
    let u : since ≤ version = omega (arith, leb-true since high (and_left _ _ g₁)) in
    let y : youngest in_groups version since ≤ version =
    either (λ (x : ℕ). x ≤ version) in_groups version since (le_refl version) u in
    let inner = groups_fit ls b in_groups version since _ y depth p.value.1 p.value.2 q.value q.first
    (and_left _ _ l₁) (and_left _ _ g₃) in
    let rest = groups_fit ls b in_groups version since high h (suc depth) n q.value.1 k.value k.first
    (and_right _ _ l₁) (and_right _ _ g₃) in
    record {
      fits = (
        u,
        fits_shape ls version since since _ (w + 2) p.value q.value.0 u y few inner.counted (and_left _ _ l)
            (and_left _ _ g₂),
        inner.fits,
        rest.fits,
      );
      counted = ap suc rest.counted;
      size = omega (arith, few.size, inner.size, rest.size);
    })

-- A body fits as a row of one group.
record BodyFits (ls : List NameList) (b : List ℕ) (version id : ℕ) (r : Shape × Groups) : Type 0 where
  fits : Fits ls version 5 (more id 0 r.0 r.1 none)
  size : groups_size (more id 0 r.0 r.1 none) ≤ 2 * length b + 4

body_fits : (ls : List NameList) (b : List ℕ) (in_groups : Bool) (version id : ℕ) (r : Shape × Groups)
    → parse_body ls b ≡ done r → layout_good (record { id = id; shape = r.0; groups = r.1 }) ≡ true
    → since_good in_groups version (record { id = id; shape = r.0; groups = r.1 }) ≡ true → BodyFits ls b version id r
unfolding parse_body Fits groups_size
body_fits ls b in_groups version id r e =
    let p = inv_bind _ _ _ e in
    let q = inv_bind _ _ _ p.next in
    let k = inv_bind _ _ _ q.next in
    let few = shape_few ls b 0 0 p.value p.first in
    let all = eqb-true q.value.1 (length b) (inv_must _ _ _ _ k.first) in
    subst (λ (x : Shape × Groups). layout_good (record { id = id; shape = x.0; groups = x.1 }) ≡ true
    → since_good in_groups version (record { id = id; shape = x.0; groups = x.1 }) ≡ true → BodyFits ls b version id x)
    (done_inj k.next)
    (λ l g.
    let v = le_refl version in
    let inner = groups_fit ls b in_groups version 0 version v 4 p.value.1 p.value.2 q.value q.first
    (and_right _ _ l) (and_right _ _ g) in
    record {
      fits = (
        omega arith,
        fits_shape ls version 0 version version 0 p.value q.value.0 v v few inner.counted (and_left _ _ l)
            (and_left _ _ g),
        inner.fits,
        tt,
      );
      size = omega (arith, few.size, inner.size, all);
    })

-- ---- the book

short_take : (n : ℕ) (xs : List ℕ) → length (take n xs) ≤ n
short_take n xs = rw length-take (omega arith)

-- The templates of rows whose bodies lie from word `at` to word `to`.
record TemplatesFit (ls : List NameList) (version low at to : ℕ) (rows : List ContentsRow) (ts : List Template)
    : Type 0 where
  fits : FitTemplates ls version low ts
  counted : length ts ≡ length rows
  size : 2 * at + sizes_of ts ≤ 2 * to + 4 * length ts

bodies_fit : (ls : List NameList) (b : List ℕ) (in_groups : Bool) (version to low at n : ℕ) (rows : List ContentsRow)
    (ts : List Template) → contents_end low at rows ≡ done to → parse_bodies ls b n rows ≡ done ts
    → Each (λ t. layout_good t ≡ true) ts → Each (λ t. since_good in_groups version t ≡ true) ts
    → TemplatesFit ls version low at to rows ts
unfolding contents_end parse_bodies Each FitTemplates sizes_of
bodies_fit ls b in_groups version to low at n [] ts c e = λ l g.
    subst (TemplatesFit ls version low at to []) (done_inj e)
    (record { fits = tt; counted = refl; size = omega (arith, done_inj c) })
bodies_fit ls b in_groups version to low at n (r ∷ rs) ts c e =
    let p = inv_bind _ _ _ e in
    let q = inv_bind _ _ _ p.next in
    let row = inv_bind _ _ _ c in
    let good = inv_must _ _ _ _ row.first in
    subst (λ (xs : List Template). Each (λ t. layout_good t ≡ true) xs
    → Each (λ t. since_good in_groups version t ≡ true) xs → TemplatesFit ls version low at to (r ∷ rs) xs)
    (done_inj q.next)
    (λ l g.
    let body = body_fits ls _ in_groups version r.id p.value (inv_refusal _ _ _ _ p.first) l.0 g.0 in
    let rest = bodies_fit ls b in_groups version to (suc r.id) (at + r.words) (suc n) rs q.value row.next
    q.first l.1 g.1 in
    record {
      fits = (
        leb-true _ _ (and_left _ _ good),
        ltb-true _ _ (and_left _ _ (and_right _ _ good)),
        body.fits,
        rest.fits,
      );
      counted = ap suc rest.counted;
      size = omega (arith, body.size, short_take r.words (drop r.first b), rest.size);
    })

-- The lists of rows whose bodies lie from word `at` to word `to`.
lists_fit : (b : List ℕ) (to low at : ℕ) (rows : List ContentsRow) → contents_end low at rows ≡ done to
    → 2 * at + lists_size (map (name_list_of b) rows) ≤ 2 * to + 6 * length rows
unfolding contents_end lists_size
lists_fit b to low at [] c = omega (arith, done_inj c)
lists_fit b to low at (r ∷ rs) c =
    let body = take r.words (drop r.first b) in
    omega (
      arith,
      length-drop 1 body,
      short_take r.words (drop r.first b),
      lists_fit b to (suc r.id) (at + r.words) rs (inv_bind _ _ _ c).next,
    )

contents_length : (b : List ℕ) (n w : ℕ) → length (parse_contents b n w) ≡ n
unfolding parse_contents
contents_length b zero w = refl
contents_length b (suc n) w = ap suc (contents_length b n (w + 3))

pub accepted_fits : (octets : List ℕ) (b : Book) → book_of octets ≡ done b → FitsBook b
unfolding tree_of check_contents
accepted_fits octets b e =
    let rules = keeps_rules octets b e in
    let p₁ = inv_bind _ _ _ rules.tree in
    let p₂ = inv_bind _ _ _ p₁.next in
    let p₃ = inv_bind _ _ _ p₂.next in
    let p₄ = inv_both _ _ _ _ p₃.next in
    let ws = words_of octets in
    let n = word ws 2 in
    let version = word ws 1 in
    let ls = lists_of ws in
    let ts = p₄.value in
    let few = leb-true (length octets) 8192 (and_right _ _ (and_right _ _ (inv_must _ _ _ _ p₁.first))) in
    let h = and_right _ _ (inv_must _ _ _ _ p₂.first) in
    let h₁ = and_right _ _ h in
    let h₃ = and_right _ _ (and_right _ _ h₁) in
    let rows = inv_bind _ _ _ p₃.first in
    let last = inv_bind _ _ _ rows.next in
    subst (λ (x : Book). KeepsRules octets x → FitsBook x) p₄.is
    (λ r.
    let fit = bodies_fit ls ws _ version rows.value 0 (head_size + contents_size ws) 0 _ ts rows.first p₄.first
    r.layout r.since in
    let counted : length ts ≡ n = fit.counted ∙ contents_length ws n head_size in
    record {
      schema = ltb-true _ _ (and_left _ _ h);
      version = ltb-true _ _ (and_left _ _ h₁);
      few = omega (arith, leb-true n 64 (and_left _ _ h₃));
      lists = each_good _ BookBlock _ ls p₄.other p₄.second;
      templates = fit.fits;
      short = omega (
        arith,
        length_numbers
            (record { schema = word ws 0; version = version; format = format_of ws; lists = ls; templates = ts }),
        fit.size,
        lists_fit ws last.value 0 rows.value _ last.first,
        contents_length ws (word ws 4) (head_size + 3 * n),
        eqb-true last.value (length ws) (inv_must _ _ _ _ last.next),
        length_words octets,
      );
    }) rules

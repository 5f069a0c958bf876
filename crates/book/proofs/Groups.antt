-- A row of groups, as the code's tests and calls find it.
use mathlib.Core.Path.{◌≡◌, refl}
use mathlib.Core.Bool.{Bool, true}
use mathlib.Core.List.{List}
use Prim.Native.Nat.{◌+◌, ◌-◌, ◌<◌, ◌≤◌, suc, zero, ℕ}
use native.Mathlib.Omega.{arith}
use lib.Dec.{leb}
use lib.ListN.{length}
use Rattle.std.specs.Prelude.{None, Option, Some}
use Rattle.layout.specs.Result.{Result, ◌>>=◌, ◌and◌, done, refused}
use Rattle.layout.specs.Lists.{NameList}
use Rattle.layout.specs.Book.{Groups, Shape, more}
use Rattle.layout.specs.BookRules.{groups_good, groups_since, parse_groups, parse_shape, shape_good, shape_since, word}
use Rattle.layout.specs.BookRules.{youngest}
use Rattle.layout.proofs.Results.{and_assoc}
use Rattle.book.specs.Answers.{all_rules, block_of, group_rules, groups_rules, row_of, rules_are, shape_rules}
use Rattle.book.specs.declared.Block.{Block}
use Rattle.book.specs.declared.Row.{Row}
use Rattle.book.specs.declared.Rules.{Rules}
use Rattle.book.proofs.Blocks.{block_short}
use Rattle.book.proofs.Tests.{◌>>>◌}
use Rattle.book.proofs.Rows.{known}
use Rattle.book.proofs.RuleLaws.{and_true, rules_assoc, rules_start}

-- A row after others that have these rules.
unfoldable pub after : Rules → Option Row → Option Row
after r None = None
after r (Some x) = Some (record { next = x.next; rules = all_rules r x.rules })

pub after_none : (r : Rules) → after r None ≡ None
unfolding after
after_none r = refl

pub after_start : (x : Option Row) → after (rules_are true true) x ≡ x
unfolding after
after_start None = refl
after_start (Some x) = rw (rules_start x.rules) refl

pub after_twice : (a b : Rules) (x : Option Row) → after a (after b x) ≡ after (all_rules a b) x
unfolding after
after_twice a b None = refl
after_twice a b (Some x) = rw (rules_assoc a b x.rules) refl

pub after_end : (r : Rules) (w : ℕ) → after r (Some (record { next = w; rules = rules_are true true }))
    ≡ Some (record { next = w; rules = r })
unfolding after all_rules
after_end r w = rw (and_true r.layout, and_true r.since) refl

-- ---- one group more

module _ (counted : Bool) (version low high id since : ℕ) (s : Shape) (i : Groups) where
  -- The rules of a group.
  abbrev rules_here : Rules
  rules_here =
      let top = youngest counted version since in
      group_rules low since high (shape_rules version since since top s) (groups_rules counted version since top i)

  -- They stand before those of the groups after it.
  group_rules_lem : (rest : Groups)
      → groups_rules counted version low high (more id since s i rest)
      ≡ all_rules rules_here (groups_rules counted version since high rest)
  unfolding groups_good groups_since all_rules
  group_rules_lem rest =
      rw (
        and_assoc true,
        and_assoc (shape_good s),
        and_assoc (leb low since and leb since high),
        and_assoc (leb low since),
        and_assoc (shape_since version since since (youngest counted version since) s),
      ) (unfold ◌and◌ in refl)

  row_joined : (r : Result (Groups × ℕ))
      → row_of counted version low high (r >>= λ r. done (more id since s i r.0, r.1))
      ≡ after rules_here (row_of counted version since high r)
  unfolding row_of after ◌>>=◌
  row_joined (done r) = rw (group_rules_lem r.0) refl
  row_joined (refused n p) = refl

groups_step : (ls : List NameList) (b : List ℕ) (depth n w : ℕ) → 0 < depth
    → parse_groups ls b depth (suc n) w ≡ (parse_shape ls b 1 (w + 2)
    >>= λ s. parse_groups ls b (depth - 1) s.1 s.2 >>= λ i. parse_groups ls b depth n i.1
    >>= λ r. done (more (word b w) (word b (w + 1)) s.0 i.0 r.0, r.1))
unfolding parse_groups
groups_step ls b zero n w deep = absurd (omega arith)
groups_step ls b (suc depth) n w deep = let p : suc depth - 1 ≡ depth = omega arith in rw p refl

-- The row of n groups from word w on, i of them being passed.
module _ (ls : List NameList) (b : List ℕ) (depth n i w : ℕ) (counted : Bool) (version low high : ℕ) where
  abbrev row : Option Row
  row = row_of counted version low high (parse_groups ls b depth (n - i) w)

  pub row_end : n ≤ i → row ≡ Some (record { next = w; rules = rules_are true true })
  unfolding parse_groups row_of groups_good groups_since
  row_end h = let q : n - i ≡ 0 = omega arith in rw q (none_left depth)
    where
      none_left : (depth : ℕ) → row_of counted version low high (parse_groups ls b depth 0 w)
          ≡ Some (record { next = w; rules = rules_are true true })
      none_left zero = refl
      none_left (suc depth) = refl

  module _ (some_left : i < n) where
    pub row_deep : depth ≡ 0 → row ≡ None
    unfolding parse_groups row_of
    row_deep e = let q : n - i ≡ suc (n - (i + 1)) = omega arith in rw (e, q) refl

    module _ (deep : 0 < depth) where
      abbrev since : ℕ
      since = word b (w + 1)

      abbrev top : ℕ
      top = youngest counted version since

      abbrev block : Option Block
      block = block_of version since since top (parse_shape ls b 1 (w + 2))

      abbrev inside : Block → Option Row
      inside x = row_of counted version since top (parse_groups ls b (depth - 1) x.groups x.next)

      -- What the row comes to by the group's block, and by the row inside it.
      abbrev by_inner : Block → Row → Option Row
      by_inner x inner =
          after (group_rules low since high x.rules inner.rules)
          (row_of counted version since high (parse_groups ls b depth (n - (i + 1)) inner.next))

      pub row_step : row ≡ (block >>> λ x. inside x >>> by_inner x)
      unfolding row_of block_of ◌>>=◌ ◌>>>◌
      row_step =
          let q : n - i ≡ suc (n - (i + 1)) = omega arith in
          rw (q, groups_step ls b depth (n - (i + 1)) w deep) (from_block (parse_shape ls b 1 (w + 2)))
        where
          rest : Shape → Groups → ℕ → Result (Groups × ℕ)
          rest s inner y =
              parse_groups ls b depth (n - (i + 1)) y >>= λ r. done (more (word b w) since s inner r.0, r.1)

          from_inner : (r : Shape × ℕ × ℕ) (x : Result (Groups × ℕ))
              → row_of counted version low high (x >>= λ i. rest r.0 i.0 i.1)
              ≡ (row_of counted version since top x
              >>> by_inner (record { groups = r.1; next = r.2; rules = shape_rules version since since top r.0 }))
          from_inner r (done g) =
              row_joined counted version low high (word b w) since r.0 g.0 (parse_groups ls b depth (n - (i + 1)) g.1)
          from_inner r (refused n p) = refl

          from_block : (x : Result (Shape × ℕ × ℕ))
              → row_of counted version low high
              (x >>= λ s. parse_groups ls b (depth - 1) s.1 s.2 >>= λ i. rest s.0 i.0 i.1)
              ≡ (block_of version since since top x >>> λ x. inside x >>> by_inner x)
          from_block (done r) = from_inner r (parse_groups ls b (depth - 1) r.1 r.2)
          from_block (refused n p) = refl

      pub row_short : length b < w + 2 → row ≡ None
      unfolding ◌>>>◌
      row_short h = rw (row_step, block_short ls b 1 (w + 2) version since since top (omega arith)) refl

pub ruleset row_laws = (known, after_none, after_start, after_twice, after_end, row_end, row_deep, row_short, row_step)

-- What a pass over prepared numbers cites instead of a check.
use mathlib.Core.Path.{◌≡◌, refl}
use mathlib.Core.Bool.{Bool, false, true}
use mathlib.Core.List.{List, []}
use Prim.Native.Nat.{ℕ, zero, suc, ◌+◌, ◌-◌, ◌*◌, ◌^◌, ◌≤◌, ◌<◌}
use native.Mathlib.Omega.{arith}
use lib.ListN.{length}
use borrow.Author.Tests.{le-leb}
use Rattle.layout.specs.Result.{when◌then◌else◌}
use Rattle.layout.specs.Book.{group_sinces, none, present}
use Rattle.layout.specs.BookRules.{parse_datas, word}
use Rattle.number_types.specs.Value.{order_of}
use Rattle.prepared.specs.Numbers.{own_counts}
use Rattle.prepared.specs.Positions.{IsBlock, IsField, IsRow, Opened, fields_from, groups_at, is_big, many_datas}
use Rattle.prepared.specs.Positions.{many_fields, many_groups, next_from, table_from, version_at}
use Rattle.layout.proofs.Results.{none_left}

-- Where a block stands, the numbers before the slots do.
pub head_there : {p : List ℕ} {a : ℕ} → IsBlock p a → 5 < length p
head_there b = omega (arith, b.fields_fit)

-- The counts of a block are 0 only if nothing follows it.
counts_bound : (big : Bool) (g d : ℕ) → g ≤ 16 → d ≤ 16
    → (g + d ≤ own_counts (order_of big) g d) × (own_counts (order_of big) g d < 2 ^ 32)
unfolding when◌then◌else◌
counts_bound false g d h k = (omega arith, omega arith)
counts_bound true g d h k = (omega arith, omega arith)

pub some_follow : {p : List ℕ} {a : ℕ} → IsBlock p a
    → (many_groups p a + many_datas p a ≤ word p (a + 7)) × (word p (a + 7) < 2 ^ 32)
some_follow {p} b = rw b.counts (counts_bound (is_big p) _ _ b.few_groups b.few_datas)

-- No groups are no tree.
pub no_groups_at : (p : List ℕ) (depth n a : ℕ) → n ≤ 0 → groups_at p depth n a ≡ none
unfolding groups_at
no_groups_at p zero zero a h = refl
no_groups_at p (suc depth) zero a h = refl
no_groups_at p depth (suc n) a h = absurd (omega arith)

pub no_datas_at : (p : List ℕ) (n a : ℕ) → n ≤ 0 → parse_datas p n a ≡ []
unfolding parse_datas
no_datas_at p n a h = rw (none_left h) refl

-- The first of the groups that are left.
pub open_row : (p : List ℕ) (depth n a : ℕ) → 0 < n → IsRow p depth n a → Opened p depth n a
unfolding IsRow groups_at
open_row p depth zero a h row = absurd (omega arith)
open_row p zero (suc n) a h row = absurd row
open_row p (suc depth) (suc n) a h row =
    let d : suc depth - 1 ≡ depth = omega arith in
    let k : suc n - 1 ≡ n = omega arith in
    record {
      deep = omega arith;
      first = record { block = row.0; row = rw d row.1 };
      rest = rw k row.2;
      tree = rw (d, k) refl;
    }

-- A row of n groups is a tree of so many.
pub length_row : (p : List ℕ) (depth n a : ℕ) → IsRow p depth n a → length (group_sinces (groups_at p depth n a)) ≡ n
unfolding IsRow groups_at group_sinces
length_row p zero zero a row = refl
length_row p (suc depth) zero a row = refl
length_row p zero (suc n) a row = absurd row
length_row p (suc depth) (suc n) a row = rw (length_row p (suc depth) n _ row.2) refl

-- At the book's version and later all groups are present.
pub groups_here : (p : List ℕ) (v depth n a : ℕ) → version_at p ≤ v → IsRow p depth n a
    → present v (group_sinces (groups_at p depth n a)) ≡ n
unfolding IsRow groups_at group_sinces present when◌then◌else◌
groups_here p v zero zero a h row = refl
groups_here p v (suc depth) zero a h row = refl
groups_here p v zero (suc n) a h row = absurd row
groups_here p v (suc depth) (suc n) a h row =
    rw (le-leb (word p (a + 1)) v (omega (arith, row.0.since)))
    (omega (arith, groups_here p v (suc depth) n (next_from p a) h row.2))

-- The first of the fields of a block that are left, which stand at f and whose table is at t.
pub field_here : (p : List ℕ) (a left f t : ℕ) → IsBlock p a → 0 < left → left ≤ many_fields p a
    → f + 7 * left ≡ fields_from p a + 7 * many_fields p a → t + 6 * left ≡ table_from p a + 6 * many_fields p a
    → IsField p f t
field_here p a left f t b some few at table =
    let j = many_fields p a - left in
    let x : fields_from p a + 7 * j ≡ f = omega arith in
    let y : table_from p a + 6 * j ≡ t = omega arith in
    record {
      fits = omega (arith, b.fields_fit);
      table_fits = omega (arith, b.table_fits);
      derived = rw (x, y) at (b.derived j (omega arith));
    }

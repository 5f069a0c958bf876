-- How many elements of a block are present.
use mathlib.Core.Path.{◌≡◌, ap, refl}
use mathlib.Core.List.{List}
use Prim.Native.Nat.{ℕ, zero, suc, ◌+◌, ◌*◌, ◌-◌, ◌<◌, ◌≤◌}
use native.Mathlib.Omega.{arith}
use lib.Dec.{leb}
use lib.ListN.{length}
use Rattle.std.specs.Prelude.{Some}
use Rattle.layout.specs.Result.{when◌then◌else◌}
use Rattle.layout.specs.Book.{data_sinces, group_sinces, present}
use Rattle.layout.specs.BookRules.{parse_datas, word}
use Rattle.layout.specs.Message.{count_good}
use Rattle.prepared.specs.Positions.{Opened, groups_at, next_from}
use Rattle.prepared.proofs.Open.{groups_here, length_row, no_datas_at, no_groups_at}
use Rattle.counts.specs.Counts.{left_over}
use Rattle.wire.proofs.Steps.{steps}

-- ---- of n elements in a row, i being seen

pub data_seen : (p : List ℕ) (v n from i : ℕ) → i < n → present v (data_sinces (parse_datas p (n - i) (from + 2 * i)))
    ≡ (when leb (word p (from + 2 * i + 1)) v then 1 else 0)
    + present v (data_sinces (parse_datas p (n - (i + 1)) (from + 2 * (i + 1))))
unfolding parse_datas present
data_seen p v n from i h =
    let some : n - i ≡ suc (n - (i + 1)) = omega arith in
    let next : from + 2 * (i + 1) ≡ from + 2 * i + 2 = omega arith in
    rw (some, next) refl

pub datas_seen : (p : List ℕ) (v n d : ℕ) → n ≤ 0 → present v (data_sinces (parse_datas p n d)) ≡ 0
unfolding present
datas_seen p v n d h = rw (no_datas_at p n d h) refl

pub group_seen : {p : List ℕ} {depth n a : ℕ} (v : ℕ) → Opened p depth n a
    → present v (group_sinces (groups_at p depth n a))
    ≡ (when leb (word p (a + 1)) v then 1 else 0) + present v (group_sinces (groups_at p depth (n - 1) (next_from p a)))
unfolding group_sinces present
group_seen v o = rw o.tree refl

pub groups_seen : (p : List ℕ) (v depth n a : ℕ) → n ≤ 0 → present v (group_sinces (groups_at p depth n a)) ≡ 0
unfolding group_sinces present
groups_seen p v depth n a h = rw (no_groups_at p depth n a h) refl

pub length_datas : (p : List ℕ) (n d : ℕ) → length (data_sinces (parse_datas p n d)) ≡ n
unfolding parse_datas
length_datas p zero d = refl
length_datas p (suc n) d = ap suc (length_datas p n (d + 2))

-- ---- what is counted

pub over_none : (version v n : ℕ) (ss : List ℕ) → v ≤ version → n ≡ present v ss → Some 0 ≡ left_over version v ss n
unfolding left_over count_good
over_none version v n ss h e = grind (arith, steps)

pub ruleset seen = (data_seen, datas_seen, group_seen, groups_seen, steps)

pub ruleset counted = (length_datas, length_row, groups_here, steps)

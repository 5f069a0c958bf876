-- The counts of a block's groups and data at the book's own version, whether they stand on the wire or not: what is
-- written is good and leaves nothing surplus, and what is good is what is written.
use mathlib.Core.Path.{◌∙◌, ◌≡◌, refl}
use mathlib.Core.Bool.{Bool, false, false≢true, true}
use mathlib.Core.List.{List}
use Prim.Native.Nat.{◌+◌, ◌<◌, ℕ}
use native.Mathlib.Nat.{le_refl}
use native.Mathlib.Omega.{arith}
use lib.ListN.{length, length-map}
use borrow.Author.Tests.{eq-eqb, eqb-true, le-leb}
use Rattle.layout.specs.Result.{Each, when◌then◌else◌}
use Rattle.layout.specs.Octets.{null16, number16}
use Rattle.layout.specs.Book.{Data, Groups, Shape, data_sinces, group_sinces, present}
use Rattle.layout.specs.Message.{count_at, count_good, surplus}
use Rattle.layout.specs.Writing.{counts_of}
use Rattle.layout.proofs.Accepted.{Few}
use Rattle.layout.proofs.Present.{UpTo, present_up}
use Rattle.layout.proofs.Stands.{AllWhole, AreAt}

datas_count : (ds : List Data) → length (data_sinces ds) ≡ length ds
datas_count ds = length-map ds (λ (d : Data). d.since)

pub counts_whole : (counted : Bool) (s : Shape) (gs : Groups) → Few s gs → AllWhole (counts_of counted gs s.datas)
unfolding counts_of Each
counts_whole true s gs few = (omega (arith, few.0), (omega (arith, few.1), tt))
counts_whole false s gs few = tt

-- ---- one count

module _ (counted : Bool) (v : ℕ) (ss : List ℕ) (big : Bool) (m : List ℕ) (at : ℕ) where
  count_good_lem : UpTo v ss → (counted ≡ true → number16 big m at ≡ length ss)
      → count_good counted v v ss (count_at counted big m at) ≡ true
  unfolding count_good when◌then◌else◌
  count_good_lem u h = go counted h
    where
      go : (c : Bool) → (c ≡ true → number16 big m at ≡ length ss) → count_good c v v ss (count_at c big m at) ≡ true
      go true h =
          rw (h refl, le-leb v v (le_refl v), present_up v v ss u (le_refl v)) (eq-eqb (length ss) (length ss) refl)
      go false h = refl

  -- A count that is good at the book's own version is what is present.
  count_is : count_good counted v v ss (count_at counted big m at) ≡ true → counted ≡ true
      → number16 big m at ≡ present v ss
  unfolding count_good when◌then◌else◌
  count_is e c = eqb-true _ _ (rw (c, le-leb v v (le_refl v)) at e)

  none_surplus : count_good counted v v ss (count_at counted big m at) ≡ true
      → surplus v ss (count_at counted big m at) ≡ 0
  unfolding when◌then◌else◌
  none_surplus e = go counted (count_is e)
    where
      go : (c : Bool) → (c ≡ true → number16 big m at ≡ present v ss) → surplus v ss (count_at c big m at) ≡ 0
      go true h = omega (arith, h refl)
      go false h = omega arith

-- ---- both counts, at `at`

pub record OwnCounts (counted : Bool) (v : ℕ) (gs : Groups) (ds : List Data) (big : Bool) (m : List ℕ)
    (at : ℕ) : Type 0 where
  pub groups_good : count_good counted v v (group_sinces gs) (count_at counted big m at) ≡ true
  pub datas_good : count_good counted v v (data_sinces ds) (count_at counted big m (at + 2)) ≡ true
  pub no_groups : surplus v (group_sinces gs) (count_at counted big m at) ≡ 0
  pub no_datas : surplus v (data_sinces ds) (count_at counted big m (at + 2)) ≡ 0

module _ (counted : Bool) (v : ℕ) (gs : Groups) (ds : List Data) (big : Bool) (m : List ℕ) (at : ℕ) where
  pub good_counts : count_good counted v v (group_sinces gs) (count_at counted big m at) ≡ true
      → count_good counted v v (data_sinces ds) (count_at counted big m (at + 2)) ≡ true
      → OwnCounts counted v gs ds big m at
  good_counts g d =
      record {
        groups_good = g;
        datas_good = d;
        no_groups = none_surplus counted v (group_sinces gs) big m at g;
        no_datas = none_surplus counted v (data_sinces ds) big m (at + 2) d;
      }

  module _ (groups_in : UpTo v (group_sinces gs)) (datas_in : UpTo v (data_sinces ds)) where
    -- Written counts are good.
    pub counts_read : AreAt big m at (counts_of counted gs ds) → OwnCounts counted v gs ds big m at
    unfolding counts_of AreAt
    counts_read a =
        let is = go counted a in
        good_counts (count_good_lem counted v (group_sinces gs) big m at groups_in λ c. (is c).0)
        (count_good_lem counted v (data_sinces ds) big m (at + 2) datas_in λ c. (is c).1 ∙ sym_count)
      where
        sym_count : length ds ≡ length (data_sinces ds)
        sym_count = omega (arith, datas_count ds)

        go : (c : Bool) → AreAt big m at (counts_of c gs ds) → c ≡ true
            → (number16 big m at ≡ length (group_sinces gs)) × (number16 big m (at + 2) ≡ length ds)
        go true a e = (a.0, a.1.0)
        go false a e = absurd (false≢true e)

    -- Good counts are as they are written.
    pub counts_written : OwnCounts counted v gs ds big m at → AreAt big m at (counts_of counted gs ds)
    unfolding counts_of AreAt
    counts_written o = go counted (count_is counted v (group_sinces gs) big m at o.groups_good)
        (count_is counted v (data_sinces ds) big m (at + 2) o.datas_good)
      where
        up : (ss : List ℕ) → UpTo v ss → present v ss ≡ length ss
        up ss u = present_up v v ss u (le_refl v)

        go : (c : Bool) → (c ≡ true → number16 big m at ≡ present v (group_sinces gs))
            → (c ≡ true → number16 big m (at + 2) ≡ present v (data_sinces ds)) → AreAt big m at (counts_of c gs ds)
        go true g d =
            (g refl ∙ up (group_sinces gs) groups_in, (d refl ∙ up (data_sinces ds) datas_in ∙ datas_count ds, tt))
        go false g d = tt

-- Written counts are whole numbers.
pub counts_are : (counted big : Bool) (m : List ℕ) (at : ℕ) (gs : Groups) (ds : List Data)
    → AllWhole (counts_of counted gs ds) → AreAt big m at (counts_of counted gs ds)
    → (count_at counted big m at < null16) × (count_at counted big m (at + 2) < null16)
unfolding counts_of AreAt Each when◌then◌else◌
counts_are true big m at gs ds w a = (omega (arith, a.0, w.0), omega (arith, a.1.0, w.1.0))
counts_are false big m at gs ds w a = (omega arith, omega arith)

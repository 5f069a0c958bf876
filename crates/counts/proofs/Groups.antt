-- The counts of a group's dimension; what follows where a group is not refused; and reading it by its entries.
use mathlib.Core.Path.{◌≡◌, ◌∙◌, ap, sym}
use mathlib.Core.Bool.{Bool, false, true}
use mathlib.Core.List.{List, [], ◌∷◌}
use Prim.Native.Nat.{ℕ, ◌+◌, ◌<◌, ◌≤◌}
use native.Mathlib.Omega.{arith}
use lib.ListN.{drop, length, take}
use Rattle.std.specs.Prelude.{Ok}
use Rattle.layout.specs.Result.{Each, Result, ◌>>=◌, ◌and◌, done, must, when◌then◌else◌}
use Rattle.layout.specs.Octets.{in_order, lowest, null16, number16}
use Rattle.layout.specs.Writing.{numbers16}
use Rattle.layout.specs.Book.{Shape, need}
use Rattle.layout.specs.BookRules.{word}
use Rattle.layout.specs.Operations.{told}
use Rattle.layout.specs.Values.{Values}
use Rattle.layout.specs.Message.{count_good, dimension_size, read_block, read_dimension, read_entries}
use Rattle.layout.specs.Message.{read_group}
use Rattle.layout.specs.declared.Answer.{Answer}
use Rattle.layout.specs.declared.Answer.TheVariants.{Group}
use Rattle.layout.proofs.Results.{bind_assoc, bind_done}
use Rattle.layout.proofs.Stands.{AreAt, length_numbers, numbers_are}
use Rattle.octets.specs.Spelt.{Spelt}
use Rattle.number_types.specs.Value.{order_of}
use Rattle.prepared.specs.Numbers.{own_counts}
use Rattle.prepared.specs.Positions.{BlockAt, IsBlock, is_big, many_datas, many_groups, version_at}
use Rattle.prepared.proofs.Open.{groups_here, length_row}
use Rattle.wire.proofs.Steps.{steps}
use Rattle.counts.specs.Groups.{HasOwn, coded, counts_at, counts_by, none_over, open_by}
use Rattle.counts.specs.declared.Entries.{Entries}
use Rattle.counts.proofs.Counts.{length_datas}

-- What says `unfolding openings` looks into a group's dimension and its counts.
unfoldable pub openings : Unit {0}
unfolding told must ◌>>=◌ ◌and◌ when◌then◌else◌ open_by counts_by coded read_dimension
openings = tt

-- ---- the book's own counts, as they stand

own_octets : (big : Bool) (g d : ℕ) → g ≤ 16 → d ≤ 16
    → lowest 4 (own_counts (order_of big) g d) ≡ numbers16 big (g ∷ d ∷ [])
unfolding lowest in_order numbers16 when◌then◌else◌
own_octets false g d h k = grind arith
own_octets true g d h k = grind arith

pub own_there : {p : List ℕ} {a : ℕ} → IsBlock p a → {m : List ℕ} {v at r : ℕ} → version_at p ≤ v → at + 8 ≤ length m
    → Spelt 4 m (at + 4) r → r ≡ word p (a + 7) → HasOwn p a m v at
unfolding AreAt Each
own_there {p} {a} b {m} {v} {at} {r} late fits s e =
    let big = is_big p in
    let xs = many_groups p a ∷ many_datas p a ∷ [] in
    let whole : take 4 (drop (at + 4) m) ≡ numbers16 big xs =
    sym s.octets ∙ ap (lowest 4) (e ∙ b.counts) ∙ own_octets big _ _ b.few_groups b.few_datas in
    let four : length (numbers16 big xs) ≡ 4 = length_numbers big xs in
    let are = numbers_are {m = m} {at = at + 4} {to = at + 8} big xs
    (omega (arith, b.few_groups), (omega (arith, b.few_datas), tt))
    (record { whole = rw four whole; ends = omega (arith, four); fits = fits }) in
    record { late = late; groups = are.0; datas = are.1.0 }

-- They leave nothing over.
pub counts_own : {p : List ℕ} {depth a : ℕ} → BlockAt p depth a → {m : List ℕ} {v at : ℕ} → HasOwn p a m v at
    → coded (counts_at p depth a m v at) ≡ Ok none_over
unfolding coded counts_by count_good
counts_own {p} {depth} {a} b {m} {v} {at} own =
    let groups = groups_here p v depth _ _ own.late b.row in
    let datas = b.block.datas_here v own.late in
    let few = b.block.few_groups in
    let few_datas = b.block.few_datas in
    grind (arith, length_row p depth _ _ b.row, length_datas, steps)

pub ruleset own = (counts_own, own_there, steps)

-- ---- what a group that is not refused is good for

-- s is its block, and an entry's groups have these sinces.
module _ (counted : Bool) (version : ℕ) (big : Bool) (m : List ℕ) (v : ℕ) (s : Shape) (groups : List ℕ) (at : ℕ) where
  abbrev group : Result Entries
  group = open_by counted version big m v s groups at

  pub record Good (e : Entries) : Type 0 where
    pub is : group ≡ done e
    pub length : e.length ≡ number16 big m at
    pub entries : e.count ≡ number16 big m (at + 2)
    pub fits : at + dimension_size counted ≤ lib.ListN.length m
    pub short : e.length < null16
    pub few : e.count < null16
    pub enough : need v s ≤ e.length
    pub few_groups : e.surplus.groups < null16
    pub few_datas : e.surplus.datas < null16

  pub group_good : (e : Entries) → group ≡ done e → Good e
  unfolding open_by read_dimension
  group_good e is =
      record {
        is = is;
        length = grind (arith, steps);
        entries = grind (arith, steps);
        fits = grind (arith, steps);
        short = grind (arith, steps);
        few = grind (arith, steps);
        enough = grind (arith, steps);
        few_groups = grind (arith, steps);
        few_datas = grind (arith, steps);
      }

  -- ---- reading it by its entries

  -- f reads an entry's groups, and so many surplus ones.
  module _ (f : ℕ → ℕ → Result (Values × ℕ)) where
    abbrev pub entries_by : Entries → Result (Values × ℕ)
    entries_by e =
        read_entries e.count (read_block big m v s (f e.surplus.groups) e.surplus.datas e.length)
        (at + dimension_size counted)

    abbrev pub grouped : Entries → Result (Answer × Values × ℕ)
    grouped e = entries_by e >>= λ r. done (Group e.count, r.0, r.1)

    pub group_read_lem : read_group counted version big m v s groups f at ≡ (group >>= grouped)
    unfolding read_group open_by
    group_read_lem = simp (bind_assoc, bind_done)

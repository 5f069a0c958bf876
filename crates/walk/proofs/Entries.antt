-- Entries in a row, of which some were passed.
use mathlib.Core.Path.{◌≡◌, ◌∙◌, ap, refl}
use mathlib.Core.Bool.{Bool}
use mathlib.Core.List.{List, [], map}
use Prim.Native.Nat.{ℕ, zero, suc, ◌+◌, ◌-◌, ◌*◌, ◌≤◌, ◌<◌}
use native.Mathlib.Omega.{arith}
use lib.ListN.{length, length-map}
use borrow.Author.Tests.{le-leb}
use Rattle.std.specs.Prelude.{Ok}
use Rattle.layout.specs.Result.{Result, ◌>>=◌, done, must}
use Rattle.layout.specs.Book.{Groups, Shape, none}
use Rattle.layout.specs.BookRules.{word}
use Rattle.layout.specs.Operations.{told}
use Rattle.layout.specs.Values.{Values, entry, nil}
use Rattle.layout.specs.Message.{Entry, in_row, read_block, read_datas, read_entries, read_field, read_groups}
use Rattle.layout.proofs.Results.{one_less, some_left}
use Rattle.prepared.specs.Positions.{IsBlock, datas_from, groups_from, inner_at, is_big, many_datas}
use Rattle.prepared.specs.Positions.{many_fields, many_groups, shape_at}
use Rattle.prepared.proofs.Accepted.{fields_length}
use Rattle.prepared.proofs.Open.{no_datas_at, no_groups_at, some_follow}
use Rattle.wire.proofs.Steps.{steps}
use Rattle.walk.specs.declared.Walked.{Walked}
use Rattle.walk.specs.Walks.{datas_end, entries_by, entry_by, values_end, walked}
use Rattle.walk.proofs.Ways.{walks}

pub entries_step : (f : ℕ → Result Entry) (n at : ℕ) → 0 < n → read_entries n f at
    ≡ (f at >>= λ e. read_entries (n - 1) f e.3 >>= λ r. done (entry e.0 e.1 e.2 r.0, r.1))
unfolding read_entries
entries_step f n at h = rw (some_left h, one_less) refl

-- Of n entries i were passed.
module _ (f : ℕ → Result Entry) (n i at : ℕ) where
  pub entries_next : i < n → read_entries (n - i) f at
      ≡ (f at >>= λ e. read_entries (n - (i + 1)) f e.3 >>= λ r. done (entry e.0 e.1 e.2 r.0, r.1))
  unfolding read_entries
  entries_next h =
      let some : n - i ≡ suc (n - (i + 1)) = omega arith in
      rw some refl

  pub entries_done : n ≤ i → read_entries (n - i) f at ≡ done (nil, at)
  unfolding read_entries
  entries_done h =
      let none : n - i ≡ 0 = omega arith in
      rw none refl

-- n entries of l octets with the block s, whose groups f reads and k of whose data are surplus: one more was passed, and
-- with it so many records.
pub entry_next : (big : Bool) (m : List ℕ) (v : ℕ) (s : Shape) (f : ℕ → Result (Values × ℕ)) (k l seen n i at : ℕ)
    (w : Walked) (x fields datas many : ℕ) → i < n → at + l ≤ length m → Ok w ≡ walked (values_end 0) (f (at + l))
    → told (datas_end 0) (read_datas big m v s.datas k w.next) ≡ Ok (x, many) → fields ≡ length s.fields → datas ≡ many
    → walked (values_end seen) (read_entries (n - i) (read_block big m v s f k l) at)
    ≡ walked (values_end (seen + (fields + w.records + datas))) (read_entries (n - (i + 1)) (read_block big m v s f k l) x)
unfolding walks
entry_next big m v s f k l seen n i at w x fields datas many h fits row rest is are =
    grind (arith, entries_next, length-map, steps)

pub ruleset entries = (entries_next, entries_done, steps)

-- ---- plain entries

-- Blocks of l octets with neither groups nor data.
module _ (p m : List ℕ) (v : ℕ) (s : Shape) (depth l : ℕ) (gs : Groups) (no_groups_lem : gs ≡ none)
    (no_datas_lem : s.datas ≡ []) where
  abbrev entry_is : ℕ → Result Entry
  entry_is = entry_by p m v s gs depth 0 0 l

  -- A plain block is its octets, and a record for each field.
  plain_entry : (at : ℕ) → at + l ≤ length m
      → entry_is at ≡ done (map (read_field (is_big p) m v at) s.fields, nil, [], at + l)
  unfolding read_block read_groups read_datas in_row must ◌>>=◌
  plain_entry at h = rw (le-leb (at + l) (length m) h, no_groups_lem, no_datas_lem) refl

  -- Plain entries are their octets, where all of these are there.
  plain_entries : (k seen at : ℕ) → at + l * k ≤ length m
      → walked (values_end seen) (read_entries k entry_is at)
      ≡ Ok (record { next = at + l * k; records = seen + length s.fields * k })
  unfolding walks read_entries
  plain_entries zero seen at h = grind arith
  plain_entries (suc k) seen at h =
      let first = plain_entry at (omega arith) in
      let rest = plain_entries k (seen + length s.fields) (at + l) (omega arith) in
      grind (arith, length-map)

-- Entries of a block that nothing follows are passed at once where all of them fit.
pub plain_walked : (p : List ℕ) (depth a : ℕ) (m : List ℕ) (v l k g d start follow : ℕ) → IsBlock p a
    → follow ≡ word p (a + 7) → follow + g + d ≡ 0
    → start + l * k ≤ length m
    → walked (values_end 0) (entries_by p depth a m v g d l k start)
    ≡ Ok (record { next = start + l * k; records = many_fields p a * k })
plain_walked p depth a m v l k g d start follow b w z h =
    let none : g ≡ 0 = omega arith in
    let none' : d ≡ 0 = omega arith in
    let walk = plain_entries p m v (shape_at p a) depth l (inner_at p depth a)
    (no_groups_at p depth (many_groups p a) (groups_from p a) (omega (arith, some_follow b, w, z)))
    (no_datas_at p (many_datas p a) (datas_from p a) (omega (arith, some_follow b, w, z))) k 0 start h in
    rw (none, none') (walk ∙ rw fields_length (ap (λ (i : ℕ). Ok (record { next = start + l * k; records = i })) (omega arith)))

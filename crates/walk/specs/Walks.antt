-- What walking a part of a message by a prepared book comes to: the definition's answer at places of the book, and how
-- far and how many it can be.
use Rattle.std.specs.Prelude.{Bool, List, ℕ, ◌+◌, ◌*◌, ◌≤◌, leb, length, Ok, Err}
use Rattle.layout.specs.Result.{Result, done, when◌then◌else◌}
use Rattle.layout.specs.Operations.{Told, told}
use Rattle.layout.specs.BookRules.{word}
use Rattle.layout.specs.Values.{Values, measure}
use Rattle.layout.specs.Message.{Entry, read_block, read_data, read_entries, read_groups}
use Rattle.layout.specs.declared.Answer.{Answer}
use Rattle.layout.specs.declared.Answer.TheVariants.{Absent}
use Rattle.layout.specs.Book.{Groups, Shape}
use Rattle.prepared.specs.Positions.{groups_at, inner_at, is_big, is_counted, shape_at, version_at}
use Rattle.counts.specs.declared.Entries.{Entries}
use Rattle.walk.specs.declared.Walked.{Walked}

-- ---- the definitions at places of the prepared numbers p

-- The groups gs and then n surplus ones, `depth` more levels being left.
abbrev pub groups_by : List ℕ → List ℕ → ℕ → Groups → ℕ → ℕ → ℕ → Result (Values × ℕ)
groups_by p m v gs depth n at = read_groups (is_counted p) (version_at p) (is_big p) m v gs depth n at

-- An entry of l octets of a block s with the groups gs, where g groups and d data are surplus.
abbrev pub entry_by : List ℕ → List ℕ → ℕ → Shape → Groups → ℕ → ℕ → ℕ → ℕ → ℕ → Result Entry
entry_by p m v s gs depth g d l at = read_block (is_big p) m v s (groups_by p m v gs depth g) d l at

-- n entries of the block at a.
module _ (p : List ℕ) (depth a : ℕ) (m : List ℕ) (v : ℕ) where
  abbrev pub entries_by : ℕ → ℕ → ℕ → ℕ → ℕ → Result (Values × ℕ)
  entries_by g d l n at = read_entries n (entry_by p m v (shape_at p a) (inner_at p depth a) depth g d l) at

  -- Those that a dimension says.
  abbrev pub entries_at : Entries → ℕ → Result (Values × ℕ)
  entries_at e at = entries_by e.surplus.groups e.surplus.datas e.length e.count at

-- Their numbers are of 16 bits.
pub record Small (e : Entries) : Type 0 where
  pub short : e.length ≤ 65535
  pub few : e.count ≤ 65535
  pub few_groups : e.surplus.groups ≤ 65535
  pub few_datas : e.surplus.datas ≤ 65535

-- The data whose numbers stand at a.
abbrev pub data_at : List ℕ → ℕ → Bool → List ℕ → ℕ → ℕ → Result (Answer × ℕ)
data_at p a big m v at = when leb (word p (a + 1)) v then read_data big m at else done (Absent, at)

-- It, if it is the book's own, or a surplus one.
abbrev pub data_or : Bool → List ℕ → ℕ → Bool → List ℕ → ℕ → ℕ → Result (Answer × ℕ)
data_or own p a big m v at = when own then data_at p a big m v at else read_data big m at

-- The n groups in a row at a, and then surplus ones.
abbrev pub row_at : List ℕ → ℕ → ℕ → ℕ → List ℕ → ℕ → ℕ → ℕ → Result (Values × ℕ)
row_at p depth n a m v surplus at = groups_by p m v (groups_at p depth n a) depth surplus at

-- The octet after data.
abbrev pub after_datas : List Answer × ℕ → ℕ
after_datas (ds, x) = x

-- ---- where each ends and how many records it has, `seen` having been counted before

abbrev pub datas_end : ℕ → List Answer × ℕ → ℕ × ℕ
datas_end seen (ds, x) = (x, seen + length ds)

abbrev pub entry_end : Entry → ℕ × ℕ
entry_end (fs, gs, ds, x) = (x, length fs + (measure gs + length ds))

abbrev pub values_end : ℕ → Values × ℕ → ℕ × ℕ
values_end seen (r, x) = (x, seen + measure r)

-- `end` gives the octet after what was read, and the number of its records.
abbrev pub walked : {A : Type 0} → (A → ℕ × ℕ) → Result A → Told Walked
walked end = told (λ a. record { next = (end a).0; records = (end a).1 })

-- ---- how far, and how many

-- A dimension has 4 octets and at most 65,535 entries with at most 96 records of their own each: so many for an octet.
abbrev pub rate : ℕ
rate = 1572840

-- It leads on, not past the end; it has at most `own` records, and those that octets are used for.
unfoldable pub Bounded : List ℕ → ℕ → ℕ → Told Walked → Type 0
Bounded m at own (Ok w) = (at ≤ w.next) × (w.next ≤ length m) × (w.records + rate * at ≤ own + rate * w.next)
Bounded m at own (Err z) = Unit {0}

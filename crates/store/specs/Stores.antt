-- The parts of a message as they are stored: p are the prepared numbers, m is the message, `big` the order of its
-- numbers, v its version.
use Rattle.std.specs.Prelude.{Bool, List, [], map, ℕ, ◌+◌}
use Rattle.layout.specs.Result.{Result}
use Rattle.layout.specs.Book.{Data, Field, Groups}
use Rattle.layout.specs.Values.{listing, records_of}
use Rattle.layout.specs.Message.{in_row, read_datas, read_field, skip_datas, skip_group}
use Rattle.prepared.specs.Positions.{is_big, is_counted}
use Rattle.counts.specs.declared.Entries.{Entries}
use Rattle.walk.specs.Walks.{entries_by, groups_by}
use Rattle.prints.specs.Prints.{Printed, got, printed}

-- The fields of a block of l octets, which starts at the octet.
unfoldable pub fields_print : Bool → List ℕ → ℕ → List Field → ℕ → ℕ → Printed
fields_print big m v fs l at = got (at + l) (records_of (map (read_field big m v at) fs))

-- Data, and then n surplus ones.
unfoldable pub datas_print : Bool → List ℕ → ℕ → List Data → ℕ → ℕ → Printed
datas_print big m v ds n at = printed (λ r. r.1) (λ r. records_of r.0) (read_datas big m v ds n at)

-- What is surplus has no record.
unfoldable pub skip_print : Result ℕ → Printed
skip_print r = printed (λ x. x) (λ x. []) r

-- n surplus data.
abbrev pub over_print : Bool → List ℕ → ℕ → ℕ → Printed
over_print big m n at = skip_print (skip_datas big m n at)

-- n surplus groups, `depth` more levels being left.
abbrev pub surplus_print : List ℕ → ℕ → List ℕ → ℕ → ℕ → Printed
surplus_print p depth m n at = skip_print (in_row n (skip_group (is_counted p) (is_big p) m depth) at)

-- Groups in a row, and how many surplus ones stand past these.
unfoldable pub groups_print : List ℕ → ℕ → List ℕ → ℕ → Groups → ℕ → ℕ → Printed
groups_print p depth m v gs surplus at = printed (λ r. r.1) (λ r. listing r.0) (groups_by p m v gs depth surplus at)

module _ (p : List ℕ) (depth a : ℕ) (m : List ℕ) (v : ℕ) where
  -- n entries of l octets of the block at a, where g groups and d data are surplus.
  unfoldable pub entries_print : ℕ → ℕ → ℕ → ℕ → ℕ → Printed
  entries_print g d l n at = printed (λ r. r.1) (λ r. listing r.0) (entries_by p depth a m v g d l n at)

  -- Those that a dimension says.
  abbrev pub sized_print : Entries → ℕ → Printed
  sized_print e at = entries_print e.surplus.groups e.surplus.datas e.length e.count at

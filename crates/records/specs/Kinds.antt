-- The number of each kind, with which a record of it begins.
use Rattle.std.specs.Prelude.{ℕ}
use Rattle.records.specs.declared.Kind.{Kind}
use Rattle.records.specs.declared.Kind.TheVariants.{Number, Null, Octets, Absent, Group, OutOfRange, Unlisted}

abbrev pub kind_number : Kind → ℕ
kind_number Number = 0
kind_number Null = 1
kind_number Octets = 2
kind_number Absent = 3
kind_number Group = 4
kind_number OutOfRange = 5
kind_number Unlisted = 6

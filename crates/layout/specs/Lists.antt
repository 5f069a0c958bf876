-- Name lists: which numbers a field's list has, and what an answer is beside it.
use Rattle.std.specs.Prelude.{◌≡◌, Bool, true, false, List, [], ◌∷◌, ℕ, zero, suc, ◌%◌, ◌/◌, eqb}
use Rattle.layout.specs.Result.{Each, ◌and◌, ◌or◌, when◌then◌else◌}
use Rattle.layout.specs.declared.Answer.{Answer}
use Rattle.layout.specs.declared.Answer.TheVariants.{Number, Null, Octets, Absent, Group, OutOfRange, Unlisted}

-- "A list is a word 0 for an enumeration or 1 for a set", and a field's word is "0 for none": it is free. The book may
-- lack the list that a field names.
pub data Kind : Type 0 where
  free missing enumeration set : Kind

-- What a field's seventh word leads to: the kind, and "1 to 64 rising numbers: values .. or bit numbers".
pub record Names : Type 0 where
  pub kind : Kind
  pub numbers : List ℕ

abbrev pub no_names : Names
no_names = record { kind = free; numbers = [] }

-- A list under its number in the contents: its word for the kind, and its numbers.
pub record NameList : Type 0 where
  pub id : ℕ
  pub kind : ℕ
  pub numbers : List ℕ

abbrev pub names_of : NameList → Names
names_of l = record { kind = when eqb l.kind 0 then enumeration else set; numbers = l.numbers }

-- What a field's seventh word leads to among a book's lists: "0 for none or the list's number plus one".
unfoldable pub find_names : ℕ → List NameList → Names
find_names zero ls = no_names
find_names (suc id) [] = record { kind = missing; numbers = [] }
find_names (suc id) (l ∷ ls) = when eqb l.id id then names_of l else find_names (suc id) ls

unfoldable pub is_one_of : ℕ → List ℕ → Bool
is_one_of x [] = false
is_one_of x (n ∷ ns) = eqb x n or is_one_of x ns

-- Of w bits of x, the lowest being bit i, each that is set is one of these.
unfoldable pub only_bits : List ℕ → ℕ → ℕ → ℕ → Bool
only_bits ns i zero x = true
only_bits ns i (suc w) x = (eqb (x % 2) 0 or is_one_of i ns) and only_bits ns (suc i) w (x / 2)

-- Whether the list has x, which is not "a value .. that the list lacks, or that sets an unlisted bit".
unfoldable pub is_listed : Kind → List ℕ → ℕ → Bool
is_listed free ns x = true
is_listed missing ns x = false
is_listed enumeration ns x = is_one_of x ns
is_listed set ns x = only_bits ns 0 64 x

abbrev pub has : Names → ℕ → Bool
has l x = is_listed l.kind l.numbers x

-- "Listed values in range stay kind 0, and null or a value out of range stays 1 or 5 even where the list has it; a
-- value in range that the list lacks .. is a new kind 6 with the same number".
unfoldable pub beside : Names → Answer → Answer
beside l (Number x) = when has l x then Number x else Unlisted x
beside l Null = Null
beside l (Octets start len) = Octets start len
beside l Absent = Absent
beside l (Group entries) = Group entries
beside l (OutOfRange x) = OutOfRange x
beside l (Unlisted x) = Unlisted x

-- "keeps .. its list's kind and numbers, to which more may be added"
pub record KeepsNames (old new : Names) : Type 0 where
  pub same_kind : old.kind ≡ new.kind
  pub numbers : Each (λ n. is_one_of n new.numbers ≡ true) old.numbers

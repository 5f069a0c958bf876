-- The schema book as a tree, and what it says of a block.
use Rattle.std.specs.Prelude.{Bool, List, [], ◌∷◌, map, ℕ, ◌+◌, ◌*◌, leb, ltb, eqb}
use Rattle.std.proofs.Math.Option.{Option, none as no, some}
use Rattle.layout.specs.Result.{◌and◌, when◌then◌else◌}
use Rattle.layout.specs.Types.{type_at}
use Rattle.layout.specs.Lists.{NameList, Names}

-- "Field, six words: id, type, length, offset, presence (0 required, 1 optional), since"; "each field gains a seventh
-- word, 0 for none or the list's number plus one": the list, and the names that it leads to.
pub record Field : Type 0 where
  pub id : ℕ
  pub type : ℕ
  pub length : ℕ
  pub offset : ℕ
  pub presence : ℕ
  pub since : ℕ
  pub list : ℕ
  pub names : Names

-- "Data, two words: id, since."
pub record Data : Type 0 where
  pub id : ℕ
  pub since : ℕ

-- A block without its groups: its declared length, its fields and its data.
pub record Shape : Type 0 where
  pub length : ℕ
  pub fields : List Field
  pub datas : List Data

-- "Group: id, since, then its block": the groups of a block, in a row. `more id since shape inner rest` is a group
-- whose block has the groups `inner`, followed by the groups `rest`.
pub data Groups : Type 0 where
  none : Groups
  more : ℕ → ℕ → Shape → Groups → Groups → Groups

-- "A body is one block."
pub record Template : Type 0 where
  pub id : ℕ
  pub shape : Shape
  pub groups : Groups

-- What the head says of every message by the book: whether it is big-endian; "A further head word, 2 or 4, says how
-- many [numbers] a book uses".
-- With four, the number of groups and the number of data stand in each group's dimension.
pub record Format : Type 0 where
  pub big : Bool
  pub in_groups : Bool

pub record Book : Type 0 where
  pub schema : ℕ
  pub version : ℕ
  pub format : Format
  pub lists : List NameList
  pub templates : List Template

unfoldable pub find_template : ℕ → List Template → Option Template
find_template id [] = no
find_template id (t ∷ ts) = when eqb t.id id then some t else find_template id ts

-- ---- fields

-- The field f with other names.
abbrev pub with_names : Field → Names → Field
with_names f l =
    record {
      id = f.id;
      type = f.type;
      length = f.length;
      offset = f.offset;
      presence = f.presence;
      since = f.since;
      list = f.list;
      names = l;
    }

abbrev pub size : Field → ℕ
size f = (type_at f.type).width * f.length

abbrev pub end : Field → ℕ
end f = f.offset + size f

-- "types 0 and 2 may have 2 to 1,024": an array, which of char is text and otherwise "is plain octets".
abbrev pub is_array : Field → Bool
is_array f = ltb 1 f.length

abbrev pub is_char : Field → Bool
is_char f = eqb f.type 0

abbrev pub is_text : Field → Bool
is_text f = is_array f and is_char f

abbrev pub is_optional : Field → Bool
is_optional f = eqb f.presence 1

-- "The need of a block at v is the end of its last field with since at most v, or 0": after fields that need e.
unfoldable pub need_after : ℕ → ℕ → List Field → ℕ
need_after v e [] = e
need_after v e (f ∷ fs) = need_after v (when leb f.since v then end f else e) fs

abbrev pub need : ℕ → Shape → ℕ
need v s = need_after v 0 s.fields

-- ---- sinces

abbrev pub field_sinces : List Field → List ℕ
field_sinces fs = map (λ (f : Field). f.since) fs

abbrev pub data_sinces : List Data → List ℕ
data_sinces ds = map (λ (d : Data). d.since) ds

unfoldable pub group_sinces : Groups → List ℕ
group_sinces none = []
group_sinces (more i since s inner rest) = since ∷ group_sinces rest

-- How many of these have "since at most v".
unfoldable pub present : ℕ → List ℕ → ℕ
present v [] = 0
present v (s ∷ ss) = (when leb s v then 1 else 0) + present v ss

-- A worked case, of big-endian messages with counts in dimensions: a template with a field, which has a set, and a
-- group of one field.
use Rattle.std.specs.Prelude.{true, [], ◌∷◌, ℕ}
use Rattle.layout.specs.Book.{Book, Field, Shape, more, none}
use Rattle.layout.specs.Lists.{NameList, find_names}

abbrev pub shape_of : ℕ → Field → Shape
shape_of l f = record { length = l; fields = f ∷ []; datas = [] }

abbrev pub flags : NameList
flags = record { id = 3; kind = 1; numbers = 0 ∷ 4 ∷ [] }

-- A field with this list.
abbrev pub field_of : ℕ → ℕ → ℕ → ℕ → Field
field_of id type since list =
    record {
      id = id;
      type = type;
      length = 1;
      offset = 0;
      presence = 0;
      since = since;
      list = list;
      names = find_names list (flags ∷ []);
    }

abbrev pub small : Book
small =
    record {
      schema = 7;
      version = 1;
      format = record { big = true; in_groups = true };
      lists = flags ∷ [];
      templates =
          record {
            id = 69;
            shape = shape_of 8 (field_of 1 4 0 4);
            groups = more 9 1 (shape_of 4 (field_of 2 5 1 0)) none none;
          }
          ∷ [];
    }

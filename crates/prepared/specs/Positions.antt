-- Where the parts of a block stand among prepared numbers p, and the trees that they are: read back by position, so
-- that a contract can name the tree without holding it.
use Rattle.std.specs.Prelude.{◌≡◌, Bool, true, List, ℕ, zero, suc, ◌+◌, ◌-◌, ◌*◌, ◌≤◌, ◌<◌, eqb, length}
use Rattle.layout.specs.Types.{type_at}
use Rattle.layout.specs.Book.{Field, Shape, Groups, none, more, data_sinces, need, present}
use Rattle.layout.specs.BookRules.{word, field_at as field_by, parse_fields, parse_datas, shape_good}
use Rattle.layout.specs.Message.{dimension_size}
use Rattle.number_types.specs.Value.{coded, order_of}
use Rattle.prepared.specs.Names.{HasNames, lists_at}
use Rattle.prepared.specs.Numbers.{own_counts, spread as spread_of}

-- The book's version.
abbrev pub version_at : List ℕ → ℕ
version_at p = word p 1

-- Whether its messages are big-endian.
abbrev pub is_big : List ℕ → Bool
is_big p = eqb (word p 4) 1

-- Whether a dimension has counts.
abbrev pub is_counted : List ℕ → Bool
is_counted p = eqb (word p 5) 8

-- How many octets a dimension has stands there.
abbrev pub Sized : List ℕ → Type 0
Sized p = word p 5 ≡ dimension_size (is_counted p)

-- The field at x, with the names that its list has here.
abbrev pub field_at : List ℕ → ℕ → Field
field_at p x = field_by (lists_at p) p x

-- What is worked out of the field f stands at x.
pub record Derived (p : List ℕ) (x : ℕ) (f : Field) : Type 0 where
  pub code : word p x ≡ coded (is_big p) f.type
  pub least : word p (x + 1) ≡ (type_at f.type).least
  pub spread : word p (x + 2) ≡ spread_of (type_at f.type)
  pub null : word p (x + 3) ≡ (type_at f.type).null
  pub width : word p (x + 4) ≡ (type_at f.type).width
  pub names : HasNames p (word p (x + 5)) f.names

module _ (p : List ℕ) (a : ℕ) where
  abbrev pub many_fields : ℕ
  many_fields = word p (a + 3)

  abbrev pub many_groups : ℕ
  many_groups = word p (a + 4)

  abbrev pub many_datas : ℕ
  many_datas = word p (a + 5)

  abbrev pub next_from : ℕ
  next_from = word p (a + 8)

  abbrev pub groups_from : ℕ
  groups_from = word p (a + 9)

  abbrev pub datas_from : ℕ
  datas_from = word p (a + 10)

  abbrev pub table_from : ℕ
  table_from = word p (a + 11)

  abbrev pub fields_from : ℕ
  fields_from = a + 12

  abbrev pub shape_at : Shape
  shape_at =
      record {
        length = word p (a + 2);
        fields = parse_fields (lists_at p) p many_fields fields_from;
        datas = parse_datas p many_datas datas_from;
      }

  -- A block of an accepted book stands at a, and what was worked out of it is right.
  pub record IsBlock : Type 0 where
    pub short : length p ≤ 65535
    pub sized : Sized p
    pub few_fields : many_fields ≤ 64
    pub few_groups : many_groups ≤ 16
    pub few_datas : many_datas ≤ 16
    pub fields_fit : fields_from + 7 * many_fields ≤ length p
    pub datas_fit : datas_from + 2 * many_datas ≤ length p
    pub table_fits : table_from + 6 * many_fields ≤ length p
    pub good : shape_good shape_at ≡ true
    -- "never above the schema version", "never falling along the fields"
    pub since : word p (a + 1) ≤ version_at p
    pub rising : (i j : ℕ) → i ≤ j → j < many_fields → word p (fields_from + 7 * i + 5) ≤ word p (fields_from + 7 * j + 5)
    pub datas_here : (v : ℕ) → version_at p ≤ v → present v (data_sinces shape_at.datas) ≡ many_datas
    pub needs : (v : ℕ) → version_at p ≤ v → word p (a + 6) ≡ need v shape_at
    pub counts : word p (a + 7) ≡ own_counts (order_of (is_big p)) many_groups many_datas
    pub derived : (i : ℕ) → i < many_fields → Derived p (table_from + 6 * i) (field_at p (fields_from + 7 * i))

-- The n groups in a row at a, `depth` more levels being left.
unfoldable pub groups_at : List ℕ → ℕ → ℕ → ℕ → Groups
groups_at p zero zero a = none
groups_at p (suc depth) zero a = none
groups_at p zero (suc n) a = none
groups_at p (suc depth) (suc n) a =
    more (word p a) (word p (a + 1)) (shape_at p a) (groups_at p depth (many_groups p a) (groups_from p a))
    (groups_at p (suc depth) n (next_from p a))

-- They stand there.
unfoldable pub IsRow : List ℕ → ℕ → ℕ → ℕ → Type 0
IsRow p zero zero a = Unit {0}
IsRow p (suc depth) zero a = Unit {0}
IsRow p zero (suc n) a = ⊥
IsRow p (suc depth) (suc n) a =
    IsBlock p a × IsRow p depth (many_groups p a) (groups_from p a) × IsRow p (suc depth) n (next_from p a)

module _ (p : List ℕ) (depth a : ℕ) where
  -- The groups of the block at a.
  abbrev pub inner_at : Groups
  inner_at = groups_at p depth (many_groups p a) (groups_from p a)

  -- A block stands at a, with its groups, `depth` more levels being left.
  pub record BlockAt : Type 0 where
    pub block : IsBlock p a
    pub row : IsRow p depth (many_groups p a) (groups_from p a)

-- The first of the n groups at a: its block with its groups, the groups after it, and the tree that they are.
pub record Opened (p : List ℕ) (depth n a : ℕ) : Type 0 where
  pub deep : 0 < depth
  pub first : BlockAt p (depth - 1) a
  pub rest : IsRow p depth (n - 1) (next_from p a)
  pub tree : groups_at p depth n a
      ≡ more (word p a) (word p (a + 1)) (shape_at p a) (inner_at p (depth - 1) a)
      (groups_at p depth (n - 1) (next_from p a))

-- A field stands at f, and what was worked out of it at t.
pub record IsField (p : List ℕ) (f t : ℕ) : Type 0 where
  pub fits : f + 7 ≤ length p
  pub table_fits : t + 6 ≤ length p
  pub derived : Derived p t (field_at p f)

-- What an accepted book guarantees of its trees: their counts, their depth, their names, rule 5 and rule 6, and how
-- many numbers are prepared of it.
use Rattle.std.specs.Prelude.{◌≡◌, true, List, [], ◌∷◌, ℕ, zero, suc, ◌≤◌, ◌<◌, length}
use Rattle.layout.specs.Result.{Each}
use Rattle.layout.specs.Octets.{null16}
use Rattle.layout.specs.Lists.{NameList, find_names}
use Rattle.layout.specs.Book.{Book, Field, Groups, Shape, Template, data_sinces, field_sinces, more, none}
use Rattle.layout.specs.BookRules.{list_good, rising, shape_good}
use Rattle.prepared.specs.Numbers.{count, prepared_of, row_of}

-- ls are the book's lists: a field has the names that its list has among them.
abbrev pub IsNamed : List NameList → Field → Type 0
IsNamed ls f = f.names ≡ find_names f.list ls

pub record FitsShape (ls : List NameList) (version : ℕ) (s : Shape) (inner : Groups) : Type 0 where
  pub few_fields : length s.fields ≤ 64
  pub few_groups : count inner ≤ 16
  pub few_datas : length s.datas ≤ 16
  pub named : Each (IsNamed ls) s.fields
  pub good : shape_good s ≡ true
  pub sinces : rising version 0 (field_sinces s.fields) ≡ true
  pub data_since : Each (λ since. since ≤ version) (data_sinces s.datas)

-- Groups with `depth` more levels.
unfoldable pub Fits : List NameList → ℕ → ℕ → Groups → Type 0
Fits ls version depth none = Unit {0}
Fits ls version zero (more i since s inner rest) = ⊥
Fits ls version (suc depth) (more i since s inner rest) =
    (since ≤ version) × FitsShape ls version s inner × Fits ls version depth inner × Fits ls version (suc depth) rest

-- Templates with ids from `low` on.
unfoldable pub FitTemplates : List NameList → ℕ → ℕ → List Template → Type 0
FitTemplates ls version low [] = Unit {0}
FitTemplates ls version low (t ∷ ts) =
    (low ≤ t.id) × (t.id < null16) × Fits ls version 5 (row_of t) × FitTemplates ls version (suc t.id) ts

pub record FitsBook (b : Book) : Type 0 where
  pub schema : b.schema < null16
  pub version : b.version < null16
  pub few : length b.templates ≤ 64
  pub lists : Each (λ l. list_good l ≡ true) b.lists
  pub templates : FitTemplates b.lists b.version 0 b.templates
  pub short : length (prepared_of b) ≤ 8260

-- The element that a place ends with: whether the template has it, and what it is in an entry that was accepted.
use Rattle.std.specs.Prelude.{◌≡◌, List, [], ◌∷◌, ℕ, ◌≤◌, get_or, length, Option, None, Some}
use Rattle.layout.specs.Result.{Result, ◌>>=◌, done, when◌then◌else◌, refused}
use Rattle.layout.specs.Book.{need}
use Rattle.layout.specs.Message.{Entry, read_datas}
use Rattle.layout.specs.Reading.{has_place}
use Rattle.layout.specs.Values.{Step, Values, element_of, group_of}
use Rattle.layout.specs.declared.Answer.{Answer}
use Rattle.layout.specs.declared.Answer.TheVariants.{Absent}
use Rattle.layout.specs.declared.Element as Element
use Rattle.layout.specs.declared.Element.{Element}
use Rattle.prepared.specs.Positions.{BlockAt, many_datas, many_fields, many_groups, groups_from, inner_at, is_big, shape_at}
use Rattle.walk.specs.Walks.{entry_by, groups_by}
use Rattle.places.specs.Seeks.{row_after}
use Rattle.places.specs.declared.Spot.{Spot}

-- ---- whether the template has it

-- The number of the element, and how many of its kind the block at a has.
abbrev pub number_of : Element → ℕ
number_of (Element.TheVariants.Field k) = k
number_of (Element.TheVariants.Group k) = k
number_of (Element.TheVariants.Data k) = k

abbrev pub count_of : List ℕ → ℕ → Element → ℕ
count_of p a (Element.TheVariants.Field k) = many_fields p a
count_of p a (Element.TheVariants.Group k) = many_groups p a
count_of p a (Element.TheVariants.Data k) = many_datas p a

-- The block that steps lead to from the block at a.
unfoldable pub block_after : List ℕ → List Step → ℕ → ℕ
block_after p [] a = a
block_after p (s ∷ ps) a = block_after p ps (row_after p s.group (groups_from p a))

-- That block, if the block at a has the place.
abbrev pub block_for : List ℕ → ℕ → ℕ → List Step → Element → Option ℕ
block_for p depth a ps x =
    when has_place ps x (shape_at p a) (inner_at p depth a) then Some (block_after p ps a) else None

-- ---- what it is

-- It was not refused.
pub record Done {A : Type 0} (r : Result A) : Type 0 where
  pub value : A
  pub is : r ≡ done value

-- The groups of the block at a, which start at `at`, with n surplus ones; and then its data.
module _ (p : List ℕ) (depth a : ℕ) (m : List ℕ) (v : ℕ) where
  abbrev pub datas_read : ℕ → ℕ → Result (List Answer × ℕ)
  datas_read n at =
      groups_by p m v (inner_at p depth a) depth n at >>= λ g. read_datas (is_big p) m v (shape_at p a).datas 0 g.1

  -- An entry of the block at a that stands at the spot, without the surplus data that may follow it.
  abbrev pub entry_read : Spot → Result Entry
  entry_read e = entry_by p m v (shape_at p a) (inner_at p depth a) depth e.groups 0 e.length e.start

  -- It was accepted.
  pub record Accepted (e : Spot) : Type 0 where
    pub stands : BlockAt p depth a
    pub short : length m ≤ 65535
    pub enough : need v (shape_at p a) ≤ e.length
    pub few : e.groups ≤ 65535
    pub reads : Done (entry_read e)

unfoldable pub group_read : ℕ → Result (Values × ℕ) → Answer
group_read k (done r) = group_of k r.0
group_read k (refused n p) = Absent

unfoldable pub data_read : ℕ → Result (List Answer × ℕ) → Answer
data_read k (done r) = get_or r.0 k Absent
data_read k (refused n p) = Absent

unfoldable pub element_read : Element → Result Entry → Answer
element_read x (done e) = element_of x e.0 e.1 e.2
element_read x (refused n p) = Absent

-- The two halves of an answer: the spot that the walk along the path finds, and the element that is read there.
use mathlib.Core.Path.{◌∙◌, ◌≡◌, ap, refl, sym}
use mathlib.Core.Bool.{Bool, true}
use mathlib.Core.List.{List, [], ◌∷◌}
use Prim.Native.Nat.{ℕ, suc, ◌-◌, ◌≤◌, ◌<◌}
use native.Mathlib.Omega.{arith}
use lib.Dec.{leb}
use lib.ListN.{length}
use Rattle.std.specs.Prelude.{None, Option, Some}
use borrow.Author.Tests.{leb-false, leb-true}
use Rattle.layout.specs.Result.{Result, done, refused}
use Rattle.layout.specs.Book.{Groups, Shape, need}
use Rattle.layout.specs.Message.{Entry}
use Rattle.layout.specs.Reading.{group_has, has_element, has_place, steps_of}
use Rattle.layout.specs.Values.{Step, Values, answer_at, element_of, entry}
use Rattle.layout.specs.declared.Answer.{Answer}
use Rattle.layout.specs.declared.Element.{Element}
use Rattle.layout.proofs.Results.{each_way}
use Rattle.prepared.specs.Positions.{BlockAt, many_groups, inner_at, is_big, shape_at}
use Rattle.walk.specs.Walks.{entry_by, groups_by}
use Rattle.places.specs.Spots.{block_in, spot_in, step_spot}
use Rattle.places.specs.Seeks.{step_at, steps_from}
use Rattle.places.specs.Elements.{Accepted, Done, block_after, element_read, entry_read}
use Rattle.places.specs.declared.Spot.{Spot}
use Rattle.places.proofs.Blocks.{first_inside, has_inside, has_none}
use Rattle.places.proofs.Leads.{Leads, block_less, missing, row_leads, there}
use Rattle.places.proofs.Places.{opens, steps_next}
use Rattle.layout.specs.declared.Reason.TheVariants.{EntryMissing}

-- ---- the block that the steps lead to, where the template has the place

pub record BlockThere (p : List ℕ) (depth a : ℕ) (ps : List Step) (x : Element) : Type 0 where
  pub stands : BlockAt p (depth - length ps) (block_after p ps a)
  pub is : block_in ps (shape_at p a, inner_at p depth a)
      ≡ (shape_at p (block_after p ps a), inner_at p (depth - length ps) (block_after p ps a))
  pub has : has_element x (shape_at p (block_after p ps a)) (inner_at p (depth - length ps) (block_after p ps a)) ≡ true

has_group : (p : List ℕ) (depth a g : ℕ) (has : Shape → Groups → Bool) → group_has (inner_at p depth a) g has ≡ true
    → g < many_groups p a
has_group p depth a g has h =
    each_way (leb (many_groups p a) g)
    (λ e. let lacks = sym (has_none p depth a g has (leb-true (many_groups p a) g e)) ∙ h in cc)
    (leb-false (many_groups p a) g)

pub block_there : (p : List ℕ) (depth a : ℕ) → BlockAt p depth a → (ps : List Step) (x : Element)
    → has_place ps x (shape_at p a) (inner_at p depth a) ≡ true → BlockThere p depth a ps x
unfolding has_place block_after block_in
block_there p depth a stands [] x has =
    let q : depth - 0 ≡ depth = omega arith in
    record { stands = rw q stands; is = rw q refl; has = rw q has }
block_there p depth a stands (s ∷ ps) x has =
    let less = has_group p depth a s.group (has_place ps x) has in
    let q : depth - suc (length ps) ≡ depth - 1 - length ps = omega arith in
    let on = block_there p (depth - 1) _ (opens p depth a s.group stands less).first ps x
    (sym (has_inside p depth a s.group stands less (has_place ps x)) ∙ has) in
    record {
      stands = rw q on.stands;
      is = rw q (ap (block_in ps) (first_inside p depth a s.group stands less _) ∙ on.is);
      has = rw q on.has;
    }

-- ---- the answer

-- What `answer` is: that there is no such entry, and no spot; or what the element is in the entry at the spot, which was
-- accepted.
pub data Answers (p : List ℕ) (depth a : ℕ) (m : List ℕ) (v : ℕ) (spot : Option Spot) (x : Element)
    (answer : Result Answer) : Type 0 where
  lacks : spot ≡ None → answer ≡ refused EntryMissing 0 → Answers p depth a m v spot x answer
  stands : (s : Spot) → spot ≡ Some s → Accepted p depth a m v s
      → has_element x (shape_at p a) (inner_at p depth a) ≡ true
      → answer ≡ done (element_read x (entry_read p depth a m v s)) → Answers p depth a m v spot x answer

-- A path from a template's block whose groups were read, with n surplus ones, where the template has the place.
module _ (p : List ℕ) (root : ℕ) (block : BlockAt p 4 root) (m : List ℕ) (short : length m ≤ 65535) (v : ℕ)
    (path : List ℕ) (some : 2 ≤ length path) (x : Element)
    (has : has_place (steps_of path) x (shape_at p root) (inner_at p 4 root) ≡ true) where
  abbrev path_spot : ℕ → Option Spot
  path_spot at = step_spot p m v (step_at path 0) (spot_in p m v (steps_from path 2)) (inner_at p 4 root) 4 at

  by_leads : (ask : Element → Result Answer) (spot : Option Spot) → BlockThere p 4 root (steps_of path) x
      → Leads p m v (block_in (steps_of path) (shape_at p root, inner_at p 4 root)) (4 - length (steps_of path)) spot ask
      → Answers p (4 - length (steps_of path)) (block_after p (steps_of path) root) m v spot x (ask x)
  unfolding element_read
  by_leads ask spot b (missing z a) = lacks z (a x)
  by_leads ask spot b (there s at e enough few reads a) =
      let is = rw b.is at reads in
      let entry : Done _ = record { value = e; is = is } in
      let ok : Accepted _ _ _ _ _ _ =
      record { stands = b.stands; short = short; enough = rw b.is at enough; few = few; reads = entry } in
      stands s at ok b.has (a x ∙ rw is refl)

  pub path_answers : (n at : ℕ) (r : Values × ℕ) → groups_by p m v (inner_at p 4 root) 4 n at ≡ done r
      → (fs ds : List Answer) (rest : Values)
      → Answers p (4 - length (steps_of path)) (block_after p (steps_of path) root) m v (path_spot at) x
      (answer_at (steps_of path) x (entry fs r.0 ds rest))
  path_answers n at r h fs ds rest =
      let is : steps_of path ≡ step_at path 0 ∷ steps_from path 2 = steps_next path 0 some in
      by_leads (λ y. answer_at (steps_of path) y (entry fs r.0 ds rest)) (path_spot at)
      (block_there p 4 root block (steps_of path) x has)
      (rw is (row_leads p m v (shape_at p root, inner_at p 4 root) (step_at path 0) (steps_from path 2) 4 n at r h
      fs ds rest))

-- ---- without steps: an entry with k surplus data is the same without them

module _ (p : List ℕ) (depth a : ℕ) (block : BlockAt p depth a) (m : List ℕ) (short : length m ≤ 65535) (v : ℕ)
    (spot : Spot) (k : ℕ) (enough : need v (shape_at p a) ≤ spot.length) (few : spot.groups ≤ 65535) (e : Entry)
    (reads : entry_by p m v (shape_at p a) (inner_at p depth a) depth spot.groups k spot.length spot.start
    ≡ done e) where
  pub root_accepted : Accepted p depth a m v spot
  root_accepted =
      let less = block_less (is_big p) m v _ _ _ _ _ _ reads in
      record {
        stands = block;
        short = short;
        enough = enough;
        few = few;
        reads = record { value = _; is = less.reads };
      }

  pub root_answers : (x : Element) → element_read x (entry_read p depth a m v spot) ≡ element_of x e.0 e.1 e.2
  unfolding element_read
  root_answers x = rw (block_less (is_big p) m v _ _ _ _ _ _ reads).reads refl

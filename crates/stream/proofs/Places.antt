-- What the walk over a whole message says of a place in it.
use mathlib.Core.Path.{◌≡◌, ◌∙◌, ap, refl, sym}
use mathlib.Core.Bool.{Bool, false, true}
use mathlib.Core.List.{List, [], ◌∷◌}
use mathlib.Core.Logic.{◌⊎◌, inl, inr}
use Prim.Native.Nat.{ℕ, ◌-◌, ◌/◌, ◌%◌, ◌<◌, ◌≤◌}
use native.Mathlib.Omega.{arith}
use lib.Dec.{leb}
use lib.ListN.{length}
use borrow.Author.Tests.{le-leb, lt-leb}
use Rattle.std.specs.Prelude.{Err, MatchResult, None, Ok, Option, Some}
use Rattle.layout.specs.Result.{Result, ◌>>=◌, ◌and◌, done, when◌then◌else◌, must, refused}
use Rattle.layout.specs.Book.{Book, Template}
use Rattle.layout.specs.Operations.{Told, checked, found, refusal, told}
use Rattle.layout.specs.Message.{read_message, template_of}
use Rattle.layout.specs.Reading.{check_in, has_element, has_place, place_asked, place_in, steps_of, whole_steps}
use Rattle.layout.specs.Values.{Step, Values, answer_at, element_in, nil}
use Rattle.layout.specs.declared.Answer.{Answer}
use Rattle.layout.specs.declared.Element.{Element}
use Rattle.layout.specs.declared.Refusal.{Refusal}
use Rattle.layout.proofs.Results.{each_way, inv_bind}
use Rattle.prepared.specs.Positions.{inner_at, shape_at}
use Rattle.prepared.specs.Books.{book_at}
use Rattle.places.specs.Elements.{Accepted, block_after, block_for, element_read, entry_read}
use Rattle.places.specs.Spots.{spot_in}
use Rattle.places.specs.declared.Spot.{Spot}
use Rattle.places.specs.Seeks.{Path}
use Rattle.places.proofs.Answers.{Answers, lacks, path_answers, root_accepted, root_answers, stands}
use Rattle.places.proofs.Blocks.{steps_half, steps_many, steps_whole}
use Rattle.whole.specs.Wholes.{root_at, root_spot}
use Rattle.whole.proofs.Entries.{Enters}
use Rattle.stream.specs.Places.{no_place}
use Rattle.stream.proofs.Reading.{root_block_lem, root_found, tree_of}
use Rattle.layout.specs.declared.Reason.TheVariants.{EntryMissing, PlaceUnknown}

-- A message that is read has a template.
template_of_lem : (b : Book) (m : List ℕ) (r : Values) → read_message b m ≡ done r
    → (t : Template) × (template_of b m ≡ done t)
unfolding read_message
template_of_lem b m r e = let t = inv_bind _ _ _ (inv_bind _ _ _ e).next in (t.value, t.first)

-- Half a step is left over, or there are more than four: this is no place of any book, which is refused by 30, if the
-- message is accepted.
module _ (b : Book) (m steps : List ℕ) (x : Element) where
  abbrev IsNone : Type 0
  IsNone = (length steps % 2 ≡ 1) ⊎ ((length steps % 2 ≡ 1 → ⊥) × (8 < length steps))

  none_has : IsNone → (has : Bool) → (whole_steps steps and leb (length (steps_of steps)) 4 and has) ≡ false
  unfolding ◌and◌
  none_has (inl odd) has = rw (steps_half steps odd) refl
  none_has (inr (even, long)) has =
      let whole = steps_whole steps (omega (arith, even)) in
      rw (whole, lt-leb (length (steps_of steps)) 4 (omega (arith, steps_many steps))) refl

  pub nowhere : IsNone → found (place_in b m steps x) ≡ no_place (checked (check_in b m))
  nowhere none = go (read_message b m) refl
    where
      go : (r : Result Values) → read_message b m ≡ r → found (place_in b m steps x) ≡ no_place (checked (check_in b m))
      go (done r) e =
          let t = template_of_lem b m r e in
          unfold place_asked must told no_place ◌>>=◌ in rw (e, t.1, none_has none _) refl
      go (refused n q) e = unfold place_asked told no_place ◌>>=◌ in rw e refl

-- What `no_place` answers where a refusal is told as it is.
pub unknown : (answer : Told (Unit {0})) (r : Told Answer)
    → MatchResult answer (λ _. (z : Refusal) × (z ≡ refusal PlaceUnknown 0) × (r ≡ Err z)) (λ z. r ≡ Err z)
    → r ≡ no_place answer
unfolding no_place
unknown (Ok u) r m = m.2 ∙ ap Err m.1
unknown (Err z) r m = m

-- ---- whether the template has it

module _ {p m steps : List ℕ} {a v : ℕ} {k : Option ℕ} {s : Option Spot} (o : Enters p m steps a v k s) (path : Path steps 0) (x : Element) where
  abbrev ps : List Step
  ps = steps_of steps

  abbrev has : Bool
  has = has_place ps x (shape_at p a) (inner_at p 4 a)

  -- 30, or what is found.
  asked : place_in (book_at p) m steps x ≡ (must has PlaceUnknown 0 >>= λ _. answer_at ps x (tree_of o))
  unfolding place_asked ◌and◌ ◌>>=◌
  asked =
      let even : length steps % 2 ≡ 0 = omega (arith, path.even) in
      let few : length ps ≤ 4 = omega (arith, steps_many steps, path.few) in
      rw (o.read, o.opens.template, steps_whole steps even, le-leb (length ps) 4 few) refl

  pub place_lacks : None ≡ block_for p 4 a ps x → place_in (book_at p) m steps x ≡ refused PlaceUnknown 0
  unfolding must ◌>>=◌ when◌then◌else◌
  place_lacks h = asked ∙ each_way has (λ k. let none : ◌≡◌ {A = Option ℕ} None (Some _) = rw k at h in cc) (λ k. rw k refl)

  place_has : (b : ℕ) → Some b ≡ block_for p 4 a ps x
      → (place_in (book_at p) m steps x ≡ answer_at ps x (tree_of o)) × (b ≡ block_after p ps a) × (has ≡ true)
  unfolding must ◌>>=◌ when◌then◌else◌
  place_has b h =
      each_way has (λ k. let some : Some b ≡ Some _ = rw k at h in (asked ∙ rw k refl, cc, k))
      (λ k. let none : Some b ≡ None = rw k at h in cc)

-- ---- the element

-- Where the walk has found the entry that the steps lead to: what the code may ask of it, and that it is the answer.
pub record Stands (p : List ℕ) (depth b : ℕ) (m : List ℕ) (v : ℕ) (spot : Spot) (x : Element)
    (answer : Result Answer) : Type 0 where
  pub accepted : Accepted p depth b m v spot
  pub has : has_element x (shape_at p b) (inner_at p depth b) ≡ true
  pub is : answer ≡ done (element_read x (entry_read p depth b m v spot))

module _ {p : List ℕ} {depth b : ℕ} {m : List ℕ} {v : ℕ} {spot : Option Spot} {x : Element} {answer : Result Answer} where
  pub found_not : Answers p depth b m v spot x answer → spot ≡ None → answer ≡ refused EntryMissing 0
  found_not (lacks e h) z = h
  found_not (stands s e ok has is) z = cc

  pub stands_there : {s : Spot} → Answers p depth b m v spot x answer → spot ≡ Some s → Stands p depth b m v s x answer
  stands_there (lacks e h) z = cc
  stands_there {s} (stands t e ok has is) z = let q : s ≡ t = cc in rw q (record { accepted = ok; has = has; is = is })

-- The root block itself.
at_root : {p m : List ℕ} {a v : ℕ} {k : Option ℕ} {s : Option Spot} (o : Enters p m [] a v k s) (x : Element)
    → has_place [] x (shape_at p a) (inner_at p 4 a) ≡ true
    → Answers p 4 a m v s x (answer_at [] x (tree_of o))
unfolding has_place answer_at element_in
at_root {p} {m} {a} {v} o x h =
    let r = root_block_lem o in
    let l = o.opens in
    let root = root_spot o.long o.surplus in
    let ok = root_accepted p 4 a l.block m l.lent.short v root o.over l.enough l.few r.block r.is_block in
    let same = root_answers p 4 a l.block m l.lent.short v root o.over l.enough l.few r.block r.is_block x in
    let is = ap (λ (t : Values). element_in x t) (sym r.tree_is) ∙ ap done (sym same) in
    stands root (root_found o) ok h is

-- An entry of a group.
at_path : {p m : List ℕ} (g e : ℕ) (rest : List ℕ) {a v : ℕ} {k : Option ℕ} {s : Option Spot} (o : Enters p m (g ∷ e ∷ rest) a v k s) (x : Element)
    → let ps = steps_of (g ∷ e ∷ rest) in
    has_place ps x (shape_at p a) (inner_at p 4 a) ≡ true
    → Answers p (4 - length ps) (block_after p ps a) m v s x (answer_at ps x (tree_of o))
unfolding root_at spot_in steps_of
at_path {p} {m} g e rest {a} {v} o x h =
    rw o.spot
    (path_answers p a o.opens.block m o.opens.lent.short v (g ∷ e ∷ rest) (omega arith) x h o.surplus _
    (o.groups, o.end) (inv_bind _ _ _ o.root).next _ o.datas nil)

sought_root : {p m : List ℕ} {a v : ℕ} {k : Option ℕ} {s : Option Spot} (o : Enters p m [] a v k s) (x : Element) → Path [] 0
    → (b : ℕ) → Some b ≡ block_for p 4 a (steps_of []) x
    → Answers p 4 b m v s x (place_in (book_at p) m [] x)
unfolding block_after steps_of
sought_root o x path b is = let h = place_has o path x b is in rw (h.0, h.1) (at_root o x h.2)

sought_on : {p m : List ℕ} (g e : ℕ) (rest : List ℕ) {a v : ℕ} {k : Option ℕ} {s : Option Spot} (o : Enters p m (g ∷ e ∷ rest) a v k s) (x : Element)
    → let steps = g ∷ e ∷ rest in
    Path steps 0 → (b : ℕ) → Some b ≡ block_for p 4 a (steps_of steps) x
    → Answers p (4 - length steps / 2) b m v s x (place_in (book_at p) m steps x)
sought_on g e rest o x path b is =
    let steps = g ∷ e ∷ rest in
    let h = place_has o path x b is in
    let half : 4 - length steps / 2 ≡ 4 - length (steps_of steps) = omega (arith, steps_many steps, path.even) in
    rw (half, h.0, h.1) (at_path g e rest o x h.2)

pub sought : {p m : List ℕ} (steps : List ℕ) {a v : ℕ} {k : Option ℕ} {s : Option Spot} (o : Enters p m steps a v k s) (x : Element) → Path steps 0
    → (b : ℕ) → Some b ≡ block_for p 4 a (steps_of steps) x
    → Answers p (4 - length steps / 2) b m v s x (place_in (book_at p) m steps x)
sought [] o x path b is = sought_root o x path b is
sought (g ∷ []) o x path b is = absurd (omega (arith, path.even))
sought (g ∷ e ∷ rest) o x path b is = sought_on g e rest o x path b is

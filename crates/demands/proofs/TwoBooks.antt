-- Demand 3: what an older book makes of a message that a newer book, its legal extension, accepts.
use mathlib.Core.Path.{◌∙◌, ◌≡◌, refl, subst, sym}
use mathlib.Core.Bool.{Bool, false, false≢true, true}
use mathlib.Core.List.{List, [], ◌∷◌}
use mathlib.Core.Option.{some}
use Prim.Native.Nat.{◌<◌, ◌≤◌, suc, zero, ℕ}
use native.Mathlib.Omega.{arith}
use lib.Dec.{leb}
use lib.ListN.{length, length-append}
use borrow.Author.Tests.{lt-ltb, ltb-true}
use Rattle.layout.specs.Result.{Result, ◌>>=◌, ◌and◌, done, must, or_refuse, refused}
use Rattle.layout.specs.Book.{Book, Field, Format, Groups, Shape, Template, data_sinces, find_template, group_sinces}
use Rattle.layout.specs.Book.{more, none}
use Rattle.layout.specs.BookRules.{book_of}
use Rattle.layout.specs.Values.{Step, Values, answer_at, entry, nil}
use Rattle.layout.specs.Message.{block_length, data_count, depth_limit, group_count, header_size, read_message, read_root}
use Rattle.layout.specs.Message.{read_whole, surplus_of, template_id, version_of}
use Rattle.layout.specs.Reading.{check_of, group_has, has_element, has_place, place_asked}
use Rattle.layout.specs.Extension.{Extends, ExtendsFields, ExtendsGroups, ExtendsShape, StandsIn}
use Rattle.layout.specs.Lists.{beside}
use Rattle.layout.specs.Demands.{names_at}
use Rattle.demands.proofs.Beside.{kept_block, sees_block, sees_groups}
use Rattle.demands.proofs.Kept.{kept, kept_answer, seen}
use Rattle.demands.proofs.Needs.{count_beside, grown_datas, grown_groups, need_extends}
use Rattle.demands.proofs.Sees.{Sees, seen_done, sees_bind, sees_done, sees_leb, sees_must, sees_same, sees_then}
use Rattle.layout.proofs.Accepted.{accepted, found_holds}
use Rattle.layout.proofs.Present.{GoodGroups, GoodShape, groups_in_lem, writable}
use Rattle.layout.proofs.Results.{bind_assoc, bind_done, inv_bind, inv_must}
use Rattle.layout.specs.declared.Element.{Element}
use Rattle.layout.specs.declared.Element as Element
use Rattle.layout.specs.declared.Reason.{Reason}
use Rattle.layout.specs.declared.Reason.TheVariants.{PlaceUnknown}

-- ---- the root

sees_equal : {A B : Type 0} (strict : Bool) (f : A → B) {x x' : Result B} {y y' : Result A} → x ≡ x' → y ≡ y'
    → Sees strict f x y → Sees strict f x' y'
sees_equal strict f ex ey s = rw (sym ex, sym ey) s

-- Three tests, a value, and what comes of it.
three_tests : {A B : Type 0} (a b c : Bool) (n₁ n₂ n₃ : Reason) (p₁ p₂ p₃ : ℕ) (x : A) (k : A → Result B)
    → (must a n₁ p₁ >>= λ _. must b n₂ p₂ >>= λ _. must c n₃ p₃ >>= λ _. k x)
    ≡ ((must a n₁ p₁ >>= λ _. must b n₂ p₂ >>= λ _. must c n₃ p₃ >>= λ _. done x) >>= k)
unfolding must ◌>>=◌
three_tests false b c n₁ n₂ n₃ p₁ p₂ p₃ x k = refl
three_tests true false c n₁ n₂ n₃ p₁ p₂ p₃ x k = refl
three_tests true true false n₁ n₂ n₃ p₁ p₂ p₃ x k = refl
three_tests true true true n₁ n₂ n₃ p₁ p₂ p₃ x k = refl

module _ (format : Format) (vo vn : ℕ) (newer : vo < vn) (old : Template) (news : List Template) (m : List ℕ)
    (strict : Bool) (x : StandsIn vo format old news)
    (shape : GoodShape vo old.shape) (groups : GoodGroups vo depth_limit old.groups)
    (shape' : GoodShape vn x.newer.shape) (groups' : GoodGroups vn depth_limit x.newer.groups)
    (early : strict ≡ true → version_of format.big m ≤ vo) where
  sees_root : Sees strict (kept old.shape old.groups) (read_root format vo old m) (read_root format vn x.newer m)
  unfolding read_root surplus_of read_whole kept
  sees_root =
      let big = format.big in
      let v = version_of big m in
      let new = x.newer in
      let counted = count_beside true vo vn v (group_sinces old.groups) (group_sinces new.groups) (group_count big m)
      newer (groups_in_lem vo depth_limit old.groups groups)
      (grown_groups v vo format true old.groups new.groups x.groups) in
      let datas = count_beside true vo vn v (data_sinces old.shape.datas) (data_sinces new.shape.datas)
      (data_count big m) newer shape.datas_in
      (grown_datas v vo format true old.shape new.shape x.shape) in
      sees_equal strict _ (three_tests _ _ _ _ _ _ _ _ _ _ (read_whole format vo old m))
      (three_tests _ _ _ _ _ _ _ _ _ _ (read_whole format vn new m))
      (sees_bind strict (λ (u : Unit {0}). u) _ _ _ _ _
      (sees_leb strict _ _ _ _ _ (need_extends v vo strict new.shape.length old.shape.fields
      new.shape.fields x.shape.fields shape'.fields early)) λ _.
      sees_then strict (λ (u : Unit {0}). u) _ _ _ _ _
      (sees_must strict _ _ _ _ counted.older (λ e. counted.same (early e))) λ _ cg.
      sees_then strict (λ (u : Unit {0}). u) _ _ _ _ _
      (sees_must strict _ _ _ _ datas.older (λ e. datas.same (early e))) λ _ cd.
      sees_bind strict (kept_block old.shape old.groups) _ _ _ _ _
      (sees_block big m v strict vo old.shape new.shape old.groups _ _ _ _ (block_length big m) header_size
      x.shape.fields x.shape.datas (datas.whole (inv_must _ _ _ _ cd)) λ y.
      sees_groups format vo vn newer m v strict early true old.groups new.groups old.shape depth_limit _ _ y
      x.groups groups groups' (counted.whole (inv_must _ _ _ _ cg))) λ b.
      sees_bind strict (λ (u : Unit {0}). u) _ _ _ _ _ (sees_same strict _) λ _.
      sees_done strict _ (entry b.0 b.1 b.2 nil) _ refl)

-- ---- every place that the older book has, the newer has

module _ (limit : ℕ) (format : Format) where
  groups_longer : (grows : Bool) (old new : Groups) → ExtendsGroups limit format grows old new
      → length (group_sinces old) ≤ length (group_sinces new)
  unfolding ExtendsGroups group_sinces
  groups_longer grows none new x = omega arith
  groups_longer grows (more i since s inner rest) none x = absurd x
  groups_longer grows (more i since s inner rest) (more i' since' s' inner' rest') x =
      omega (arith, groups_longer grows rest rest' x.rest)

  fields_longer : (old new : List Field) → ExtendsFields limit old new → length old ≤ length new
  unfolding ExtendsFields
  fields_longer [] new x = omega arith
  fields_longer (f ∷ fs) [] x = absurd x
  fields_longer (f ∷ fs) (f' ∷ fs') x = omega (arith, fields_longer fs fs' x.1)

  has_element_lem : (grows wide : Bool) (x : Element) (s s' : Shape) (gs gs' : Groups)
      → ExtendsShape limit format wide s s' → ExtendsGroups limit format grows gs gs'
      → has_element x s gs ≡ true → has_element x s' gs' ≡ true
  unfolding has_element
  has_element_lem grows wide (Element.TheVariants.Field k) s s' gs gs' a b h =
      lt-ltb k _ (omega (arith, ltb-true k _ h, fields_longer s.fields s'.fields a.fields))
  has_element_lem grows wide (Element.TheVariants.Group k) s s' gs gs' a b h =
      lt-ltb k _ (omega (arith, ltb-true k _ h, groups_longer grows gs gs' b))
  has_element_lem grows wide (Element.TheVariants.Data k) s s' gs gs' a b h =
      rw (a.datas.first, length-append s.datas a.datas.added) (lt-ltb k _ (omega (arith, ltb-true k _ h)))

  has_group : (grows : Bool) (gs gs' : Groups) (g : ℕ) (k : Shape → Groups → Bool)
      → ExtendsGroups limit format grows gs gs'
      → ((s s' : Shape) (i i' : Groups) → ExtendsShape limit format format.in_groups s s'
      → ExtendsGroups limit format format.in_groups i i' → k s i ≡ true → k s' i' ≡ true)
      → group_has gs g k ≡ true → group_has gs' g k ≡ true
  unfolding group_has ExtendsGroups
  has_group grows none gs' g k x ih h = absurd (false≢true h)
  has_group grows (more i since s inner rest) none g k x ih h = absurd x
  has_group grows (more i since s inner rest) (more i' since' s' inner' rest') zero k x ih h =
      ih s s' inner inner' x.shape x.inner h
  has_group grows (more i since s inner rest) (more i' since' s' inner' rest') (suc g) k x ih h =
      has_group grows rest rest' g k x.rest ih h

  has_place_lem : (p : List Step) (x : Element) (grows wide : Bool) (s s' : Shape) (gs gs' : Groups)
      → ExtendsShape limit format wide s s' → ExtendsGroups limit format grows gs gs'
      → has_place p x s gs ≡ true → has_place p x s' gs' ≡ true
  unfolding has_place
  has_place_lem [] x grows wide s s' gs gs' a b h = has_element_lem grows wide x s s' gs gs' a b h
  has_place_lem (q ∷ p) x grows wide s s' gs gs' a b h =
      has_group grows gs gs' q.group (has_place p x) b
      (λ t t' i i' y z. has_place_lem p x format.in_groups format.in_groups t t' i i' y z) h

-- ---- the message

verdicts : {A B : Type 0} (f : A → B) (x : Result B) (y : Result A) → Sees true f x y
    → (x >>= λ _. done (tt {0})) ≡ (y >>= λ _. done (tt {0}))
unfolding Sees ◌>>=◌
verdicts f x (done a) h = rw h refl
verdicts f x (refused n p) h = rw h refl

module _ (o n : List ℕ) (old new : Book) (ao : book_of o ≡ done old) (an : book_of n ≡ done new) (x : Extends old new)
    (m : List ℕ) (t : Template) (e : find_template (template_id old.format.big m) old.templates ≡ some t) where
  abbrev id : ℕ
  id = template_id old.format.big m

  stands : (t.id ≡ id) × StandsIn old.version old.format t new.templates
  stands = found_holds _ old.templates x.templates id t e

  newer : Template
  newer = stands.1.newer

  there : find_template id new.templates ≡ some newer
  unfolding newer
  there = rw (← stands.0) stands.1.there

  -- "A legal extension keeps the order": the newer book reads the same id.
  found : find_template (template_id new.format.big m) new.templates ≡ some newer
  found = subst (λ (f : Format). find_template (template_id f.big m) new.templates ≡ some newer) x.format there

  sees_message : (strict : Bool) → (strict ≡ true → version_of old.format.big m ≤ old.version)
      → Sees strict (kept t.shape t.groups) (read_message old m) (read_message new m)
  unfolding read_message or_refuse newer
  sees_message strict h =
      let w = writable old t (accepted o old id t ao e).1 in
      let w' = writable new newer (accepted n new id newer an there).1 in
      rw (x.schema, ← x.format, e, there, bind_done, bind_done)
      (sees_bind strict (λ (u : Unit {0}). u) _ _ _ _ _ (sees_same strict _) λ _.
      sees_root old.format old.version new.version x.version t new.templates m strict stands.1
      w.shape w.groups w'.shape w'.groups h)

  older_reads : (r : Values) → read_message new m ≡ done r → read_message old m ≡ done (kept t.shape t.groups r)
  older_reads r q = seen_done false _ _ _ r (sees_message false λ z. absurd (false≢true z)) q

  -- What a message that the newer book accepts is read as.
  newer_reads : check_of n m ≡ done tt → (r : Values) × (read_message new m ≡ done r)
  unfolding check_of
  newer_reads a =
      let p = inv_bind _ _ _ (sym (bind_done new _) ∙ rw an at a) in
      (p.value, p.first)

  pub accepts_too : check_of n m ≡ done tt → check_of o m ≡ done tt
  unfolding check_of ◌>>=◌
  accepts_too a =
      let r = newer_reads a in
      rw (ao, older_reads r.0 r.1) refl

  pub seen_answer : check_of n m ≡ done tt → (whole : Bool) (p : List Step) (y : Element)
      → has_place p y t.shape t.groups ≡ true
      → (book_of o >>= λ b. place_asked b m whole p y)
      ≡ seen (names_at p y t.shape t.groups) (book_of n >>= λ b. place_asked b m whole p y)
  unfolding place_asked or_refuse ◌>>=◌ newer
  seen_answer a whole p y h =
      let s = stands.1 in
      let r = newer_reads a in
      let has = has_place_lem old.version old.format p y true true t.shape newer.shape t.groups
      newer.groups s.shape s.groups h in
      rw (ao, an, older_reads r.0 r.1, r.1, e, found, h, has, kept_answer p y t.shape t.groups r.0 h)
      (sym (bind_assoc (must (whole and leb (length p) 4 and true) PlaceUnknown 0) (λ _. answer_at p y r.0)
      (λ z. done (beside (names_at p y t.shape t.groups) z))))

  pub same_verdict : version_of old.format.big m ≤ old.version → check_of o m ≡ check_of n m
  unfolding check_of
  same_verdict h = rw (ao, an, bind_done, bind_done) (verdicts _ _ _ (sees_message true λ _. h))

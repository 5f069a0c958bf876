-- That the definitions and theorems speak of something: B extends A, and D, whose dimensions have counts, extends C;
-- near misses do not; M could have been written with A; and the readings that look right are shut out.
use mathlib.Core.Path.{◌≡◌, ap, refl, subst, sym}
use mathlib.Core.Bool.{Bool, false, false≢true, true}
use mathlib.Core.List.{List, [], ◌++◌, ◌∷◌, map}
use Prim.Native.Nat.{◌<◌, ◌^◌, suc, zero, ℕ}
use native.Mathlib.Omega.{arith}
use lib.Dec.{eqb, ltb}
use lib.ListN.{drop, get_or, length, take}
use borrow.Author.Tests.{eq-eqb, ltb-true}
use Rattle.layout.specs.Result.{Each, ◌and◌, ◌or◌, done, when◌then◌else◌, refused}
use Rattle.layout.specs.Octets.{AllOctets, Numbers64}
use Rattle.layout.specs.Lists.{KeepsNames, NameList, Names, is_one_of, names_of, no_names}
use Rattle.layout.specs.Book.{Book, Data, Field, Format, Groups, Shape, Template, data_sinces, field_sinces}
use Rattle.layout.specs.Book.{find_template, group_sinces, more, none}
use Rattle.layout.specs.BookRules.{book_of}
use Rattle.layout.specs.Values.{Values, entry, group, listing, nil}
use Rattle.layout.specs.Message.{read_message}
use Rattle.layout.specs.Reading.{list_of}
use Rattle.layout.specs.Writing.{write_of}
use Rattle.layout.specs.Extension.{AddedGroups, AddsDatas, AddsGroups, AllAbove, Extends, ExtendsFields}
use Rattle.layout.specs.Extension.{ExtendsGroups, ExtendsShape}
use Rattle.layout.specs.All.{all}
use Rattle.layout.specs.Cases.{Row, ◌says◌, answer, big_a, big_m, book_a, book_b, book_few, book_many, book_t, listed}
use Rattle.layout.specs.Cases.{message_m, message_t, minus5, with16, words}
use Rattle.layout.specs.Demands.{AllSound, AsWritten, OtherWay, OwnBlocks, Sound, ZeroPadding, contents, kept}
use Rattle.layout.specs.Demands.{reordered, row, turned}
use Rattle.layout.proofs.ListLaws.{or_either}
use Rattle.layout.proofs.Results.{and_left, and_right}
use Rattle.layout.specs.declared.Answer.TheVariants.{Group, Null, Number, Octets, Unlisted}
use Rattle.layout.specs.declared.Reason.TheVariants.{BookHead, BookSince, DimensionNull, GroupBlockShort, GroupCountsWrong, GroupTooDeep, OctetsWrong, PastTheEnd, RecordWrong, ValueWrong}

-- ---- A and B as trees

-- A field's seventh word and the names that it leads to: none, or those of a list.
abbrev Seventh : Type 0
Seventh = ℕ × Names

abbrev no_list : Seventh
no_list = (0, no_names)

abbrev of_list : NameList → Seventh
of_list l = (suc l.id, names_of l)

abbrev field38 : Seventh → Field
field38 w = record { id = 38; type = 6; length = 1; offset = 0; presence = 0; since = 0; list = w.0; names = w.1 }

abbrev first38 : Field
first38 = field38 no_list

abbrev second44 : Field
second44 = record { id = 44; type = 3; length = 1; offset = 4; presence = 1; since = 0; list = 0; names = no_names }

abbrev data58 : Data
data58 = record { id = 58; since = 0 }

abbrev field452 : Seventh → Field
field452 w = record { id = 452; type = 2; length = 1; offset = 0; presence = 0; since = 0; list = w.0; names = w.1 }

-- A's root block and groups with these seventh words of fields 38 and 452, and with additions: fields and data of the
-- root block, fields of the group's block, and root groups.
abbrev root_with : Seventh → List Field → List Data → Shape
root_with w fs ds = record { length = 8; fields = field38 w ∷ second44 ∷ fs; datas = data58 ∷ ds }

abbrev block_with : Seventh → List Field → Shape
block_with w fs = record { length = 2; fields = field452 w ∷ fs; datas = [] }

abbrev groups_with : Seventh → List Field → Groups → Groups
groups_with w fs gs = more 453 0 (block_with w fs) none gs

abbrev pub template_a : Template
template_a = record { id = 1; shape = root_with no_list [] []; groups = groups_with no_list [] none }

-- The formats: whether big-endian, and whether dimensions have four numbers.
abbrev pub little : Format
little = record { big = false; in_groups = false }

abbrev big : Format
big = record { big = true; in_groups = false }

abbrev four : Format
four = record { big = false; in_groups = true }

-- A book whose only template has this root block and these groups.
abbrev pub single : Format → ℕ → List NameList → Shape → Groups → Book
single format version ls s gs =
    record {
      schema = 7;
      version = version;
      format = format;
      lists = ls;
      templates = record { id = 1; shape = s; groups = gs } ∷ [];
    }

abbrev pub tree_a : Book
tree_a = single little 0 [] template_a.shape template_a.groups

-- What B adds.
abbrev field45 : Field
field45 = record { id = 45; type = 2; length = 1; offset = 6; presence = 0; since = 1; list = 0; names = no_names }

abbrev shape454 : Shape
shape454 = record {
  length = 4;
  fields = record { id = 455; type = 6; length = 1; offset = 0; presence = 0; since = 1; list = 0; names = no_names }
      ∷ [];
  datas = [];
}

-- A at version 1 with additions.
abbrev grown : List Field → List Data → List Field → Groups → Book
grown fs ds fs' gs = single little 1 [] (root_with no_list fs ds) (groups_with no_list fs' gs)

abbrev pub tree_b : Book
tree_b = grown (field45 ∷ []) [] [] (more 454 1 shape454 none none)

pub a_is : book_of book_a ≡ done tree_a
unfolding all
a_is = refl

pub b_is : book_of book_b ≡ done tree_b
unfolding all
b_is = refl

-- A with lists, as trees.
abbrev tree_l : ℕ → NameList → NameList → Book
tree_l version flags codes =
    single little version (flags ∷ codes ∷ []) (root_with (of_list flags) [] []) (groups_with (of_list codes) [] none)

abbrev flags_of : List ℕ → NameList
flags_of ns = record { id = 2; kind = 1; numbers = ns }

abbrev codes_of : List ℕ → NameList
codes_of ns = record { id = 9; kind = 0; numbers = ns }

abbrev pub tree_few : Book
tree_few = tree_l 0 (flags_of (3 ∷ 5 ∷ 6 ∷ 7 ∷ 8 ∷ [])) (codes_of (1 ∷ []))

abbrev pub template_few : Template
template_few = get_or tree_few.templates 0 template_a

abbrev pub tree_many : Book
tree_many = tree_l 1 (flags_of (3 ∷ 4 ∷ 5 ∷ 6 ∷ 7 ∷ 8 ∷ 9 ∷ [])) (codes_of (1 ∷ 2 ∷ 3 ∷ []))

pub few_is : book_of book_few ≡ done tree_few
unfolding all
few_is = refl

pub many_is : book_of book_many ≡ done tree_many
unfolding all
many_is = refl

-- ---- B extends A, as does whatever adds young elements where they may be added, and numbers to lists

-- What it is that such a book extends another.
record Extended (format : Format) (s s' : Shape) (gs gs' : Groups) : Type 0 where
  shape : ExtendsShape 0 format true s s'
  groups : ExtendsGroups 0 format true gs gs'

extends : {format : Format} {ls ls' : List NameList} {s s' : Shape} {gs gs' : Groups} → Extended format s s' gs gs'
    → Extends (single format 0 ls s gs) (single format 1 ls' s' gs')
unfolding Each find_template when◌then◌else◌
extends {format} {ls' = ls'} {s' = s'} {gs' = gs'} x =
    record {
      schema = refl;
      version = omega arith;
      format = refl;
      templates = (
        record {
          newer = get_or (single format 1 ls' s' gs').templates 0 template_a;
          there = refl;
          shape = x.shape;
          groups = x.groups;
        },
        tt,
      );
    }

grows : {A : Type 0} → true ≡ false → A
grows e = absurd (false≢true (sym e))

keeps_none : KeepsNames no_names no_names
unfolding Each
keeps_none = record { same_kind = refl; numbers = tt }

grown_extended : (w w' : ℕ) (flags flags' codes codes' : Names)
    (fs : List Field) (ds : List Data) (fs' : List Field) (gs : Groups)
    → KeepsNames flags flags'
    → KeepsNames codes codes'
    → AllAbove 0 (field_sinces fs)
    → AllAbove 0 (data_sinces ds)
    → AllAbove 0 (field_sinces fs')
    → AddedGroups 0 little gs
    → Extended little (root_with (w, flags) [] []) (root_with (w, flags') fs ds) (groups_with (w', codes) [] none)
    (groups_with (w', codes') fs' gs)
unfolding Each AddsGroups ExtendsFields ExtendsGroups
grown_extended w w' flags flags' codes codes' fs ds fs' gs keepsFlags keepsCodes youngFields youngDatas youngInside
    youngGroups =
    record {
      shape = record {
        longer = omega arith;
        fields = (
          record { words = refl; names = keepsFlags },
          (record { words = refl; names = keeps_none }, youngFields),
        );
        datas = record { added = ds; first = refl; young = youngDatas };
        shut = grows;
      };
      groups = record {
        same_id = refl;
        same_since = refl;
        shape = record {
          longer = omega arith;
          fields = (record { words = refl; names = keepsCodes }, youngInside);
          datas = record { added = []; first = refl; young = tt };
          shut = λ e. refl;
        };
        inner = refl;
        rest = youngGroups;
      };
    }

pub grown_extends_a : (fs : List Field) (ds : List Data) (fs' : List Field) (gs : Groups)
    → AllAbove 0 (field_sinces fs)
    → AllAbove 0 (data_sinces ds)
    → AllAbove 0 (field_sinces fs')
    → AddedGroups 0 little gs
    → Extends tree_a (grown fs ds fs' gs)
grown_extends_a fs ds fs' gs youngFields youngDatas youngInside youngGroups =
    extends (grown_extended _ _ _ _ _ _ fs ds fs' gs keeps_none keeps_none youngFields youngDatas youngInside
    youngGroups)

pub b_extends_a : Extends tree_a tree_b
unfolding Each AddedGroups
b_extends_a =
    grown_extends_a _ _ _ _ (omega arith, tt) tt tt
    (record { young = omega arith; no_groups = λ e. refl; no_datas = λ e. refl }, tt)

lists_extend : (flags flags' codes codes' : List ℕ)
    → Each (λ n. is_one_of n flags' ≡ true) flags
    → Each (λ n. is_one_of n codes' ≡ true) codes
    → Extends (tree_l 0 (flags_of flags) (codes_of codes)) (tree_l 1 (flags_of flags') (codes_of codes'))
unfolding Each AddedGroups
lists_extend flags flags' codes codes' a b =
    extends (grown_extended _ _ _ _ _ _ [] [] [] none (record { same_kind = refl; numbers = a })
    (record { same_kind = refl; numbers = b }) tt tt tt tt)

pub many_extends_few : Extends tree_few tree_many
unfolding Each is_one_of ◌or◌
many_extends_few = lists_extend _ _ _ _ (refl, (refl, (refl, (refl, (refl, tt))))) (refl, tt)

or_more : (a b : Bool) → b ≡ true → (a or b) ≡ true
unfolding ◌or◌
or_more true b h = refl
or_more false b h = h

each_one_of : (ns ns' : List ℕ) → ((x : ℕ) → is_one_of x ns ≡ true → is_one_of x ns' ≡ true)
    → Each (λ n. is_one_of n ns' ≡ true) ns
unfolding Each is_one_of ◌or◌
each_one_of [] ns' h = tt
each_one_of (n ∷ ns) ns' h = (h n (rw (eq-eqb n n refl) refl), each_one_of ns ns' (λ x q. h x (or_more (eqb x n) _ q)))

one_of_gained : (before after : List ℕ) (n x : ℕ) → is_one_of x (before ++ after) ≡ true
    → is_one_of x (before ++ (n ∷ after)) ≡ true
unfolding is_one_of
one_of_gained [] after n x h = or_more (eqb x n) _ h
one_of_gained (k ∷ before) after n x h = or_either (eqb x k) _ _ h (one_of_gained before after n x)

-- "to which more may be added", anywhere in the rising order
pub gained_numbers_extend : (before after before' after' : List ℕ) (n n' : ℕ)
    → Extends (tree_l 0 (flags_of (before ++ after)) (codes_of (before' ++ after')))
    (tree_l 1 (flags_of (before ++ (n ∷ after))) (codes_of (before' ++ (n' ∷ after'))))
gained_numbers_extend before after before' after' n n' =
    lists_extend _ _ _ _ (each_one_of _ _ (one_of_gained before after n))
    (each_one_of _ _ (one_of_gained before' after' n'))

-- ---- near misses: for each rule trees that break it and no other. They are trees of accepted books, but for those
-- that the rules of since shut out anyway.

extended : {format : Format} {ls ls' : List NameList} {s s' : Shape} {gs gs' : Groups}
    → Extends (single format 0 ls s gs) (single format 1 ls' s' gs')
    → Extended format s s' gs gs'
unfolding Each find_template when◌then◌else◌
extended {format} {ls' = ls'} {s = s} {s' = s'} {gs = gs} {gs' = gs'} x =
    let t = x.templates.0 in
    let q : t.newer ≡ get_or (single format 1 ls' s' gs').templates 0 template_a = cc in
    record {
      shape = subst (λ (y : Template). ExtendsShape 0 format true s y.shape) q t.shape;
      groups = subst (λ (y : Template). ExtendsGroups 0 format true gs y.groups) q t.groups;
    }

-- Another root block over A's groups, and other groups under A's root block.
abbrev rooted : ℕ → List Field → List Data → Book
rooted l fs ds = single little 1 [] (record { length = l; fields = fs; datas = ds }) template_a.groups

abbrev grouped : Groups → Book
grouped gs = single little 1 [] template_a.shape gs

-- "the schema id is equal"
pub other_schema : ¬ Extends tree_a
    (record { schema = 8; version = 1; format = little; lists = []; templates = tree_a.templates })
other_schema x = omega (arith, x.schema)

-- "its version is greater"
pub same_version : ¬ Extends tree_a tree_a
same_version x = omega (arith, x.version)

-- "A legal extension keeps the order", and "keeps the number" of a dimension's numbers
pub other_order_lem : ¬ Extends tree_a
    (record { schema = 7; version = 1; format = big; lists = []; templates = tree_b.templates })
other_order_lem x = false≢true (ap (λ (f : Format). f.big) x.format)

pub other_dimensions : ¬ Extends tree_a
    (record { schema = 7; version = 1; format = four; lists = []; templates = tree_b.templates })
other_dimensions x = false≢true (ap (λ (f : Format). f.in_groups) x.format)

-- "each older template stands in it": the second of two is missing
abbrev template2 : Template
template2 = record { id = 2; shape = template_a.shape; groups = none }

pub missing_template : ¬ Extends
    (record { schema = 7; version = 0; format = little; lists = []; templates = template_a ∷ template2 ∷ [] })
    (record { schema = 7; version = 1; format = little; lists = []; templates = template_a ∷ [] })
unfolding Each find_template when◌then◌else◌
missing_template x =
    let there = x.templates.1.0.there in
    let z : ◌≡◌ {A = ℕ} 0 1 = cc in
    omega arith

-- "declared length no smaller"
pub shorter_block : ¬ Extends tree_a (rooted 7 (first38 ∷ second44 ∷ []) (data58 ∷ []))
shorter_block x = omega (arith, (extended x).shape.longer)

-- "older fields come first", "an older field's seven words": another offset, a field dropped, and one added in front,
-- by which sinces fall
abbrev moved44 : Field
moved44 = record { id = 44; type = 3; length = 1; offset = 5; presence = 1; since = 0; list = 0; names = no_names }

pub changed_word : ¬ Extends tree_a (rooted 8 (first38 ∷ moved44 ∷ []) (data58 ∷ []))
unfolding ExtendsFields
changed_word x = omega (arith, ap (λ (f : Field). f.offset) (extended x).shape.fields.1.0.words)

pub dropped_field : ¬ Extends tree_a (rooted 8 (first38 ∷ []) (data58 ∷ []))
unfolding ExtendsFields
dropped_field x = (extended x).shape.fields.1

pub field_in_front : ¬ Extends tree_a (rooted 8 (field45 ∷ first38 ∷ second44 ∷ []) (data58 ∷ []))
unfolding ExtendsFields
field_in_front x = omega (arith, ap (λ (f : Field). f.id) (extended x).shape.fields.0.words)

-- the seventh word: a list for a field that had none, and another list of the same kind and numbers
pub given_list : ¬ Extends tree_a (single little 1 (flags_of (3 ∷ []) ∷ []) (root_with (of_list (flags_of (3 ∷ []))) [] [])
    template_a.groups)
unfolding ExtendsFields
given_list x = omega (arith, ap (λ (f : Field). f.list) (extended x).shape.fields.0.words)

pub other_list : ¬ Extends (tree_l 0 (flags_of (3 ∷ [])) (codes_of (1 ∷ [])))
    (tree_l 1 (record { id = 3; kind = 1; numbers = 3 ∷ [] }) (codes_of (1 ∷ [])))
unfolding ExtendsFields
other_list x = omega (arith, ap (λ (f : Field). f.list) (extended x).shape.fields.0.words)

-- "its list's kind and numbers": a number lost, one changed for another, and an enumeration that becomes a set
pub lost_number : ¬ Extends (tree_l 0 (flags_of (3 ∷ 5 ∷ [])) (codes_of (1 ∷ [])))
    (tree_l 1 (flags_of (3 ∷ [])) (codes_of (1 ∷ [])))
unfolding Each ExtendsFields is_one_of ◌or◌
lost_number x = false≢true (extended x).shape.fields.0.names.numbers.1.0

pub changed_number : ¬ Extends (tree_l 0 (flags_of (3 ∷ 5 ∷ [])) (codes_of (1 ∷ [])))
    (tree_l 1 (flags_of (3 ∷ 6 ∷ [])) (codes_of (1 ∷ [])))
unfolding Each ExtendsFields is_one_of ◌or◌
changed_number x = false≢true (extended x).shape.fields.0.names.numbers.1.0

pub other_kind : ¬ Extends (tree_l 0 (flags_of (3 ∷ [])) (codes_of (1 ∷ [])))
    (tree_l 1 (flags_of (3 ∷ [])) (record { id = 9; kind = 1; numbers = 1 ∷ [] }))
unfolding ExtendsFields ExtendsGroups when◌then◌else◌
other_kind x =
    let same = (extended x).groups.shape.fields.0.names.same_kind in
    let z : ◌≡◌ {A = ℕ} 0 1 = cc in
    omega arith

-- "older data likewise": another id, data dropped, and data added in front, by which sinces fall
abbrev data59 : ℕ → Data
data59 since = record { id = 59; since = since }

pub changed_data : ¬ Extends tree_a (rooted 8 (first38 ∷ second44 ∷ []) (data59 0 ∷ []))
changed_data x = omega (arith, ap (λ (y : List Data). (get_or y 0 data58).id) (extended x).shape.datas.first)

pub dropped_data : ¬ Extends tree_a (rooted 8 (first38 ∷ second44 ∷ []) [])
dropped_data x = omega (arith, ap length (extended x).shape.datas.first)

pub data_in_front : ¬ Extends tree_a (rooted 8 (first38 ∷ second44 ∷ []) (data59 1 ∷ data58 ∷ []))
data_in_front x = omega (arith, ap (λ (y : List Data). (get_or y 0 data58).id) (extended x).shape.datas.first)

-- "older groups come first with equal id and since": a group dropped, another id, and another since, which its first
-- field has not
pub dropped_group : ¬ Extends tree_a (grouped none)
unfolding ExtendsGroups
dropped_group x = (extended x).groups

pub other_group_id : ¬ Extends tree_a (grouped (more 454 0 (block_with no_list []) none none))
unfolding ExtendsGroups
other_group_id x = omega (arith, (extended x).groups.same_id)

pub other_group_since : ¬ Extends tree_a (grouped (more 453 1 (block_with no_list []) none none))
unfolding ExtendsGroups
other_group_since x = omega (arith, (extended x).groups.same_since)

-- "their blocks extended in turn": a shorter length, and another field
abbrev field456 : Field
field456 = record { id = 456; type = 2; length = 1; offset = 1; presence = 0; since = 0; list = 0; names = no_names }

pub shorter_inside : ¬ Extends tree_a
    (grouped (more 453 0 (record { length = 1; fields = field452 no_list ∷ []; datas = [] }) none none))
unfolding ExtendsGroups
shorter_inside x = omega (arith, (extended x).groups.shape.longer)

pub changed_inside : ¬ Extends tree_a
    (grouped (more 453 0 (record { length = 2; fields = field456 ∷ []; datas = [] }) none none))
unfolding ExtendsFields ExtendsGroups
changed_inside x = omega (arith, ap (λ (f : Field). f.id) (extended x).groups.shape.fields.0.words)

-- "every added element's since is above the older version"
abbrev early45 : Field
early45 = record { id = 45; type = 2; length = 1; offset = 6; presence = 0; since = 0; list = 0; names = no_names }

pub early_field : ¬ Extends tree_a (grown (early45 ∷ []) [] [] none)
unfolding Each ExtendsFields
early_field x = omega (arith, (extended x).shape.fields.1.1.0)

never_early : {old new : List Data} (d : AddsDatas 0 old new) → d.added ≡ data59 0 ∷ [] → ⊥
unfolding Each
never_early d added = omega (arith, (subst (λ (y : List Data). AllAbove 0 (data_sinces y)) added d.young).0)

pub early_data : ¬ Extends tree_a (grown [] (data59 0 ∷ []) [] none)
early_data x =
    let d = (extended x).shape.datas in
    never_early d (cc)

pub early_inside : ¬ Extends tree_a (grown [] [] (field456 ∷ []) none)
unfolding Each ExtendsFields ExtendsGroups
early_inside x = omega (arith, (extended x).groups.shape.fields.1.0)

pub early_group : ¬ Extends tree_a (grown [] [] [] (more 454 0 (block_with no_list []) none none))
unfolding ExtendsGroups AddsGroups AddedGroups
early_group x = omega (arith, (extended x).groups.rest.0.young)

-- "Inside groups only fields may be added": young data, and a young group, though all inside has the group's since
pub data_inside : ¬ Extends tree_a
    (grouped (more 453 0 (record { length = 2; fields = field452 no_list ∷ []; datas = data59 1 ∷ [] }) none none))
unfolding ExtendsGroups
data_inside x =
    let d = (extended x).groups.shape in
    omega (arith, ap length d.datas.first, ap length (d.shut refl))

pub group_inside : ¬ Extends tree_a
    (grouped (more 453 0 (block_with no_list []) (more 454 1 shape454 none none) none))
unfolding ExtendsGroups AddsGroups group_sinces
group_inside x = omega (arith, ap (λ (y : Groups). length (group_sinces y)) (extended x).groups.inner)

-- "An added root group has no groups and no data": a group in it, and data in the second of two
pub nested_group : ¬ Extends tree_a (grown [] [] [] (more 454 1 shape454 (more 456 1 shape454 none none) none))
unfolding ExtendsGroups AddsGroups AddedGroups group_sinces
nested_group x = omega (arith, ap (λ (y : Groups). length (group_sinces y)) ((extended x).groups.rest.0.no_groups refl))

abbrev shape457 : Shape
shape457 = record { length = 4; fields = shape454.fields; datas = data59 1 ∷ [] }

pub group_with_data : ¬ Extends tree_a (grown [] [] [] (more 454 1 shape454 none (more 457 1 shape457 none none)))
unfolding ExtendsGroups AddsGroups AddedGroups
group_with_data x = omega (arith, ap length ((extended x).groups.rest.1.0.no_datas refl))

-- ---- C and D, whose dimensions have four numbers

-- C: a field, and a group of one field.
abbrev pub book_c : List ℕ
book_c =
    words
    (7 ∷ 0 ∷ 1 ∷ 34 ∷ 0 ∷ 0 ∷ 4
    ∷ 1 ∷ 10 ∷ 24
    ∷ 1 ∷ 1 ∷ 1 ∷ 0
    ∷ 38 ∷ 2 ∷ 1 ∷ 0 ∷ 0 ∷ 0 ∷ 0
    ∷ 10 ∷ 0 ∷ 1 ∷ 1 ∷ 0 ∷ 0 ∷ 39 ∷ 2 ∷ 1 ∷ 0 ∷ 0 ∷ 0 ∷ 0
    ∷ [])

-- D extends C at version 1: the group gains data, and a group of one field.
abbrev pub book_d : List ℕ
book_d =
    words
    (7 ∷ 1 ∷ 1 ∷ 49 ∷ 0 ∷ 0 ∷ 4
    ∷ 1 ∷ 10 ∷ 39
    ∷ 1 ∷ 1 ∷ 1 ∷ 0
    ∷ 38 ∷ 2 ∷ 1 ∷ 0 ∷ 0 ∷ 0 ∷ 0
    ∷ 10 ∷ 0 ∷ 1 ∷ 1 ∷ 1 ∷ 1 ∷ 39 ∷ 2 ∷ 1 ∷ 0 ∷ 0 ∷ 0 ∷ 0
    ∷ 59 ∷ 1
    ∷ 11 ∷ 1 ∷ 1 ∷ 1 ∷ 0 ∷ 0 ∷ 40 ∷ 2 ∷ 1 ∷ 0 ∷ 0 ∷ 1 ∷ 0
    ∷ [])

-- A message of version 1 with 5 in its root block, before these octets; and a group of one entry 7 that counts so many
-- groups and data, before these octets.
abbrev five : List ℕ → List ℕ
five m = words (1 ∷ 1 ∷ 7 ∷ 1 ∷ 1 ∷ 0 ∷ []) ++ (5 ∷ m)

abbrev seven : ℕ → ℕ → List ℕ → List ℕ
seven groups datas m = words (1 ∷ 1 ∷ groups ∷ datas ∷ []) ++ (7 ∷ m)

-- D's message: in the entry 7 two entries 8 and 9, and the data ab.
abbrev pub message_d : List ℕ
message_d = five (seven 1 1 (words (1 ∷ 2 ∷ 0 ∷ 0 ∷ []) ++ (8 ∷ 9 ∷ 2 ∷ 0 ∷ 0x61 ∷ 0x62 ∷ [])))

-- One of another extension of C, where the entries 8 and 9 have data.
abbrev pub message_e : List ℕ
message_e = five (seven 1 0 (words (1 ∷ 2 ∷ 0 ∷ 1 ∷ []) ++ (8 ∷ 1 ∷ 0 ∷ 0x61 ∷ 9 ∷ 0 ∷ 0 ∷ [])))

-- Groups down to depth three in entries that each count one, before these octets.
abbrev deep : List ℕ → List ℕ
deep m = five (seven 1 0 (seven 1 0 (seven 1 0 m)))

unfoldable pub counted_table : List Row
counted_table =
    (listed book_d message_d says
    done (0 ∷ 5 ∷ 0 ∷ 4 ∷ 1 ∷ 0 ∷ 0 ∷ 7 ∷ 0 ∷ 4 ∷ 2 ∷ 0 ∷ 0 ∷ 8 ∷ 0 ∷ 0 ∷ 9 ∷ 0 ∷ 2 ∷ 34 ∷ 2 ∷ []))
    -- "surplus groups are skipped depth first by their own counts"
    ∷ (listed book_c message_d says done (0 ∷ 5 ∷ 0 ∷ 4 ∷ 1 ∷ 0 ∷ 0 ∷ 7 ∷ 0 ∷ []))
    ∷ (listed book_c message_e says done (0 ∷ 5 ∷ 0 ∷ 4 ∷ 1 ∷ 0 ∷ 0 ∷ 7 ∷ 0 ∷ []))
    ∷ (listed book_c (take 35 message_d) says refused PastTheEnd 32)
    ∷ (listed book_c (take 31 message_d) says refused PastTheEnd 22)
    -- "17 covers all four numbers"
    ∷ (listed book_c (with16 message_d 17 65535) says refused DimensionNull 13)
    ∷ (listed book_c (with16 message_d 19 65535) says refused DimensionNull 13)
    ∷ (listed book_c (with16 message_d 26 65535) says refused DimensionNull 22)
    -- "the header's rule on counts holds for every known group, empty or not", "after 18": version 0 with D's counts
    ∷ (listed book_c (with16 (with16 message_d 6 0) 19 0) says refused GroupCountsWrong 13)
    ∷ (listed book_c (with16 (with16 message_d 6 0) 17 0) says refused GroupCountsWrong 13)
    ∷ (listed book_c (with16 (with16 message_d 6 0) 15 0) says refused GroupCountsWrong 13)
    ∷ (listed book_c (with16 (with16 message_d 6 0) 13 0) says refused GroupBlockShort 13)
    -- "22 for any group on the wire below depth four", after its 16 and 17: one at depth four may count groups
    ∷ (listed book_c (deep (words (1 ∷ 0 ∷ 1 ∷ 0 ∷ []))) says done (0 ∷ 5 ∷ 0 ∷ 4 ∷ 1 ∷ 0 ∷ 0 ∷ 7 ∷ 0 ∷ []))
    ∷ (listed book_c (deep (seven 1 0 (seven 0 0 []))) says refused GroupTooDeep 49)
    ∷ (listed book_c (deep (seven 1 0 (1 ∷ []))) says refused PastTheEnd 49)
    -- "2 also for a word other than 2 and 4"; only with four data and groups inside a group may be younger than it
    ∷ (listed (with16 book_c 12 3) message_d says refused BookHead 0)
    ∷ (listed (with16 book_d 12 2) message_d says refused BookSince 0)
    ∷ []

pub counts_hold : map (λ (r : Row). answer r.case) counted_table ≡ map (λ (r : Row). r.says) counted_table
unfolding all counted_table
counts_hold = refl

-- A field of one octet with this id and since, and a block of it.
abbrev byte : ℕ → ℕ → Field
byte id since =
    record { id = id; type = 2; length = 1; offset = 0; presence = 0; since = since; list = 0; names = no_names }

abbrev octet : ℕ → ℕ → List Data → Shape
octet id since ds = record { length = 1; fields = byte id since ∷ []; datas = ds }

abbrev pub tree_c : Book
tree_c = single four 0 [] (octet 38 0 []) (more 10 0 (octet 39 0 []) none none)

-- C at version 1 with additions: data and groups inside the group, and root groups.
abbrev grown_c : List Data → Groups → Groups → Book
grown_c ds inner gs = single four 1 [] (octet 38 0 []) (more 10 0 (octet 39 0 ds) inner gs)

abbrev pub template_c : Template
template_c = get_or tree_c.templates 0 template_a

abbrev pub tree_d : Book
tree_d = grown_c (data59 1 ∷ []) (more 11 1 (octet 40 1 []) none none) none

abbrev pub template_d : Template
template_d = get_or tree_d.templates 0 template_a

pub c_is : book_of book_c ≡ done tree_c
unfolding all
c_is = refl

pub d_is : book_of book_d ≡ done tree_d
unfolding all
d_is = refl

-- "a legal extension .. may add groups, nested ones too, and data at the end of any block's lists"
octet_grown : (id since : ℕ) (ds : List Data) → AllAbove 0 (data_sinces ds)
    → ExtendsShape 0 four true (octet id since []) (octet id since ds)
unfolding Each ExtendsFields
octet_grown id since ds young =
    record {
      longer = omega arith;
      fields = (record { words = refl; names = keeps_none }, tt);
      datas = record { added = ds; first = refl; young = young };
      shut = grows;
    }

pub grown_extends_c : (ds : List Data) (inner gs : Groups) → AllAbove 0 (data_sinces ds)
    → AddedGroups 0 four inner
    → AddedGroups 0 four gs
    → Extends tree_c (grown_c ds inner gs)
unfolding Each AddsGroups ExtendsGroups
grown_extends_c ds inner gs youngDatas youngInner youngGroups =
    extends (record {
      shape = octet_grown 38 0 [] tt;
      groups = record {
        same_id = refl;
        same_since = refl;
        shape = octet_grown 39 0 ds youngDatas;
        inner = youngInner;
        rest = youngGroups;
      };
    })

pub d_extends_c : Extends tree_c tree_d
unfolding Each AddedGroups
d_extends_c =
    grown_extends_c _ _ _ (omega arith, tt)
    (record { young = omega arith; no_groups = λ e. refl; no_datas = λ e. refl }, tt) tt

-- So may an added group have groups and data.
pub rich_group : (s : Shape) (inner : Groups) → Extends tree_c (grown_c [] none (more 12 1 s inner none))
unfolding Each AddedGroups
rich_group s inner = grown_extends_c _ _ _ tt tt (record { young = omega arith; no_groups = grows; no_datas = grows }, tt)

-- Near misses: data and a group inside that are not young.
pub early_data_inside : ¬ Extends tree_c (grown_c (data59 0 ∷ []) none none)
unfolding ExtendsGroups
early_data_inside x =
    let d = (extended x).groups.shape.datas in
    never_early d (cc)

pub early_group_inside : ¬ Extends tree_c (grown_c [] (more 11 0 (octet 40 0 []) none none) none)
unfolding ExtendsGroups AddsGroups AddedGroups
early_group_inside x = omega (arith, (extended x).groups.inner.0.young)

-- ---- M could have been written with A, and is written back

unfoldable below : ℕ → List ℕ → Bool
below k [] = true
below k (x ∷ s) = ltb x k and below k s

all_below : (k : ℕ) (s : List ℕ) → 0 < k → below k s ≡ true → (i : ℕ) → get_or s i 0 < k
unfolding below
all_below k [] z h i = z
all_below k (x ∷ s) z h zero = ltb-true x k (and_left _ _ h)
all_below k (x ∷ s) z h (suc i) = all_below k s z (and_right _ _ h) i

pub m_octets : AllOctets message_m
unfolding all below
m_octets = all_below 256 message_m (omega arith) refl

unfoldable pub values_m : Values
values_m =
    entry (Number 1000 ∷ Number minus5 ∷ [])
    (group (Group 2) (entry (Number 1 ∷ []) nil [] (entry (Number 3 ∷ []) nil [] nil)) nil)
    (Octets 30 2 ∷ []) nil

pub m_numbers : Numbers64 (listing values_m)
unfolding all values_m below
m_numbers = all_below (2 ^ 64) (listing values_m) (omega arith) refl

pub m_is : read_message tree_a message_m ≡ done values_m
unfolding all values_m
m_is = refl

no_text : {A : Type 0} → false ≡ true → A
no_text e = absurd (false≢true e)

pub m_as_written : AsWritten tree_a template_a message_m values_m
unfolding all values_m Each ZeroPadding OwnBlocks Sound AllSound
m_as_written =
    record {
      version = refl;
      length = refl;
      blocks = (
        (refl, (refl, refl)),
        (no_text, (no_text, tt)),
        (refl, ((refl, refl), (no_text, tt), tt, ((refl, refl), (no_text, tt), tt, tt)), tt),
        tt,
      );
      sound = ((tt, (tt, tt)), (((tt, tt), tt, ((tt, tt), tt, tt)), tt), tt);
    }

pub m_written_back : write_of book_a 1 (listing values_m) message_m 32 ≡ done message_m
unfolding all values_m
m_written_back = refl

-- Its numbers are written with lists that have them, at that book's version; not with a list that lacks a bit of 1000;
-- and neither is the record of kind 6 that 1000 is read as.
pub listed_written : write_of book_many 1 (listing values_m) message_m 32 ≡ done (with16 message_m 6 1)
unfolding all values_m
listed_written = refl

pub unlisted_not_written : write_of book_few 1 (listing values_m) message_m 32 ≡ refused ValueWrong 0
unfolding all values_m
unlisted_not_written = refl

unfoldable pub values_few : Values
values_few =
    entry (Unlisted 1000 ∷ Number minus5 ∷ [])
    (group (Group 2) (entry (Number 1 ∷ []) nil [] (entry (Unlisted 3 ∷ []) nil [] nil)) nil)
    (Octets 30 2 ∷ []) nil

pub few_reads : read_message tree_few message_m ≡ done values_few
unfolding all values_few
few_reads = refl

pub unlisted_not_as_written : ¬ AsWritten tree_few template_few message_m values_few
unfolding values_few Each Sound AllSound
unlisted_not_as_written a = a.sound.0.0

pub kind_6_not_written : write_of book_few 1 (6 ∷ 1000 ∷ 0 ∷ []) message_m 32 ≡ refused RecordWrong 0
unfolding all
kind_6_not_written = refl

-- So could D's message with D, and is written back.
pub message_d_octets : AllOctets message_d
unfolding all below
message_d_octets = all_below 256 message_d (omega arith) refl

unfoldable pub values_d : Values
values_d =
    entry (Number 5 ∷ [])
    (group (Group 1)
    (entry (Number 7 ∷ []) (group (Group 2) (entry (Number 8 ∷ []) nil [] (entry (Number 9 ∷ []) nil [] nil)) nil)
    (Octets 34 2 ∷ []) nil)
    nil)
    [] nil

pub message_d_numbers : Numbers64 (listing values_d)
unfolding all values_d below
message_d_numbers = all_below (2 ^ 64) (listing values_d) (omega arith) refl

pub message_d_is : read_message tree_d message_d ≡ done values_d
unfolding all values_d
message_d_is = refl

pub message_d_as_written : AsWritten tree_d template_d message_d values_d
unfolding all values_d Each ZeroPadding OwnBlocks Sound AllSound
message_d_as_written =
    record {
      version = refl;
      length = refl;
      blocks = (
        (refl, refl),
        (no_text, tt),
        (
          refl,
          (
            (refl, refl),
            (no_text, tt),
            (refl, ((refl, refl), (no_text, tt), tt, ((refl, refl), (no_text, tt), tt, tt)), tt),
            tt,
          ),
          tt,
        ),
        tt,
      );
      sound = ((tt, tt), (((tt, tt), (((tt, tt), tt, ((tt, tt), tt, tt)), tt), tt), tt), tt);
    }

-- "The written length has 8 per group record."
pub message_d_written_back : write_of book_d 1 (listing values_d) message_d 36 ≡ done message_d
unfolding all values_d
message_d_written_back = refl

-- ---- text

-- "B" in the first text and nothing in the second, with an octet x after the first's NUL.
abbrev text_b : ℕ → List ℕ
text_b x = message_t (0x42 ∷ 0 ∷ x ∷ 0 ∷ 0 ∷ 0 ∷ 0 ∷ 0 ∷ [])

abbrev text_field : ℕ → ℕ → ℕ → Field
text_field id offset presence =
    record {
      id = id;
      type = 0;
      length = 4;
      offset = offset;
      presence = presence;
      since = 0;
      list = 0;
      names = no_names;
    }

abbrev template_t : Template
template_t =
    record {
      id = 1;
      shape = record { length = 8; fields = text_field 55 0 0 ∷ text_field 65 4 1 ∷ []; datas = [] };
      groups = none;
    }

abbrev tree_t : Book
tree_t = record { schema = 7; version = 0; format = little; lists = []; templates = template_t ∷ [] }

pub t_is : book_of book_t ≡ done tree_t
unfolding all
t_is = refl

unfoldable pub values_t : Values
values_t = entry (Octets 12 1 ∷ Null ∷ []) nil [] nil

-- What follows the NUL is skipped, and is not written back.
pub text_is : (x : ℕ) → read_message tree_t (text_b x) ≡ done values_t
unfolding all values_t
text_is x = refl

pub text_written_back : write_of book_t 1 (listing values_t) (text_b 7) 20 ≡ done (text_b 0)
unfolding all values_t
text_written_back = refl

pub text_as_written : AsWritten tree_t template_t (text_b 0) values_t
unfolding all values_t Each ZeroPadding OwnBlocks Sound AllSound
text_as_written =
    record {
      version = refl;
      length = refl;
      blocks = ((refl, (refl, refl)), ((λ e. refl), ((λ e. refl), tt)), tt, tt);
      sound = ((tt, (tt, tt)), tt, tt);
    }

pub tail_not_as_written : ¬ AsWritten tree_t template_t (text_b 7) values_t
unfolding all values_t Each OwnBlocks
tail_not_as_written a = omega (arith, ap (λ (s : List ℕ). get_or s 1 0) (a.blocks.1.0 refl))

-- "53 for a text longer than its field, with a NUL in it, or empty for an optional field, which now takes null; 52 for
-- null in a required one".
pub text_too_long : write_of book_t 1 (2 ∷ 0 ∷ 5 ∷ []) (0x41 ∷ 0x42 ∷ 0x43 ∷ 0x44 ∷ 0x45 ∷ []) 20 ≡ refused OctetsWrong 0
unfolding all
text_too_long = refl

pub text_with_nul : write_of book_t 1 (2 ∷ 0 ∷ 2 ∷ []) (0x41 ∷ 0 ∷ []) 20 ≡ refused OctetsWrong 0
unfolding all
text_with_nul = refl

pub text_empty : write_of book_t 1 (2 ∷ 0 ∷ 0 ∷ 2 ∷ 0 ∷ 0 ∷ []) [] 20 ≡ refused OctetsWrong 1
unfolding all
text_empty = refl

pub text_null : write_of book_t 1 (1 ∷ 0 ∷ 0 ∷ []) [] 20 ≡ refused ValueWrong 0
unfolding all
text_null = refl

-- So is M turned, with A of big-endian messages.
abbrev pub big_tree_a : Book
big_tree_a = record { schema = 7; version = 0; format = big; lists = []; templates = template_a ∷ [] }

pub big_a_is : book_of big_a ≡ done big_tree_a
unfolding all
big_a_is = refl

pub big_m_is : read_message big_tree_a big_m ≡ done values_m
unfolding all values_m
big_m_is = refl

-- A of big-endian messages is A with the other order word, and M's numbers are turned, and nothing else.
pub a_reordered : reordered book_a ≡ big_a
a_reordered = refl

pub m_turned : OtherWay tree_a message_m values_m big_m
unfolding all values_m contents
m_turned =
    record {
      runs = row (turned 0 2 refl) (row (turned 2 2 refl) (row (turned 4 2 refl) (row (turned 6 2 refl)
          (row (turned 8 2 refl) (row (turned 10 2 refl)
          (row (turned 12 4 refl) (row (turned 16 2 refl) (row (kept 18 2)
          (row (turned 20 2 refl) (row (turned 22 2 refl) (row (kept 24 4)
          (row (turned 28 2 refl) (kept 30 2)))))))))))));
      template = refl;
      reads = refl;
      octets = refl;
    }

pub big_m_written : write_of big_a 1 (listing values_m) message_m 32 ≡ done big_m
unfolding all values_m
big_m_written = refl

-- ---- "Readings that look right": two of the worked cases shut out the first and the third, and these the others

-- "Stepping by the declared block length and not by the wire's": entries of three octets where A declares two.
abbrev wide_entries : List ℕ
wide_entries = take 20 message_m ++ (3 ∷ 0 ∷ 2 ∷ 0 ∷ 1 ∷ 0 ∷ 9 ∷ 3 ∷ 0 ∷ 9 ∷ []) ++ drop 28 message_m

-- "Stopping at a dimension with zero entries before its four octets are passed."
abbrev no_entries : List ℕ
no_entries = take 20 message_m ++ (2 ∷ 0 ∷ 0 ∷ 0 ∷ []) ++ drop 28 message_m

pub wire_length_steps : list_of book_a wide_entries 6000
    ≡ done (6, 0 ∷ 1000 ∷ 0 ∷ 0 ∷ minus5 ∷ 0 ∷ 4 ∷ 2 ∷ 0 ∷ 0 ∷ 1 ∷ 0 ∷ 0 ∷ 3 ∷ 0 ∷ 2 ∷ 32 ∷ 2 ∷ [])
unfolding all
wire_length_steps = refl

pub empty_group_is_passed : list_of book_a no_entries 6000
    ≡ done (4, 0 ∷ 1000 ∷ 0 ∷ 0 ∷ minus5 ∷ 0 ∷ 4 ∷ 0 ∷ 0 ∷ 2 ∷ 26 ∷ 2 ∷ [])
unfolding all
empty_group_is_passed = refl

-- "A newer book extends an older one when ..": legal extension, a relation with named parts.
use Rattle.std.specs.Prelude.{◌≡◌, Bool, false, true, List, [], ◌∷◌, ◌++◌, ◌<◌, ◌≤◌, ℕ}
use Rattle.std.proofs.Math.Option.{some}
use Rattle.layout.specs.Result.{Each}
use Rattle.layout.specs.Lists.{KeepsNames}
use Rattle.layout.specs.Book.{Book, Data, Field, Groups, Shape, Template, data_sinces, field_sinces, find_template}
use Rattle.layout.specs.Book.{more, none, with_names, Format}

-- "A legal extension keeps an older field's seven words and its list's kind and numbers, to which more may be added."
pub record KeepsField (old new : Field) : Type 0 where
  pub words : new ≡ with_names old new.names
  pub names : KeepsNames old.names new.names

-- `limit` is the older version.
module _ (limit : ℕ) where
  -- "every added element's since is above the older version"
  abbrev pub AllAbove : List ℕ → Type 0
  AllAbove sinces = Each (λ since. limit < since) sinces

  -- "older fields come first", each kept
  unfoldable pub ExtendsFields : List Field → List Field → Type 0
  ExtendsFields [] new = AllAbove (field_sinces new)
  ExtendsFields (f ∷ fs) [] = ⊥
  ExtendsFields (f ∷ fs) (f' ∷ fs') = KeepsField f f' × ExtendsFields fs fs'

  -- "older data come first, both words equal"
  pub record AddsDatas (old new : List Data) : Type 0 where
    pub added : List Data
    pub first : new ≡ old ++ added
    pub young : AllAbove (data_sinces added)

-- `format` is that of both books.
module _ (limit : ℕ) (format : Format) where
  -- "Per block: declared length no smaller; ..". Data may be added only if the block `grows`: "Inside groups only
  -- fields may be added", unless dimensions have counts.
  pub record ExtendsShape (grows : Bool) (old new : Shape) : Type 0 where
    pub longer : old.length ≤ new.length
    pub fields : ExtendsFields limit old.fields new.fields
    pub datas : AddsDatas limit old.datas new.datas
    pub shut : grows ≡ false → datas.added ≡ []

  -- "An added root group has no groups and no data", unless dimensions have counts.
  pub record AddedGroup (since : ℕ) (s : Shape) (inner : Groups) : Type 0 where
    -- Its fields are young, too, where the newer book is accepted: by the rules of since (refusal 6) the first has the
    -- group's own since, and along fields sinces never fall.
    pub young : limit < since
    pub no_groups : format.in_groups ≡ false → inner ≡ none
    pub no_datas : format.in_groups ≡ false → s.datas ≡ []

  unfoldable pub AddedGroups : Groups → Type 0
  AddedGroups none = Unit {0}
  AddedGroups (more i since s inner rest) = AddedGroup since s inner × AddedGroups rest

  unfoldable pub AddsGroups : Bool → Groups → Type 0
  AddsGroups true new = AddedGroups new
  AddsGroups false new = new ≡ none

  -- "older groups come first with equal id and since, their blocks extended in turn": one pair of groups, Inner being
  -- said of their inner groups and Rest of the groups after them.
  pub record ExtendsGroup (id id' since since' : ℕ) (s s' : Shape) (Inner Rest : Type 0) : Type 0 where
    pub same_id : id ≡ id'
    pub same_since : since ≡ since'
    pub shape : ExtendsShape format.in_groups s s'
    pub inner : Inner
    pub rest : Rest

  -- Groups may be added at the end only if the block `grows`. Inside groups it does where dimensions have counts: an
  -- extension "may add groups, nested ones too, and data at the end of any block's lists".
  unfoldable pub ExtendsGroups : Bool → Groups → Groups → Type 0
  ExtendsGroups grows none new = AddsGroups grows new
  ExtendsGroups grows (more i since s inner rest) none = ⊥
  ExtendsGroups grows (more i since s inner rest) (more i' since' s' inner' rest') =
      ExtendsGroup i i' since since' s s' (ExtendsGroups format.in_groups inner inner')
      (ExtendsGroups grows rest rest')

  -- "each older template stands in it": under its id the newer book has a template that extends it.
  pub record StandsIn (old : Template) (news : List Template) : Type 0 where
    pub newer : Template
    pub there : find_template old.id news ≡ some newer
    pub shape : ExtendsShape true old.shape newer.shape
    pub groups : ExtendsGroups true old.groups newer.groups

-- "the schema id is equal, its version is greater, and each older template stands in it"; "a legal extension, which
-- keeps the number"; "templates that only the newer book has are free"; "A legal extension keeps the order"
pub record Extends (old new : Book) : Type 0 where
  pub schema : old.schema ≡ new.schema
  pub version : old.version < new.version
  pub format : old.format ≡ new.format
  pub templates : Each (λ t. StandsIn old.version old.format t new.templates) old.templates

-- The words in which demands 2 and 3 are said, what rule 7 is good for, and what the two orders have in common.
use Rattle.std.specs.Prelude.{◌≡◌, Bool, false, not, true, List, [], ◌++◌, ◌∷◌, map, reverse, ◌*◌, ◌+◌, ◌-◌, ◌<◌, ◌^◌, ◌≤◌, suc, zero, ℕ, eqb, drop, get_or, length, replicate, set, take, Ok, Err}
use Rattle.layout.specs.Result.{Each, ◌or◌, done, when◌then◌else◌}
use Rattle.layout.specs.Octets.{AllOctets, Numbers64, number16, text_length}
use Rattle.layout.specs.Types.{in_range, is_width, type_at}
use Rattle.layout.specs.Lists.{Names, beside, enumeration, has, no_names}
use Rattle.layout.specs.Book.{Book, Field, Groups, Shape, Template, end, is_array, is_optional, is_text, more, none}
use Rattle.layout.specs.BookRules.{least_length, length_kept, tree_of}
use Rattle.layout.specs.Values.{Step, Values, entry, group, listing, nil}
use Rattle.layout.specs.Message.{block_length, dimension_size, header_size, most_message, read_message, template_id}
use Rattle.layout.specs.Message.{version_of}
use Rattle.layout.specs.Writing.{judge_listing, message_octets, row_length, takes, write_of}
use Rattle.layout.specs.Operations.{AnswersPlace, Checks, Lists, Told}
use Rattle.layout.specs.declared.Element as Element
use Rattle.layout.specs.declared.Element.{Element}
use Rattle.layout.specs.declared.Answer.{Answer}
use Rattle.layout.specs.declared.Answer.TheVariants.{Number, Null, Octets, Absent, Group, OutOfRange, Unlisted}

-- ---- "What is written reads back with the same values"

-- "Round trips compare octets, not starts": the records of a listing, with the octets themselves for where they start
-- and how many they are.
unfoldable pub contents : List ℕ → List ℕ → List (List ℕ)
contents pool [] = []
contents pool (k ∷ []) = []
contents pool (k ∷ a ∷ []) = []
contents pool (k ∷ a ∷ b ∷ l) = (when eqb k 2 then k ∷ take b (drop a pool) else k ∷ a ∷ b ∷ []) ∷ contents pool l

-- ---- "what is read writes back to the same octets if it carries the book's own version and block lengths, has
-- zero padding and no value out of range"

-- The octets of m from a up to b are zero.
abbrev pub Zeros : List ℕ → ℕ → ℕ → Type 0
Zeros m a b = take (b - a) (drop a m) ≡ replicate (b - a) 0

-- So are those of the block of l octets at `at` that no field has, from the block's octet e on.
unfoldable pub ZeroPadding : List ℕ → ℕ → ℕ → ℕ → List Field → Type 0
ZeroPadding m at l e [] = Zeros m (at + e) (at + l)
ZeroPadding m at l e (f ∷ fs) = Zeros m (at + e) (at + f.offset) × ZeroPadding m at l (end f) fs

-- "Octets after the first NUL are skipped, so demand 2's writing back also asks that they be zero": those of the field
-- f of the block at `at`, if it is text.
abbrev pub ZeroTail : List ℕ → ℕ → Field → Type 0
ZeroTail m at f =
    let start = at + f.offset in
    is_text f ≡ true → Zeros m (start + text_length (take f.length (drop start m))) (start + f.length)

-- A row at `at` has the book's own block lengths, zero padding, and zeros after each text. Each entry or group
-- therefore starts where the ones before it end by the formula of the written length.
module _ (counted big : Bool) (m : List ℕ) where
  unfoldable pub OwnBlocks : Shape → Groups → ℕ → Values → Type 0
  OwnBlocks s gs at nil = Unit {0}
  OwnBlocks s gs at (entry fs g ds rest) =
      ZeroPadding m at s.length 0 s.fields
      × Each (ZeroTail m at) s.fields
      × OwnBlocks s gs (at + s.length) g
      × OwnBlocks s gs (at + row_length counted s gs (entry fs g ds nil)) rest
  OwnBlocks s none at (group a es rest) = Unit {0}
  OwnBlocks s (more i since sh inner gs) at (group a es rest) =
      (number16 big m at ≡ sh.length)
      × OwnBlocks sh inner (at + dimension_size counted) es
      × OwnBlocks s gs (at + dimension_size counted + row_length counted sh inner es) rest

-- "no value out of range", and "demand 2's writing back also asks for no kind 6".
unfoldable pub Sound : Answer → Type 0
Sound (Number x) = Unit {0}
Sound Null = Unit {0}
Sound (Octets start len) = Unit {0}
Sound Absent = Unit {0}
Sound (Group k) = Unit {0}
Sound (OutOfRange x) = ⊥
Sound (Unlisted x) = ⊥

unfoldable pub AllSound : Values → Type 0
AllSound nil = Unit {0}
AllSound (entry fs g ds rest) = Each Sound fs × AllSound g × AllSound rest
AllSound (group a es rest) = AllSound es × AllSound rest

-- The message m, read as r, could have been written with the book.
pub record AsWritten (b : Book) (t : Template) (m : List ℕ) (r : Values) : Type 0 where
  pub version : version_of b.format.big m ≡ b.version
  pub length : block_length b.format.big m ≡ t.shape.length
  pub blocks : OwnBlocks b.format.in_groups b.format.big m t.shape t.groups header_size r
  pub sound : AllSound r

-- ---- "Templates that can never be sent"

-- There is something to write for a field: octets, null, or a number that it takes.
abbrev pub HasValue : Field → Type 0
HasValue f = (is_array f or is_optional f) ≡ false → (x : ℕ) × (x < 2 ^ 64) × (takes f x ≡ true)

-- A field has a list of values, and none of them is in its type's range.
abbrev pub NoneInRange : Field → Type 0
NoneInRange f =
    (f.names.kind ≡ enumeration) × Each (λ n. in_range (type_at f.type) n ≡ false) f.names.numbers

-- Groups without entries.
unfoldable pub no_entries : Groups → Values
no_entries none = nil
no_entries (more id since s inner rest) = group (Group 0) nil (no_entries rest)

-- A message with these answers for the root's fields, all its groups and all its data empty.
abbrev pub shortest : Template → List Answer → Values
shortest t fs = entry fs (no_entries t.groups) (map (λ _. Octets 0 0) t.shape.datas) nil

-- A listing of it, of 64-bit numbers, and a pool of octets from which it is written wherever there is room for it; it
-- has as many octets as rule 7 counts.
pub record CanBeSent (book : List ℕ) (b : Book) (t : Template) : Type 0 where
  pub fields : List Answer
  pub pool : List ℕ
  pub message : List ℕ
  pub numbers : Numbers64 (listing (shortest t fields))
  pub octets : AllOctets pool
  pub long : length message ≡ least_length b.format t.shape t.groups
  pub written : (room : ℕ) → length message ≤ room
      → write_of book t.id (listing (shortest t fields)) pool room ≡ done message

-- The first template whose shortest message is too long has number n in the book's tree; every message of it, for any
-- listing that is good, is too long.
pub record NeverSent (book : List ℕ) (n : ℕ) : Type 0 where
  pub tree : Book
  pub is_tree : tree_of book ≡ done tree
  pub before : List Template
  pub template : Template
  pub after : List Template
  pub templates : tree.templates ≡ before ++ (template ∷ after)
  pub place : length before ≡ n
  pub first : Each (λ t. length_kept tree.format t ≡ true) before
  pub too_long : (l pool : List ℕ) (r : Values) → judge_listing l pool template ≡ done r
      → most_message < length (message_octets tree template pool r)

-- ---- "Demand 3 then allows the older book kind 6 with the same number where only its list lacks it": the names of a
-- place in a book

-- What f says of the block of group g of a row, and `lacking` where the row lacks that group.
unfoldable pub of_group : {A : Type 0} → A → Groups → ℕ → (Shape → Groups → A) → A
of_group lacking none g f = lacking
of_group lacking (more i since s inner rest) zero f = f s inner
of_group lacking (more i since s inner rest) (suc g) f = of_group lacking rest g f

-- Of an element: a field has the names of its list.
unfoldable pub element_names : Element → Shape → Names
element_names (Element.TheVariants.Field k) s = get_or (map (λ (f : Field). f.names) s.fields) k no_names
element_names (Element.TheVariants.Group k) s = no_names
element_names (Element.TheVariants.Data k) s = no_names

unfoldable pub names_at : List Step → Element → Shape → Groups → Names
names_at [] x s gs = element_names x s
names_at (p ∷ ps) x s gs = of_group no_names gs p.group (names_at ps x)

-- What was found, seen beside these names.
unfoldable pub found_beside : Names → Told Answer → Told Answer
found_beside l (Ok a) = Ok (beside l a)
found_beside l (Err z) = Err z

-- "the same answer", or "kind 6 with the same number where only its list lacks it": what an older book says of a place
-- that has the names l in it, by what the newer says of it. `is` is how an answer is told.
pub data AlikeOrUnlisted {R : Type 0} (is : Answer → R) (l : Names) (older newer : R) : Type 0 where
  alike : older ≡ newer → AlikeOrUnlisted is l older newer
  unlisted : (x : ℕ) → newer ≡ is (Number x) → older ≡ is (Unlisted x) → has l x ≡ false
      → AlikeOrUnlisted is l older newer

-- ---- "A venue that sends big-endian": a book, and the same book with the other order word

abbrev pub other_order : Book → Book
other_order b =
    record {
      schema = b.schema;
      version = b.version;
      format = record { big = not b.format.big; in_groups = b.format.in_groups };
      lists = b.lists;
      templates = b.templates;
    }

-- Its octets: word 5, the order, is "0 little or 1 big", so that the first of its two octets says it.
abbrev pub reordered : List ℕ → List ℕ
reordered book = set book 10 (1 - get_or book 10 0)

-- The octets of m from one place to another, the same but for numbers turned: each a run of 1, 2, 4 or 8 octets, and
-- what is between them kept.
pub data Runs (m : List ℕ) : ℕ → List ℕ → ℕ → Type 0 where
  kept : (at n : ℕ) → Runs m at (take n (drop at m)) (at + n)
  turned : (at w : ℕ) → is_width w ≡ true → Runs m at (reverse (take w (drop at m))) (at + w)
  row : {at mid to : ℕ} {xs ys : List ℕ} → Runs m at xs mid → Runs m mid ys to → Runs m at (xs ++ ys) to

-- m' is to the book of the other order what m, read as the tree r, is to b: the same but for numbers turned, and read
-- by the same template as the same tree, of the same octets.
pub record OtherWay (b : Book) (m : List ℕ) (r : Values) (m' : List ℕ) : Type 0 where
  pub runs : Runs m 0 m' (length m)
  pub template : template_id (other_order b).format.big m' ≡ template_id b.format.big m
  pub reads : read_message (other_order b) m' ≡ done r
  pub octets : contents m' (listing r) ≡ contents m (listing r)

-- Every call answers alike, starts included: it returns the same for m by `book` and for m' by book', and leaves the
-- same in the room that it was lent. The octets that a listing leads to are the same too.
pub record CallsAlike (book m book' m' : List ℕ) : Type 0 where
  pub checks : (r r' : Told (Unit {0})) → Checks book m r → Checks book' m' r' → r ≡ r'
  pub lists : (before after after' : List ℕ) (r r' : Told ℕ) → Lists book m before r after
      → Lists book' m' before r' after'
      → (r ≡ r') × (after ≡ after')
  pub answers : (steps : List ℕ) (x : Element) (r r' : Told Answer) → AnswersPlace book m steps x r
      → AnswersPlace book' m' steps x r'
      → r ≡ r'
  pub octets : (before after : List ℕ) (n : ℕ) → Lists book m before (Ok n) after
      → contents m (take (3 * n) after) ≡ contents m' (take (3 * n) after)

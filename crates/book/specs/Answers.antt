-- What the walk over a book's words answers, by cases on what the definitions make of them.
use Rattle.std.specs.Prelude.{◌≡◌, Bool, true, List, ◌*◌, ◌+◌, ◌<◌, ℕ, leb, Option, Some, None}
use Rattle.layout.specs.Result.{Result, ◌>>=◌, ◌and◌, done, when◌then◌else◌, refused}
use Rattle.layout.specs.Octets.{words_of}
use Rattle.layout.specs.Book.{Field, Format, Groups, Shape, Template, end, field_sinces}
use Rattle.layout.specs.BookRules.{each_must, field_good, fields_good, fields_since, format_of, groups_good, groups_since}
use Rattle.layout.specs.BookRules.{layout_good, least_length, length_kept, list_good, lists_of, parse_bodies, shape_good}
use Rattle.layout.specs.BookRules.{shape_since, since_good, template_rows, word}
use Rattle.layout.specs.Message.{dimension_size, header_size, most_message}
use Rattle.layout.specs.declared.Reason.{Reason}
use Rattle.book.specs.declared.Rules.{Rules}
use Rattle.book.specs.declared.Field.{Field as FieldChecked}
use Rattle.book.specs.declared.Block.{Block}
use Rattle.book.specs.declared.Row.{Row}
use Rattle.book.specs.declared.Body.{Body}
use Rattle.layout.specs.declared.Reason.TheVariants.{BookBlock, BookLayout, BookSince, BookUnsendable}

-- r is word w of the octets s.
pub record IsWord (s : List ℕ) (w r : ℕ) : Type 0 where
  pub value : r ≡ word (words_of s) w
  pub small : r < 65536

-- ---- whether the rules of 5 and of 6 hold

abbrev pub rules_are : Bool → Bool → Rules
rules_are layout since = record { layout = layout; since = since }

unfoldable pub all_rules : Rules → Rules → Rules
all_rules a b = rules_are (a.layout and b.layout) (a.since and b.since)

-- A field of a block of l octets, after one that ends at e, with a since from `low` to `high`.
abbrev pub field_of : ℕ → ℕ → ℕ → ℕ → Field → FieldChecked
field_of l e low high f =
    record {
      rules = rules_are (field_good l e f) (leb low f.since and leb f.since high);
      end = end f;
      since =
          f.since;
    }

abbrev pub fields_rules : ℕ → ℕ → ℕ → ℕ → ℕ → List Field → Rules
fields_rules version low high l e fs = rules_are (fields_good l e fs) (fields_since version low high (field_sinces fs))

abbrev pub shape_rules : ℕ → ℕ → ℕ → ℕ → Shape → Rules
shape_rules version low high top s = rules_are (shape_good s) (shape_since version low high top s)

-- A group with this since, after one with the since `low`: its own rule, its block's and its inner groups'.
abbrev pub group_rules : ℕ → ℕ → ℕ → Rules → Rules → Rules
group_rules low since high block inner = all_rules (rules_are true (leb low since and leb since high))
    (all_rules block inner)

abbrev pub groups_rules : Bool → ℕ → ℕ → ℕ → Groups → Rules
groups_rules counted version low high gs = rules_are (groups_good gs) (groups_since counted version low high gs)

-- ---- a block, a row of groups, a body: nothing where it is not whole (4), or where it ends and what rules hold

unfoldable pub block_of : ℕ → ℕ → ℕ → ℕ → Result (Shape × ℕ × ℕ) → Option Block
block_of version low high top (done r) =
    Some (record { groups = r.1; next = r.2; rules = shape_rules version low high top r.0 })
block_of version low high top (refused n p) = None

unfoldable pub row_of : Bool → ℕ → ℕ → ℕ → Result (Groups × ℕ) → Option Row
row_of counted version low high (done r) = Some (record { next = r.1; rules = groups_rules counted version low high r.0 })
row_of counted version low high (refused n p) = None

abbrev pub body_rules : Bool → ℕ → Shape × Groups → Rules
body_rules counted version r =
    all_rules (shape_rules version 0 version version r.0) (groups_rules counted version 0 version r.1)

unfoldable pub body_of : Format → ℕ → Result (Shape × Groups) → Option Body
body_of format version (done r) =
    Some (record {
      rules = body_rules format.in_groups version r;
      short =
          leb (least_length format r.0 r.1) most_message;
    })
body_of format version (refused n p) = None

-- What 7 measures, by a body's words.
abbrev pub least_at : Bool → List ℕ → ℕ
least_at counted b = header_size + word b 0 + dimension_size counted * word b 2 + 2 * word b 3

-- ---- all bodies: "lowest number found in any template, then the first template that has it"

-- The first template that breaks a rule, `seen` being the first before template t.
unfoldable pub first_of : Option ℕ → Bool → ℕ → Option ℕ
first_of (Some s) keeps t = Some s
first_of None keeps t = when keeps then None else Some t

-- The refusal for r at a template seen before, or what comes of the others.
unfoldable pub seen_or : Option ℕ → Reason → Result (Unit {0}) → Result (Unit {0})
seen_or (Some t) r x = refused r t
seen_or None r x = x

-- 4 of the lists, and 5, 6 and 7 for the templates x from number t on, `five`, `six` and `seven` being the first that
-- broke a rule before them.
unfoldable pub ruled : Result (Unit {0}) → Format → ℕ → ℕ → Option ℕ → Option ℕ → Option ℕ → Result (List Template)
    → Result (Unit {0})
ruled lists format version t five six seven x = do
  ts ← x
  _ ← lists
  _ ← seen_or five BookLayout (each_must layout_good BookLayout t ts)
  _ ← seen_or six BookSince (each_must (since_good format.in_groups version) BookSince t ts)
  seen_or seven BookUnsendable (each_must (length_kept format) BookUnsendable t ts)

-- Where no template is left.
unfoldable pub verdict_of : Option ℕ → Option ℕ → Option ℕ → Result (Unit {0})
verdict_of five six seven = do
  _ ← seen_or five BookLayout (done tt)
  _ ← seen_or six BookSince (done tt)
  seen_or seven BookUnsendable (done tt)

-- 4 to 7, over the words of a book.
abbrev pub bodies_of : List ℕ → Result (Unit {0})
bodies_of b =
    ruled (each_must list_good BookBlock (word b 2) (lists_of b)) (format_of b) (word b 1) 0 None None None
    (parse_bodies (lists_of b) b 0 (template_rows b))

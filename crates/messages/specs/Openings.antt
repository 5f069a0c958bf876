-- A message up to its root block, by prepared numbers p.
use Rattle.std.specs.Prelude.{◌≡◌, Bool, List, ℕ, ◌+◌, leb, eqb, ltb, Option, None, Some}
use Rattle.layout.specs.Result.{◌and◌, Result, done, refused, ◌>>=◌}
use Rattle.layout.specs.Octets.{null16}
use Rattle.layout.specs.BookRules.{word}
use Rattle.layout.specs.Operations.{Told, told}
use Rattle.layout.specs.Message.{block_length, check_header, surplus_of, template_id, version_of}
use Rattle.prepared.specs.Positions.{is_big}
use Rattle.prepared.specs.Books.{location_of, template_at}
use Rattle.wire.specs.Headers.{IsHeader}
use Rattle.wire.specs.declared.Header.{Header}
use Rattle.messages.specs.declared.Opened.{Opened}
use Rattle.layout.specs.declared.Reason.TheVariants.{TemplateUnknown}

-- The block of the template, or 13.
unfoldable pub known : Option ℕ → Result ℕ
known (Some a) = done a
known None = refused TemplateUnknown 2

-- 14 and 15, by the template's block at a: that place, and how many groups and data are surplus.
abbrev pub root_by : List ℕ → ℕ → List ℕ → Result (ℕ × ℕ × ℕ)
root_by p a m = surplus_of (is_big p) (word p 1) (template_at p a) m >>= λ s. done (a, s.0, s.1)

-- 13 to 15.
unfoldable pub known_at : List ℕ → List ℕ → Result (ℕ × ℕ × ℕ)
known_at p m = known (location_of p (template_id (is_big p) m)) >>= λ a. root_by p a m

-- 10 to 15.
unfoldable pub open_at : List ℕ → List ℕ → Result (ℕ × ℕ × ℕ)
open_at p m = check_header (is_big p) (word p 0) m >>= λ _. known_at p m

abbrev pub opened : Bool → List ℕ → ℕ × ℕ × ℕ → Opened
opened big m (a, g, d) =
    record { block = a; version = version_of big m; length = block_length big m; groups = g; datas = d }

-- r opens whatever message has these numbers for its header, by the template's block at a.
abbrev pub OpensBy : List ℕ → ℕ → Header → Told Opened → Type 0
OpensBy p a h r = (m : List ℕ) → IsHeader (is_big p) m h → r ≡ told (opened (is_big p) m) (root_by p a m)

-- The header is as a writer by the book has it for the template whose block stands at a; its block may be longer.
unfoldable pub is_own : List ℕ → ℕ → Header → Bool
is_own p a h =
    (eqb h.schema (word p 0) and eqb h.version (word p 1))
    and (eqb h.groups (word p (a + 4)) and eqb h.datas (word p (a + 5)))
    and leb (word p (a + 6)) h.length and ltb h.length null16

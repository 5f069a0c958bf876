-- What the field is without its list is stored, and it is what the field is, but for a number that the list lacks.
use mathlib.Core.Path.{◌∙◌, ◌≡◌, refl, sym}
use mathlib.Core.List.{List}
use Prim.Native.Nat.{ℕ, ◌+◌, ◌≤◌}
use native.Mathlib.Omega.{arith}
use lib.ListN.{length}
use lib.Seq.{sets}
use Rattle.layout.specs.BookRules.{word}
use Rattle.layout.specs.Lists.{beside}
use Rattle.layout.specs.Values.{record_of}
use Rattle.layout.specs.declared.Answer.{Answer}
use Rattle.layout.specs.Message.{read_field}
use Rattle.prepared.specs.Names.{HasNames}
use Rattle.prepared.specs.Positions.{IsField, field_at, is_big}
use Rattle.prepared.proofs.Names.{names_free, names_here, no_lists}
use Rattle.fields.specs.Readable.{plain}
use Rattle.fields.proofs.Fields.{field_bare, field_beside}
use Rattle.store.proofs.Records.{Holds, is_listed_lem, is_unlisted, no_number, record_stored, stored_anew}
use Rattle.store.proofs.store_field.Goals as goal
use Rattle.store.proofs.store_field.Goals.{then-list-eq0-via-then-list-eq0, then-list-eq0-via-else-list-eq0+then-room-n}

held : {d : List ℕ} {n : ℕ} {a : Answer} {room : List ℕ} → n + 3 ≤ length d → room ≡ sets d n (record_of a)
    → Holds d n a room
held fits is = record { fits = fits; is = is }

-- The place that stands for the field's list leads to its names.
leads : (p : List ℕ) (f t : ℕ) {x : ℕ} → IsField p f t → x ≡ word p (t + 5) → HasNames p x (field_at p f).names
leads p f t field e = rw e field.derived.names

-- What was read is, beside the field's list, what the field is.
seen : {p : List ℕ} {f t : ℕ} (m : List ℕ) (v at : ℕ) {a : Answer} → IsField p f t
    → a ≡ read_field (is_big p) m v at (plain (field_at p f))
    → beside (field_at p f).names a ≡ read_field (is_big p) m v at (field_at p f)
seen m v at field is = field_beside _ _ _ _ _ _ _ _ field is _ (rw field.derived.names.names refl)

pub returns-then-not-listed : goal.returns-then-not-listed
returns-then-not-listed c =
    let pre = c.requires in
    record_stored _ _ _ c.put.ensures
    (field_bare _ _ _ _ _ _ _ _ pre.0.field c.read_plain.ensures
    (no_lists pre.0.field (sym pre.1 ∙ c.if-not-listed.true)))

pub returns-then-list-eq0 : goal.returns-then-list-eq0
returns-then-list-eq0 c =
    let field = c.requires.0.field in
    record_stored _ _ _ c.put.ensures (elim c.then-list-eq0.branch [
      | then-list-eq0-via-then-list-eq0 w ↦
          field_bare _ _ _ _ _ _ _ _ field c.read_plain.ensures
          (names_free (leads _ _ _ field c.number-list.ensures) w.if-list-eq0.true)
      | then-list-eq0-via-else-list-eq0+then-room-n w ↦
          no_number (held c.requires.2 c.put.ensures) _ w.if-room-n.true ∙ seen _ _ _ field c.read_plain.ensures
    ])

pub has-requires : goal.has-requires
has-requires c =
    (leads _ _ _ c.requires.0.field c.number-list.ensures).list (omega arith)

pub returns-then-not-has : goal.returns-then-not-has
returns-then-not-has c =
    let field = c.requires.0.field in
    let names = names_here (leads _ _ _ field c.number-list.ensures) c.if-list-eq0.false in
    let first = held c.requires.2 c.put.ensures in
    record_stored _ _ _ (c.put-then-not-has.ensures ∙ stored_anew first _)
    (is_unlisted first c.if-room-n.false _ (rw names (sym c.has.ensures ∙ c.if-not-has.true))
    ∙ seen _ _ _ field c.read_plain.ensures)

pub returns-else-not-has : goal.returns-else-not-has
returns-else-not-has c =
    let field = c.requires.0.field in
    let names = names_here (leads _ _ _ field c.number-list.ensures) c.if-list-eq0.false in
    record_stored _ _ _ c.put.ensures
    (is_listed_lem (held c.requires.2 c.put.ensures) c.if-room-n.false _ (rw names (sym c.has.ensures ∙ c.if-not-has.false))
    ∙ seen _ _ _ field c.read_plain.ensures)

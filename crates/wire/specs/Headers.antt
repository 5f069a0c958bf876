-- The numbers of a header are those that the message starts with, each of 16 bits.
use Rattle.std.specs.Prelude.{◌≡◌, Bool, List, ℕ, ◌≤◌}
use Rattle.layout.specs.Message.{check_header, header_size}
use Rattle.layout.specs.Operations.{Told, checked}
use Rattle.ordered.specs.Order.{SpeltBy}
use Rattle.wire.specs.declared.Header.{Header}

pub record IsHeader (big : Bool) (m : List ℕ) (h : Header) : Type 0 where
  pub length : SpeltBy big 2 m 0 h.length
  pub template : SpeltBy big 2 m 2 h.template
  pub schema : SpeltBy big 2 m 4 h.schema
  pub version : SpeltBy big 2 m 6 h.version
  pub groups : SpeltBy big 2 m 8 h.groups
  pub datas : SpeltBy big 2 m 10 h.datas

-- r is what 11 and 12 say of whatever message has these numbers for its header, and no length for 10.
abbrev pub ChecksHeader : Header → ℕ → Told (Unit {0}) → Type 0
ChecksHeader h schema r =
    (big : Bool) (m : List ℕ) → (header_size ≤ lib.ListN.length m) × (lib.ListN.length m ≤ 65535) → IsHeader big m h
    → r ≡ checked (check_header big schema m)

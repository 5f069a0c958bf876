-- A header that is good.
use mathlib.Core.Path.{◌≡◌}
use Prim.Native.Nat.{◌<◌, ℕ}
use native.Mathlib.Omega.{arith}
use Rattle.std.specs.Prelude.{Ok}
use Rattle.layout.specs.Octets.{null16}
use Rattle.layout.specs.Message.{check_header, header_whole}
use Rattle.wire.specs.Headers.{ChecksHeader}
use Rattle.wire.specs.declared.Header.{Header}
use Rattle.wire.proofs.Steps.{steps}

pub header_good : (h : Header) (schema : ℕ) → h.length < null16 → h.template < null16 → h.schema < null16
    → h.version < null16 → h.groups < null16 → h.datas < null16 → h.schema ≡ schema → ChecksHeader h schema (Ok tt)
unfolding check_header header_whole
header_good h schema l t s v g d e big m lent is = grind (arith, steps)

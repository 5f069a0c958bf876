-- A number is turned octet by octet; and what is turned is read and stored.
use mathlib.Core.Path.{◌∙◌, ◌≡◌, ap, refl, sym}
use mathlib.Core.Bool.{Bool, false, true}
use mathlib.Core.List.{List, reverse-append}
use Prim.Native.Nat.{◌%◌, ◌*◌, ◌+◌, ◌/◌, ◌<◌, ◌^◌, suc, ℕ}
use native.Mathlib.Nat.{mod-eq_of_lt}
use native.Mathlib.Omega.{arith}
use lib.Arith.{digits_div, digits_lt, digits_mod}
use lib.Pow.{pow-add}
use Rattle.layout.specs.Octets.{in_order, lowest, number_of}
use Rattle.layout.proofs.Stands.{number_lowest}
use Rattle.octets.proofs.Joined.{eight_bits, eight_octets, lowest_append}
use Rattle.octets.specs.Spelt.{Spelt}
use Rattle.ordered.specs.Order.{InOrder, SpeltBy, Turned}

pub turned_none : (x : ℕ) → Turned 0 x 0
unfolding lowest
turned_none x = record { octets = refl; small = omega arith }

pub turned_next : (w : ℕ) {x t : ℕ} → Turned w x t → Turned (w + 1) x (t * 256 + x / 2 ^ (8 * w) % 256)
unfolding lowest
turned_next w {x} {t} p = go (x / 256 ^ w % 256) refl (omega arith)
  where
    go : (b : ℕ) → x / 256 ^ w % 256 ≡ b → b < 256 → Turned (w + 1) x (t * 256 + x / 2 ^ (8 * w) % 256)
    go b e k =
        let more : w + 1 ≡ suc w = omega arith in
        rw (eight_bits w, e)
        (record {
          octets = rw (lowest_append w 1 x, more, digits_mod t k, digits_div t k, p.octets, e, reverse-append) refl;
          small = omega (arith, digits_lt p.small k, pow-add 256 w 1);
        })

-- Another octet has room.
pub turned_fits : {w x t : ℕ} → Turned w x t → w < 8 → t * 256 + 255 < 2 ^ 64
turned_fits {w} p h = omega (arith, p.small, pow-add 256 w 1, eight_octets (w + 1) (omega arith))

pub in_order_big : (w x r : ℕ) → Turned w x r → InOrder true w x r
unfolding in_order
in_order_big w x r t = record { octets = t.octets; small = λ _. t.small }

pub in_order_little : (w x : ℕ) → InOrder false w x x
unfolding in_order
in_order_little w x = record { octets = refl; small = λ h. h }

pub spelt_by : (big : Bool) (w : ℕ) {s : List ℕ} {at x r : ℕ} → Spelt w s at x → InOrder big w x r
    → SpeltBy big w s at r
spelt_by big w p q =
    record {
      value = sym (mod-eq_of_lt (q.small p.small)) ∙ sym (number_lowest w _) ∙ ap number_of q.octets
          ∙ ap (λ (t : List ℕ). number_of (in_order big t)) p.octets;
      small = q.small p.small;
    }

-- Numbers as octets, said once over the width and the order. Every number of a message is read by `number_at` and
-- written by `octets_of`, which take the order: `big` is whether the most significant octet comes first.
use Rattle.std.specs.Prelude.{Bool, false, true, List, [], ◌∷◌, reverse, ◌%◌, ◌*◌, ◌+◌, ◌/◌, ◌<◌, ◌^◌, suc, zero, ℕ, eqb, drop, get_or, take}
use Rattle.layout.specs.Result.{when◌then◌else◌}

-- The number that the octets are, the least significant first.
unfoldable pub number_of : List ℕ → ℕ
number_of [] = 0
number_of (b ∷ bs) = b + 256 * number_of bs

-- The w lowest octets of x, the least significant first.
unfoldable pub lowest : ℕ → ℕ → List ℕ
lowest zero x = []
lowest (suc w) x = x % 256 ∷ lowest w (x / 256)

-- "0 little or 1 big": a number's octets, from the least significant first to the message's order, and back.
unfoldable pub in_order : Bool → List ℕ → List ℕ
in_order false s = s
in_order true s = reverse s

-- The w octets that x is written as.
abbrev pub octets_of : Bool → ℕ → ℕ → List ℕ
octets_of big w x = in_order big (lowest w x)

-- The number in the w octets of m at `at`.
abbrev pub number_at : Bool → ℕ → List ℕ → ℕ → ℕ
number_at big w m at = number_of (in_order big (take w (drop at m)))

-- The 16-bit number there.
abbrev pub number16 : Bool → List ℕ → ℕ → ℕ
number16 big m at = number_at big 2 m at

-- The greatest 16-bit number, which no block length, id, version, count or length may be.
abbrev pub null16 : ℕ
null16 = 65535

-- "A char array's text now ends before its first NUL": how many octets that is.
unfoldable pub text_length : List ℕ → ℕ
text_length [] = 0
text_length (b ∷ bs) = when eqb b 0 then 0 else suc (text_length bs)

-- "Words are 16-bit, least significant octet first", whatever the order of the messages: "Books themselves stay as they
-- are."
unfoldable pub words_of : List ℕ → List ℕ
words_of [] = []
words_of (a ∷ []) = []
words_of (a ∷ b ∷ s) = (a + 256 * b) ∷ words_of s

-- Octets are below 256, as a `&[u8]` gives them, and the numbers of a listing below 2 ^ 64, as a `&[u64]` does.
abbrev pub AllOctets : List ℕ → Type 0
AllOctets s = (i : ℕ) → get_or s i 0 < 256

abbrev pub Numbers64 : List ℕ → Type 0
Numbers64 l = (i : ℕ) → get_or l i 0 < 2 ^ 64

-- The cases that document 01 marks P, and some of name lists, of text, of the order and of rule 7: one table. One theorem
-- of proofs/Worked.antt, which the checker computes, says that they hold.
use Rattle.std.specs.Prelude.{Bool, true, false, List, [], ◌∷◌, ◌++◌, ℕ, ◌+◌, ◌-◌, ◌/◌, ◌%◌, ◌^◌, take, set, length}
use Rattle.layout.specs.Result.{Result, ◌>>=◌, done, refused}
use Rattle.layout.specs.Octets.{number_at}
use Rattle.layout.specs.Types.{TypeRow, type_at, value_of, classify}
use Rattle.layout.specs.Values.{record_of}
use Rattle.layout.specs.Reading.{list_of}
use Rattle.layout.specs.declared.Reason.TheVariants.{BookBlock, BookHead, BookLayout, BookSince, BookUnsendable, CountsWrong, DataLengthNull, HeaderNull, MessageSize, OctetsLeftOver, PastTheEnd, RootBlockShort, SchemaDiffers}

-- The octets of a book's words.
abbrev pub words : List ℕ → List ℕ
words [] = []
words (w ∷ ws) = w % 256 ∷ w / 256 ∷ words ws

-- "01's cases are recast with each new word."
-- "Book A (37 words): head 7 0 1 37; contents 1 7 30; block 8 2 1 1; fields 38 6 1 0 0 0 and 44 3 1 4 1 0; data 58 0;
-- group 453 0, block 2 1 0 0, field 452 2 1 0 0 0", recast "with each new word": the head's fifth, a field's seventh,
-- the order and the numbers of a dimension.
abbrev pub ordered_a : ℕ → List ℕ
ordered_a order =
    words
    (7 ∷ 0 ∷ 1 ∷ 43 ∷ 0 ∷ order ∷ 2
    ∷ 1 ∷ 10 ∷ 33
    ∷ 8 ∷ 2 ∷ 1 ∷ 1
    ∷ 38 ∷ 6 ∷ 1 ∷ 0 ∷ 0 ∷ 0 ∷ 0
    ∷ 44 ∷ 3 ∷ 1 ∷ 4 ∷ 1 ∷ 0 ∷ 0
    ∷ 58 ∷ 0
    ∷ 453 ∷ 0 ∷ 2 ∷ 1 ∷ 0 ∷ 0 ∷ 452 ∷ 2 ∷ 1 ∷ 0 ∷ 0 ∷ 0 ∷ 0
    ∷ [])

abbrev pub book_a : List ℕ
book_a = ordered_a 0

abbrev pub big_a : List ℕ
big_a = ordered_a 1

-- "Book B extends A at version 1: root field uint8, offset 6, required, since 1; a second root group, block 4, one
-- required uint32, since 1."
abbrev pub book_b : List ℕ
book_b =
    words
    (7 ∷ 1 ∷ 1 ∷ 63 ∷ 0 ∷ 0 ∷ 2
    ∷ 1 ∷ 10 ∷ 53
    ∷ 8 ∷ 3 ∷ 2 ∷ 1
    ∷ 38 ∷ 6 ∷ 1 ∷ 0 ∷ 0 ∷ 0 ∷ 0
    ∷ 44 ∷ 3 ∷ 1 ∷ 4 ∷ 1 ∷ 0 ∷ 0
    ∷ 45 ∷ 2 ∷ 1 ∷ 6 ∷ 0 ∷ 1 ∷ 0
    ∷ 58 ∷ 0
    ∷ 453 ∷ 0 ∷ 2 ∷ 1 ∷ 0 ∷ 0 ∷ 452 ∷ 2 ∷ 1 ∷ 0 ∷ 0 ∷ 0 ∷ 0
    ∷ 454 ∷ 1 ∷ 4 ∷ 1 ∷ 0 ∷ 0 ∷ 455 ∷ 6 ∷ 1 ∷ 0 ∷ 0 ∷ 1 ∷ 0
    ∷ [])

-- A with two lists, a set over field 38 and an enumeration over field 452: list 2 has these flags, list 9 these codes.
abbrev pub book_l : ℕ → List ℕ → List ℕ → List ℕ
book_l version flags codes =
    words
    (7 ∷ version ∷ 1 ∷ (51 + length flags + length codes) ∷ 2 ∷ 0 ∷ 2
    ∷ 1 ∷ 16 ∷ 33
    ∷ 2 ∷ 49 ∷ (1 + length flags)
    ∷ 9 ∷ (50 + length flags) ∷ (1 + length codes)
    ∷ 8 ∷ 2 ∷ 1 ∷ 1
    ∷ 38 ∷ 6 ∷ 1 ∷ 0 ∷ 0 ∷ 0 ∷ 3
    ∷ 44 ∷ 3 ∷ 1 ∷ 4 ∷ 1 ∷ 0 ∷ 0
    ∷ 58 ∷ 0
    ∷ 453 ∷ 0 ∷ 2 ∷ 1 ∷ 0 ∷ 0 ∷ 452 ∷ 2 ∷ 1 ∷ 0 ∷ 0 ∷ 0 ∷ 10
    ∷ ((1 ∷ flags) ++ (0 ∷ codes)))

-- M's 1000 sets bits 3, 5, 6, 7, 8 and 9, and its entries have 1 and 3: of one book the lists lack 9 and 3, of the
-- other nothing.
abbrev pub book_few : List ℕ
book_few = book_l 0 (3 ∷ 5 ∷ 6 ∷ 7 ∷ 8 ∷ []) (1 ∷ [])

abbrev pub book_many : List ℕ
book_many = book_l 1 (3 ∷ 4 ∷ 5 ∷ 6 ∷ 7 ∷ 8 ∷ 9 ∷ []) (1 ∷ 2 ∷ 3 ∷ [])

-- "Message M (32 octets)"
abbrev pub message_m : List ℕ
message_m =
    0x08 ∷ 0x00 ∷ 0x01 ∷ 0x00 ∷ 0x07 ∷ 0x00 ∷ 0x00 ∷ 0x00 ∷ 0x01 ∷ 0x00 ∷ 0x01 ∷ 0x00
    ∷ 0xe8 ∷ 0x03 ∷ 0x00 ∷ 0x00 ∷ 0xfb ∷ 0xff ∷ 0x00 ∷ 0x00
    ∷ 0x02 ∷ 0x00 ∷ 0x02 ∷ 0x00 ∷ 0x01 ∷ 0x00 ∷ 0x03 ∷ 0x00
    ∷ 0x02 ∷ 0x00 ∷ 0x61 ∷ 0x62
    ∷ []

-- M for a book of big-endian messages: each number turned, all other octets as they are.
abbrev pub big_m : List ℕ
big_m =
    0x00 ∷ 0x08 ∷ 0x00 ∷ 0x01 ∷ 0x00 ∷ 0x07 ∷ 0x00 ∷ 0x00 ∷ 0x00 ∷ 0x01 ∷ 0x00 ∷ 0x01
    ∷ 0x00 ∷ 0x00 ∷ 0x03 ∷ 0xe8 ∷ 0xff ∷ 0xfb ∷ 0x00 ∷ 0x00
    ∷ 0x00 ∷ 0x02 ∷ 0x00 ∷ 0x02 ∷ 0x01 ∷ 0x00 ∷ 0x03 ∷ 0x00
    ∷ 0x00 ∷ 0x02 ∷ 0x61 ∷ 0x62
    ∷ []

-- "B's message with 9 and one entry 42"
abbrev pub message_b : List ℕ
message_b =
    0x08 ∷ 0x00 ∷ 0x01 ∷ 0x00 ∷ 0x07 ∷ 0x00 ∷ 0x01 ∷ 0x00 ∷ 0x02 ∷ 0x00 ∷ 0x01 ∷ 0x00
    ∷ 0xe8 ∷ 0x03 ∷ 0x00 ∷ 0x00 ∷ 0xfb ∷ 0xff ∷ 0x09 ∷ 0x00
    ∷ 0x02 ∷ 0x00 ∷ 0x02 ∷ 0x00 ∷ 0x01 ∷ 0x00 ∷ 0x03 ∷ 0x00
    ∷ 0x04 ∷ 0x00 ∷ 0x01 ∷ 0x00 ∷ 0x2a ∷ 0x00 ∷ 0x00 ∷ 0x00
    ∷ 0x02 ∷ 0x00 ∷ 0x61 ∷ 0x62
    ∷ []

-- "negatives as 2^64 + value"
abbrev pub minus : ℕ → ℕ
minus x = 2 ^ 64 - x

-- Document 01's table of types, in figures.
abbrev pub type_table : List TypeRow
type_table =
    -- char
    row 1 false 32 126 0
    -- int8, uint8
    ∷ row 1 true (minus 127) 127 (minus 128)
    ∷ row 1 false 0 254 255
    -- int16, uint16
    ∷ row 2 true (minus 32767) 32767 (minus 32768)
    ∷ row 2 false 0 65534 65535
    -- int32, uint32
    ∷ row 4 true (minus 2147483647) 2147483647 (minus 2147483648)
    ∷ row 4 false 0 4294967294 4294967295
    -- int64, uint64
    ∷ row 8 true (minus 9223372036854775807) 9223372036854775807 (minus 9223372036854775808)
    ∷ row 8 false 0 18446744073709551614 18446744073709551615
    ∷ []
  where
    row : ℕ → Bool → ℕ → ℕ → ℕ → TypeRow
    row width signed least greatest null =
        record { width = width; signed = signed; least = least; greatest = greatest; null = null }

-- Two texts of four octets, the second optional, and a message of them.
abbrev pub book_t : List ℕ
book_t =
    words
    (7 ∷ 0 ∷ 1 ∷ 28 ∷ 0 ∷ 0 ∷ 2
    ∷ 1 ∷ 10 ∷ 18
    ∷ 8 ∷ 2 ∷ 0 ∷ 0
    ∷ 55 ∷ 0 ∷ 4 ∷ 0 ∷ 0 ∷ 0 ∷ 0
    ∷ 65 ∷ 0 ∷ 4 ∷ 4 ∷ 1 ∷ 0 ∷ 0
    ∷ [])

abbrev pub message_t : List ℕ → List ℕ
message_t texts = 0x08 ∷ 0 ∷ 0x01 ∷ 0 ∷ 0x07 ∷ 0 ∷ 0 ∷ 0 ∷ 0 ∷ 0 ∷ 0 ∷ 0 ∷ texts

pub data Case : Type 0 where
  -- a book and a message, listed by the program's room
  listed : List ℕ → List ℕ → Case
  -- whether big-endian, a type, whether the field is optional, and its octets
  holds : Bool → ℕ → Bool → List ℕ → Case

abbrev pub answer : Case → Result (List ℕ)
answer (listed b m) = list_of b m 6000 >>= λ l. done l.1
answer (holds big t optional s) =
    let k = type_at t in done (record_of (classify k optional (value_of k (number_at big k.width s 0))))

pub record Row : Type 0 where
  pub case : Case
  pub says : Result (List ℕ)

infix 10 ◌says◌
abbrev pub ◌says◌ : Case → Result (List ℕ) → Row
c says r = record { case = c; says = r }

-- The octets of m with x as the 16-bit number at `at`.
abbrev pub with16 : List ℕ → ℕ → ℕ → List ℕ
with16 m at x = set (set m at (x % 256)) (at + 1) (x / 256)

abbrev pub minus5 : ℕ
minus5 = minus 5

-- A root block of l octets with one group and one data, where dimensions have so many numbers.
abbrev pub long_book : ℕ → ℕ → List ℕ
long_book numbers l =
    words
    (7 ∷ 0 ∷ 1 ∷ 29 ∷ 0 ∷ 0 ∷ numbers
    ∷ 1 ∷ 10 ∷ 19
    ∷ l ∷ 0 ∷ 1 ∷ 1
    ∷ 58 ∷ 0
    ∷ 453 ∷ 0 ∷ 2 ∷ 1 ∷ 0 ∷ 0 ∷ 452 ∷ 2 ∷ 1 ∷ 0 ∷ 0 ∷ 0 ∷ 0
    ∷ [])

unfoldable pub table : List Row
table =
    (listed book_a message_m says
    done (0 ∷ 1000 ∷ 0 ∷ 0 ∷ minus5 ∷ 0 ∷ 4 ∷ 2 ∷ 0 ∷ 0 ∷ 1 ∷ 0 ∷ 0 ∷ 3 ∷ 0 ∷ 2 ∷ 30 ∷ 2 ∷ []))
    ∷ (listed book_b message_m says
    done (0 ∷ 1000 ∷ 0 ∷ 0 ∷ minus5 ∷ 0 ∷ 3 ∷ 0 ∷ 0 ∷ 4 ∷ 2 ∷ 0 ∷ 0 ∷ 1 ∷ 0 ∷ 0 ∷ 3 ∷ 0 ∷ 3 ∷ 0 ∷ 0 ∷ 2 ∷ 30 ∷ 2 ∷ []))
    ∷ (listed book_a message_b says
    done (0 ∷ 1000 ∷ 0 ∷ 0 ∷ minus5 ∷ 0 ∷ 4 ∷ 2 ∷ 0 ∷ 0 ∷ 1 ∷ 0 ∷ 0 ∷ 3 ∷ 0 ∷ 2 ∷ 38 ∷ 2 ∷ []))
    ∷ (listed book_few message_m says
    done (6 ∷ 1000 ∷ 0 ∷ 0 ∷ minus5 ∷ 0 ∷ 4 ∷ 2 ∷ 0 ∷ 0 ∷ 1 ∷ 0 ∷ 6 ∷ 3 ∷ 0 ∷ 2 ∷ 30 ∷ 2 ∷ []))
    ∷ (listed book_many message_m says
    done (0 ∷ 1000 ∷ 0 ∷ 0 ∷ minus5 ∷ 0 ∷ 4 ∷ 2 ∷ 0 ∷ 0 ∷ 1 ∷ 0 ∷ 0 ∷ 3 ∷ 0 ∷ 2 ∷ 30 ∷ 2 ∷ []))
    ∷ (listed (book_l 0 (3 ∷ 3 ∷ []) (1 ∷ [])) message_m says refused BookBlock 1)
    ∷ (listed (book_l 0 (3 ∷ 32 ∷ []) (1 ∷ [])) message_m says refused BookLayout 0)
    ∷ (listed book_t (message_t (0x4d ∷ 0x53 ∷ 0x46 ∷ 0x54 ∷ 0x42 ∷ 0 ∷ 0x43 ∷ 0 ∷ [])) says
    done (2 ∷ 12 ∷ 4 ∷ 2 ∷ 16 ∷ 1 ∷ []))
    ∷ (listed book_t (message_t (0 ∷ 0x53 ∷ 0 ∷ 0 ∷ 0 ∷ 0x42 ∷ 0 ∷ 0 ∷ [])) says done (2 ∷ 12 ∷ 0 ∷ 1 ∷ 0 ∷ 0 ∷ []))
    ∷ (listed book_a (take 31 message_m) says refused PastTheEnd 28)
    ∷ (listed book_a (message_m ++ (0 ∷ [])) says refused OctetsLeftOver 32)
    ∷ (listed book_a [] says refused MessageSize 0)
    ∷ (listed book_a (with16 message_m 0 5) says refused RootBlockShort 0)
    ∷ (listed book_a (with16 message_m 6 65535) says refused HeaderNull 6)
    ∷ (listed book_a (with16 message_m 8 2) says refused CountsWrong 8)
    ∷ (listed book_a (with16 message_m 28 65535) says refused DataLengthNull 28)
    ∷ (listed book_a (with16 message_m 28 65534) says refused PastTheEnd 28)
    ∷ (holds false 6 false (0x10 ∷ 0x27 ∷ 0x00 ∷ 0x00 ∷ []) says done (0 ∷ 10000 ∷ 0 ∷ []))
    ∷ (holds false 1 true (128 ∷ []) says done (1 ∷ 0 ∷ 0 ∷ []))
    ∷ (holds false 1 true (129 ∷ []) says done (0 ∷ minus 127 ∷ 0 ∷ []))
    -- the order: M turned lists alike; neither message is the other book's; "2 also for another order word"
    ∷ (listed big_a big_m says
    done (0 ∷ 1000 ∷ 0 ∷ 0 ∷ minus5 ∷ 0 ∷ 4 ∷ 2 ∷ 0 ∷ 0 ∷ 1 ∷ 0 ∷ 0 ∷ 3 ∷ 0 ∷ 2 ∷ 30 ∷ 2 ∷ []))
    ∷ (listed big_a message_m says refused SchemaDiffers 4)
    ∷ (listed book_a big_m says refused SchemaDiffers 4)
    ∷ (listed big_a (with16 big_m 28 65535) says refused DataLengthNull 28)
    ∷ (listed (ordered_a 2) message_m says refused BookHead 0)
    ∷ (holds true 6 false (0x00 ∷ 0x00 ∷ 0x27 ∷ 0x10 ∷ []) says done (0 ∷ 10000 ∷ 0 ∷ []))
    -- "exceed 65,535 together": exactly so many, and one more; "7, .. after 6 and before 10"
    ∷ (listed (long_book 2 65517) [] says refused MessageSize 0)
    ∷ (listed (long_book 2 65518) [] says refused BookUnsendable 0)
    ∷ (listed (long_book 4 65513) [] says refused MessageSize 0)
    ∷ (listed (long_book 4 65514) [] says refused BookUnsendable 0)
    ∷ (listed (with16 (long_book 2 65518) 30 1) [] says refused BookSince 0)
    ∷ []

-- What judging a part of a listing by a prepared book comes to: the definition's answer, the next record, and the
-- octets of what was judged, which stop at a limit.
use Rattle.std.specs.Prelude.{ℕ, ◌+◌, ◌/◌, min, Bool, List, length}
use Rattle.layout.specs.Result.{Result}
use Rattle.layout.specs.Book.{Groups, Shape}
use Rattle.layout.specs.Operations.{Told, told}
use Rattle.layout.specs.Values.{Values}
use Rattle.layout.specs.Writing.{datas_length, judge_block, judge_entries, judge_groups, row_length, span_of}
use Rattle.layout.specs.declared.Answer.{Answer}
use Rattle.prepared.specs.Positions.{inner_at, shape_at}
use Rattle.judges.specs.declared.Judged.{Judged}

-- `end` gives the record after what was judged, and its octets.
abbrev pub judged : {A : Type 0} → (A → ℕ × ℕ) → Result A → Told Judged
judged end = told (λ a. record { next = (end a).0; length = (end a).1 })

-- One more than a message may have.
abbrev pub limit : ℕ
limit = 65536

abbrev pub capped : ℕ → ℕ
capped n = min n limit

-- k entries of the block at a, `depth` more levels being left: l is the listing.
abbrev pub entries_at : List ℕ → ℕ → ℕ → List ℕ → List ℕ → ℕ → ℕ → Result (Values × ℕ)
entries_at p depth a l pool k i =
    judge_entries l pool k (judge_block l pool (shape_at p a) (judge_groups l pool (inner_at p depth a))) i

-- ---- where each ends and how many octets it has, `seen` having been counted before

-- Octets of the pool: how many they are.
abbrev pub octets_end : Answer → ℕ
octets_end a = (span_of a).1

-- The record after a block's fields, whose octets are the block's.
abbrev pub fields_end : List Answer × ℕ → ℕ
fields_end (fs, x) = x

abbrev pub datas_end : ℕ → List Answer × ℕ → ℕ × ℕ
datas_end seen (ds, x) = (x, capped (seen + datas_length ds))

-- `counted`: whether dimensions have four numbers.
module _ (counted : Bool) (s : Shape) (gs : Groups) where
  abbrev pub row_end : ℕ → Values × ℕ → ℕ × ℕ
  row_end seen (r, x) = (x, capped (seen + row_length counted s gs r))

  -- A whole listing: nothing follows.
  abbrev pub listing_end : List ℕ → Values → ℕ × ℕ
  listing_end l r = (length l / 3, capped (row_length counted s gs r))

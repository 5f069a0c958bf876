-- The lines that the program writes.
use Rattle.std.specs.Prelude.{ℕ, List, ◌++◌, codes, decimal, slice_index}

-- a record's line: its three numbers
abbrev pub record_line : List ℕ → List ℕ
record_line numbers =
    decimal (slice_index numbers 0) ++ (codes " " ++ (decimal (slice_index numbers 1)
    ++ (codes " " ++ (decimal (slice_index numbers 2) ++ codes "\n"))))

-- a refusal's line: its number and its place
abbrev pub refusal_line : ℕ → ℕ → List ℕ
refusal_line number place = codes "refused " ++ (decimal number ++ (codes " " ++ (decimal place ++ codes "\n")))

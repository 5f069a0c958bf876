-- The lists among prepared numbers p, read back by position, and what is worked out of them.
use Rattle.std.specs.Prelude.{◌≡◌, Bool, true, List, [], ◌∷◌, ℕ, zero, suc, ◌+◌, ◌≤◌, ◌<◌, eqb, ltb, drop, length, take}
use Rattle.layout.specs.Result.{when◌then◌else◌}
use Rattle.layout.specs.Lists.{NameList, Names, names_of, no_names}
use Rattle.layout.specs.BookRules.{climbing, word}
use Rattle.prepared.specs.Numbers.{lists_from, mask_of}

-- The list at x.
abbrev pub list_at : List ℕ → ℕ → NameList
list_at p x = record { id = word p x; kind = word p (x + 1); numbers = take (word p (x + 3)) (drop (x + 4) p) }

-- n lists in a row at x, and all lists of the book.
unfoldable pub lists_in : List ℕ → ℕ → ℕ → List NameList
lists_in p zero x = []
lists_in p (suc n) x = list_at p x ∷ lists_in p n (x + 4 + word p (x + 3))

unfoldable pub lists_at : List ℕ → List NameList
lists_at p = lists_in p (word p 3) (lists_from (word p 2))

-- Whether there are any.
abbrev pub has_lists : List ℕ → Bool
has_lists p = ltb 0 (word p 3)

-- The names that the place x leads to: 0 leads to none.
unfoldable pub names_at : List ℕ → ℕ → Names
names_at p x = when eqb x 0 then no_names else names_of (list_at p x)

-- A list of an accepted book stands at x, with its mask.
pub record IsList (p : List ℕ) (x : ℕ) : Type 0 where
  pub fits : x + 4 + word p (x + 3) ≤ length p
  pub rises : climbing 0 (list_at p x).numbers ≡ true
  pub mask : word p (x + 2) ≡ mask_of (list_at p x).numbers

-- The place x leads to the names l.
pub record HasNames (p : List ℕ) (x : ℕ) (l : Names) : Type 0 where
  pub list : 0 < x → IsList p x
  pub names : names_at p x ≡ l

-- A place whose last part is told by its kind and its number.
use Rattle.std.specs.Prelude.{List, ℕ, zero, suc, Option, None, Some}
use Rattle.layout.specs.Result.{Result, refused, ◌>>=◌}
use Rattle.layout.specs.Book.{Book}
use Rattle.layout.specs.BookRules.{book_of}
use Rattle.layout.specs.Reading.{check_in, place_in}
use Rattle.layout.specs.declared.Answer.{Answer}
use Rattle.layout.specs.declared.Element as Element
use Rattle.layout.specs.declared.Element.{Element}
use Rattle.layout.specs.declared.Reason.TheVariants.{PlaceUnknown}

-- "a field, group or data by its number"
unfoldable pub asked_for : ℕ → ℕ → Option Element
asked_for zero k = Some (Element.TheVariants.Field k)
asked_for (suc zero) k = Some (Element.TheVariants.Group k)
asked_for (suc (suc zero)) k = Some (Element.TheVariants.Data k)
asked_for (suc (suc (suc n))) k = None

-- A kind that there is not is refused as a number that the book lacks is, after what the check refuses.
unfoldable pub place_told_in : Book → List ℕ → List ℕ → Option Element → Result Answer
place_told_in b m steps (Some x) = place_in b m steps x
place_told_in b m steps None = check_in b m >>= λ _. refused PlaceUnknown 0

-- By the book's octets.
unfoldable pub place_told : List ℕ → List ℕ → List ℕ → Option Element → Result Answer
place_told book m steps asked = book_of book >>= λ b. place_told_in b m steps asked

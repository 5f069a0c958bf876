-- The head's words, and what rule 2 says of them.
use native.Mathlib.Omega.{arith}
use Rattle.book.proofs.Rows.{known}
use Rattle.book.proofs.Words.{length_words}
use Rattle.book.proofs.head_good.Goals as goal

pub returns-else-n-word : goal.returns-else-n-word
returns-else-n-word c =
    rw (length_words c.args.book.now) (grind (arith, known))

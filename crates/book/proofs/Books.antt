-- A book that is whole is checked as its bodies are.
use mathlib.Core.Path.{◌≡◌, refl}
use mathlib.Core.Bool.{true}
use mathlib.Core.List.{List}
use Prim.Native.Nat.{ℕ}
use Rattle.layout.specs.Result.{Result, ◌>>=◌, done, must, refused}
use Rattle.layout.specs.Octets.{words_of}
use Rattle.layout.specs.Book.{Book, Template}
use Rattle.layout.specs.BookRules.{book_of, check_contents, check_templates, each_must, format_of, head_good, list_good}
use Rattle.layout.specs.BookRules.{lists_of, parse_bodies, size_good, template_rows, tree_of, word}
use Rattle.layout.specs.Operations.{checked, told}
use Rattle.layout.specs.declared.Reason.TheVariants.{BookBlock}
use Rattle.book.specs.Answers.{bodies_of, ruled, seen_or}
use Rattle.book.proofs.Rows.{known}
use Rattle.book.proofs.Tests.{binds}

-- What is made at last does not show in a check.
made_checked : {B : Type 0} (y : Result (Unit {0})) (b : B) → checked (y >>= λ _. done b) ≡ checked y
unfolding told ◌>>=◌
made_checked (done u) b = refl
made_checked (refused n p) b = refl

all_checked : {A B : Type 0} (x : Result A) (l : Result (Unit {0})) (k : A → B) (f : B → Result (Unit {0}))
    → checked (x >>= (λ a. l >>= λ _. done (k a)) >>= λ b. f b >>= λ _. done b)
    ≡ checked (x >>= λ a. l >>= λ _. f (k a))
unfolding told ◌>>=◌
all_checked (done a) (done u) k f = made_checked (f (k a)) (k a)
all_checked (done a) (refused n p) k f = refl
all_checked (refused n p) l k f = refl

pub book_bodies : (s : List ℕ) → size_good s ≡ true → head_good (words_of s) ≡ true
    → check_contents (words_of s) ≡ done tt
    → checked (book_of s) ≡ checked (bodies_of (words_of s))
unfolding book_of tree_of must check_templates ruled seen_or ◌>>=◌
book_bodies s size head contents =
    let b = words_of s in
    let tree : List Template → Book =
    λ ts. record { schema = word b 0; version = word b 1; format = format_of b; lists = lists_of b; templates = ts } in
    rw (size, head, contents)
    (all_checked (parse_bodies (lists_of b) b 0 (template_rows b)) (each_must list_good BookBlock (word b 2) (lists_of b))
    tree check_templates)

pub ruleset book_laws = (known, binds, book_bodies)

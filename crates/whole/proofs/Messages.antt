-- A message is read as it is walked: its header, the root's groups, and what follows them.
use mathlib.Core.Path.{◌≡◌, refl}
use mathlib.Core.List.{List}
use Prim.Native.Nat.{ℕ}
use Rattle.std.specs.Prelude.{Option, None, Some}
use Rattle.layout.specs.Result.{Result, ◌>>=◌, done, or_refuse, refused}
use Rattle.layout.specs.BookRules.{word}
use Rattle.layout.specs.Message.{block_length, read_block}
use Rattle.layout.specs.Message.{read_message, read_root, read_whole, surplus_of, template_id, version_of}
use Rattle.layout.proofs.Results.{bind_assoc, bind_done}
use Rattle.prepared.specs.Positions.{is_big, version_at}
use Rattle.prepared.specs.Books.{HoldsBook, book_at, location_of, template_at}
use Rattle.prepared.proofs.Found.{found, not_found}
use Rattle.wire.proofs.Steps.{bind_refused}
use Rattle.messages.specs.Openings.{known, known_at, open_at}
use Rattle.whole.specs.Wholes.{rest_at, root_at, tree_at, whole_at}

bind_same : {A B : Type 0} (x : Result A) (k h : A → Result B) → ((a : A) → k a ≡ h a) → (x >>= k) ≡ (x >>= h)
unfolding ◌>>=◌
bind_same (done a) k h e = e a
bind_same (refused n q) k h e = refl

module _ (p m : List ℕ) where
  pub root_read : (a : ℕ) (x : ℕ × ℕ) → read_whole (book_at p).format (version_at p) (template_at p a) m x
      ≡ (root_at p a m (version_of (is_big p) m) (block_length (is_big p) m) x.0
      >>= λ r. rest_at p a m (version_of (is_big p) m) x.1 r.1
      >>= λ s. done (tree_at p m (a, x.0, r.0, s.0)))
  unfolding read_whole read_block root_at rest_at
  root_read a (g, d) = simp (bind_assoc, bind_done) refl

  module _ (book : HoldsBook p) where
    by_place : (r : Option ℕ) → location_of p (template_id (is_big p) m) ≡ r
        → read_message (book_at p) m ≡ (whole_at p m >>= λ w. done (tree_at p m w))
    unfolding read_message read_root open_at known_at whole_at known or_refuse
    by_place (Some a) e =
        let whole = bind_same (surplus_of (is_big p) (word p 1) (template_at p a) m) _ _ (root_read a) in
        rw ((found p book (template_id (is_big p) m) a e).template, e)
        (simp (bind_assoc, bind_done) (bind_same _ _ _ (λ _. whole)))
    by_place None e =
        rw (not_found p book (template_id (is_big p) m) e, e) (simp (bind_assoc, bind_done, bind_refused) refl)

    pub message_read : read_message (book_at p) m ≡ (whole_at p m >>= λ w. done (tree_at p m w))
    message_read = by_place (location_of p (template_id (is_big p) m)) refl

-- What a caller may go by: where a book was prepared, the numbers that were counted are its prepared book; a room of
-- 8,260 numbers is enough for every book.
use Rattle.std.proofs.Common.{◌≡◌, ℕ, ◌≤◌, true, leb, List, ◌++◌, length, take, drop, sym, refl, ap, ◌∙◌, arith, length-append, take_at, le-leb}
use Rattle.layout.specs.Result.{Result, ◌>>=◌, done, must, refused}
use Rattle.layout.specs.Book.{Book}
use Rattle.layout.specs.BookRules.{book_of}
use Rattle.std.specs.Prelude.{Err, Ok}
use Rattle.layout.specs.Operations.{Told, checked, room_after, told}
use Rattle.layout.specs.declared.Refusal.{Refusal}
use Rattle.layout.proofs.Told.{inv_err, inv_ok}
use Rattle.layout.proofs.Results.{done_inj, inv_bind}
use Rattle.prepared.specs.Books.{IsPrepared, book_at}
use Rattle.prepared.specs.Numbers.{prepared_of}
use Rattle.prepared.proofs.Books.{book_back, length_prepared}
use Rattle.prepare.specs.Prepares.{Prepares, preparing}

-- ---- prepared

-- p is the prepared book of the octets s.
pub record PreparedOf (s p : List ℕ) : Type 0 where
  pub is : IsPrepared p
  pub back : book_of s ≡ done (book_at p)

prepared_of_lem : (s : List ℕ) (b : Book) → book_of s ≡ done b → PreparedOf s (prepared_of b)
prepared_of_lem s b e =
    let h : IsPrepared (prepared_of b) = record { octets = s; tree = b; accepted = e; is = refl } in
    record { is = h; back = e ∙ ap done (sym (book_back h)) }

-- What was made is the prepared book.
made_is : (s : List ℕ) (k : ℕ) (p : List ℕ) → preparing s k ≡ done p → PreparedOf s p
unfolding preparing
made_is s k p e =
    let b = inv_bind _ _ _ e in
    let q : prepared_of b.value ≡ p = done_inj (inv_bind _ _ _ b.next).next in
    rw q at (prepared_of_lem s b.value b.first)

-- n numbers were counted.
pub record HasPrepared (s : List ℕ) (n : ℕ) (after : List ℕ) : Type 0 where
  pub prepared : PreparedOf s (take n after)
  pub fits : n ≤ length after

pub has_prepared : (s before : List ℕ) (n : ℕ) (after : List ℕ) → Prepares s before (Ok n) after → HasPrepared s n after
unfolding room_after
has_prepared s before n after h =
    let told = inv_ok _ (preparing s (length before) >>= λ p. done (length p)) n h.answer in
    let made = inv_bind _ _ _ told.is in
    let p = made.value in
    let many : length p ≡ n = done_inj made.next ∙ told.gives in
    let whole : after ≡ p ++ drop (length p) before = rw made.first at h.room in
    record {
      prepared = rw (whole, take_at p (drop (length p) before) n many) (made_is s (length before) p made.first);
      fits = rw whole (omega (arith, length-append p (drop (length p) before)));
    }

-- ---- refused

-- A room of 8,260 numbers is enough.
enough : (s : List ℕ) (b : Book) → book_of s ≡ done b → (k : ℕ) → 8260 ≤ k → preparing s k ≡ done (prepared_of b)
unfolding preparing ◌>>=◌ must
enough s b e k h =
    let fits : leb (length (prepared_of b)) k ≡ true =
    le-leb (length (prepared_of b)) k (omega (arith, length_prepared (prepared_of_lem s b e).is)) in
    rw (e, fits) refl

-- So nothing but the book is refused.
pub book_refused : (s before : List ℕ) (z : Refusal) (after : List ℕ) → 8260 ≤ length before
    → Prepares s before (Err z) after → book_of s ≡ refused z.reason z.place
unfolding preparing ◌>>=◌
book_refused s before z after k h = go (book_of s) refl (inv_err _ _ z h.answer)
  where
    go : (x : Result Book) → book_of s ≡ x
        → (preparing s (length before) >>= λ p. done (length p)) ≡ refused z.reason z.place → x ≡ refused z.reason z.place
    go (done b) e q = let made = rw (enough s b e (length before) k) at q in cc
    go (refused m i) e q = let refused-so = rw e at q in cc

-- What is not accepted is not prepared.
pub not_accepted : (s : List ℕ) (z : Refusal) → ◌≡◌ {A = Told (Unit {0})} (Err z) (checked (book_of s)) → (room : List ℕ)
    → Prepares s room (Err z) room
unfolding told preparing room_after ◌>>=◌
not_accepted s z h room =
    let is = inv_err _ (book_of s) z h in record { answer = rw is refl; room = rw is refl }

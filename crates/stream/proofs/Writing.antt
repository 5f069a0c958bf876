-- What the judging of a listing says of the message that it gives, and what is left in the room.
use mathlib.Core.Path.{◌≡◌, ap, refl, sym, ◌∙◌}
use mathlib.Core.Bool.{Bool, true, false}
use mathlib.Core.List.{List, ◌++◌, append-nil}
use mathlib.Core.Logic.{◌⊎◌, inl, inr}
use Prim.Native.Nat.{ℕ, zero, suc, ◌+◌, ◌≤◌, ◌<◌}
use native.Mathlib.Nat.{zero-add}
use native.Mathlib.Omega.{arith}
use lib.Dec.{leb}
use lib.ListN.{drop, length, length-replicate, replicate, take}
use lib.Seq.{drop-length, length-take-le, sets, sets-eq, take_at}
use borrow.Author.Tests.{le-leb, lt-leb}
use Rattle.std.specs.Prelude.{Err, None, Ok, Some}
use Rattle.std.proofs.lemmas.Slice.{drop-append-drop}
use Rattle.layout.specs.Result.{Result, done, refused, must, or_refuse, ◌and◌, ◌>>=◌}
use Rattle.layout.specs.BookRules.{groups_good}
use Rattle.layout.specs.Operations.{Told, WritesAs, refusal, room_after, told}
use Rattle.layout.specs.Writing.{judge_listing, message_octets, row_length, write_in}
use Rattle.layout.specs.Values.{Values}
use Rattle.layout.specs.declared.Reason.{Reason}
use Rattle.layout.specs.declared.Reason.TheVariants.{MessageTooLong, WriteTemplateUnknown}
use Rattle.layout.specs.declared.Refusal.{Refusal}
use Rattle.layout.proofs.Lengths.{written_long}
use Rattle.layout.proofs.Told.{Gives, inv_err, inv_ok}
use Rattle.prepared.specs.Positions.{BlockAt, IsRow, groups_at, inner_at, is_counted, shape_at}
use Rattle.prepared.specs.Books.{IsPrepared, book_at, location_of, template_at}
use Rattle.prepared.proofs.Books.{holds_book}
use Rattle.prepared.proofs.Found.{found, not_found}
use Rattle.judges.specs.Judges.{capped, judged, listing_end}
use Rattle.judges.specs.declared.Judged.{Judged}
use Rattle.prints.specs.Prints.{numbers_of}
use Rattle.writer.specs.Zeros.{Ready}
use Rattle.writer.specs.Parts.{message_part}
use Rattle.writer.proofs.Message.{message_octets_lem, message_ready}
use Rattle.writer.proofs.Zeros.{zeros_put}
use Rattle.stream.specs.Written.{written_by}

-- A refusal, whatever it is.
as_refused : (w : ℕ → Result (List ℕ)) (before : List ℕ) (r : Reason) (p : ℕ) → w (length before) ≡ refused r p
    → WritesAs w before (Err (refusal r p)) before
unfolding ◌>>=◌ told room_after
as_refused w before r p e = record { answer = rw e refl; room = rw e refl }

second_of : (t : Bool) → (t and false) ≡ false
unfolding ◌and◌
second_of true = refl
second_of false = refl

-- ---- what stands is good

good_row : (p : List ℕ) (depth n a : ℕ) → IsRow p depth n a → groups_good (groups_at p depth n a) ≡ true
unfolding IsRow groups_at groups_good ◌and◌
good_row p zero zero a r = refl
good_row p (suc depth) zero a r = refl
good_row p zero (suc n) a r = absurd r
good_row p (suc depth) (suc n) a r =
    rw (r.0.good, good_row p depth _ _ r.1, good_row p (suc depth) n _ r.2) refl

-- ---- rooms

-- n octets xs, stored over all of z, which stands in the first n of a room: the room past them is as it was.
laid_over : (xs before z ys : List ℕ) (n : ℕ) → length xs ≡ n → length z ≡ n → ys ≡ sets z 0 xs
    → ys ++ drop n (z ++ drop n before) ≡ xs ++ drop n before
laid_over xs before z ys n long front y =
    let here : length xs ≡ length z = long ∙ sym front in
    let first : ys ≡ xs =
    y ∙ rw (sets-eq xs z 0 (omega (arith, here)), zero-add, here, drop-length z, append-nil xs) refl in
    rw (first, drop-append-drop n before z n (omega arith) front) refl

-- ---- by a block

pub write_refused : (p : List ℕ) (a : ℕ) (l pool before : List ℕ) (z : Refusal) → ◌≡◌ {A = Told Judged} (Err z)
    (judged (listing_end (is_counted p) (shape_at p a) (inner_at p 4 a) l) (judge_listing l pool (template_at p a)))
    → WritesAs (written_by (book_at p) (template_at p a) l pool) before (Err z) before
unfolding written_by ◌>>=◌
write_refused p a l pool before z e = as_refused _ before _ _ (rw (inv_err _ _ z e) refl)

-- The listing is good for the block at a: it comes to j, and its message has 12 + j.length octets, if that is not too
-- long.
pub record IsGood (p : List ℕ) (a : ℕ) (l pool : List ℕ) (j : Judged) : Type 0 where
  pub block : BlockAt p 4 a
  pub is : Ok j
      ≡ judged (listing_end (is_counted p) (shape_at p a) (inner_at p 4 a) l) (judge_listing l pool (template_at p a))

module _ {p : List ℕ} {a : ℕ} {l pool : List ℕ} {j : Judged} (good : IsGood p a l pool j) (before : List ℕ) where
  abbrev written : ℕ → Result (List ℕ)
  written = written_by (book_at p) (template_at p a) l pool

  abbrev n : ℕ
  n = 12 + j.length

  abbrev ended : Values → Judged
  ended r = let x = listing_end (is_counted p) (shape_at p a) (inner_at p 4 a) l r in record { next = x.0; length = x.1 }

  read : Gives ended (judge_listing l pool (template_at p a)) j
  read = inv_ok ended _ j good.is

  counted : j.length ≡ capped (row_length (is_counted p) (shape_at p a) (inner_at p 4 a) read.value)
  counted = sym (ap (λ (j : Judged). j.length) read.gives)

  pub write_small : j.length ≤ 65536
  write_small = omega (arith, counted)

  abbrev message : List ℕ
  message = message_octets (book_at p) (template_at p a) pool read.value

  long : length message ≡ 12 + row_length (is_counted p) (shape_at p a) (inner_at p 4 a) read.value
  unfolding ◌and◌
  long =
      written_long l pool (book_at p) (template_at p a) read.value
      (rw (good.block.block.good, good_row p 4 _ _ good.block.row) refl) read.is

  -- Whether there is room, and whether it is not too long.
  written_is : (s t : Bool) → leb (length message) (length before) ≡ s → leb (length message) 65535 ≡ t
      → written (length before) ≡ (must (s and t) MessageTooLong 0 >>= λ _. done message)
  unfolding written_by ◌>>=◌
  written_is s t e f = rw (read.is, e, f) refl

  pub write_full : (65535 < n) ⊎ ((n ≤ 65535) × (length before < n))
      → WritesAs written before (Err (refusal MessageTooLong 0)) before
  unfolding must ◌>>=◌ ◌and◌
  write_full (inl more) =
      as_refused written before MessageTooLong 0
      (written_is _ false refl (lt-leb (length message) 65535 (omega (arith, long, counted, more)))
      ∙ rw (second_of _) refl)
  write_full (inr (short, more)) =
      as_refused written before MessageTooLong 0
      (written_is false _ (lt-leb (length message) (length before) (omega (arith, long, counted, short, more))) refl)

  module _ (short : n ≤ 65535) (fits : n ≤ length before) (z : List ℕ)
      (zeroed : z ≡ replicate (length (take n before)) 0) where
    size : length message ≡ n
    size = omega (arith, long, counted, short)

    zeros : z ≡ replicate n 0
    zeros = rw (length-take-le n before fits) at zeroed

    front : length z ≡ n
    front = rw zeros (length-replicate n 0)

    -- What is lent on of the room.
    lent : take n (z ++ drop n before) ≡ z
    lent = take_at z (drop n before) n front

    pub write_ready : Ready (message_part l pool (book_at p) (template_at p a)) (take n (z ++ drop n before))
    write_ready =
        let many : length (replicate {A = ℕ} n 0) ≡ n = length-replicate n 0 in
        let put : sets before 0 (replicate n 0) ≡ z ++ drop n before =
        rw (sets-eq (replicate n 0) before 0 (omega (arith, many, fits)), zeros, zero-add, many) refl in
        message_ready l pool (book_at p) (template_at p a) read.value read.is _ (rw put at (zeros_put before n fits))
        (rw lent (omega (arith, size, front)))

    pub write_done : (ys : List ℕ)
        → ys ≡ sets (take n (z ++ drop n before)) 0 (numbers_of (message_part l pool (book_at p) (template_at p a)))
        → WritesAs written before (Ok n) (ys ++ drop n (z ++ drop n before))
    unfolding must ◌>>=◌ ◌and◌ told room_after
    write_done ys stored =
        let room = le-leb (length message) (length before) (omega (arith, size, fits)) in
        let is = written_is true true room (le-leb (length message) 65535 (omega (arith, size, short))) in
        let octets = message_octets_lem l pool (book_at p) (template_at p a) read.value read.is in
        record {
          answer = rw (is, size) refl;
          room = rw (is, size) (laid_over message before z ys n size front (rw (lent, octets) at stored));
        }

-- ---- by a book

module _ (p : List ℕ) (book : IsPrepared p) (id : ℕ) where
  module _ (l pool before : List ℕ) where
    pub write_unknown : None ≡ location_of p id
        → WritesAs (write_in (book_at p) id l pool) before (Err (refusal WriteTemplateUnknown 0)) before
    unfolding or_refuse ◌>>=◌
    write_unknown e =
        as_refused (write_in (book_at p) id l pool) before WriteTemplateUnknown 0
        (rw (not_found p (holds_book book) id (sym e)) refl)

  module _ (a : ℕ) (e : Some a ≡ location_of p id) where
    pub write_block : BlockAt p 4 a
    write_block = (found p (holds_book book) id a (sym e)).block

    pub write_found : (l pool before : List ℕ) (r : Told ℕ) (after : List ℕ)
        → WritesAs (written_by (book_at p) (template_at p a) l pool) before r after
        → WritesAs (write_in (book_at p) id l pool) before r after
    unfolding written_by or_refuse ◌>>=◌
    write_found l pool before r after w =
        let t = (found p (holds_book book) id a (sym e)).template in
        record { answer = rw t w.answer; room = rw t w.room }

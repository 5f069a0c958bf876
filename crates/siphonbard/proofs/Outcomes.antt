-- No two outcomes satisfy the contract of a function that an export calls: its reply, and what it leaves in a room that
-- it was lent, follow from what it was called with. The contracts are those of src/lib.rt themselves: `ended` is a
-- function's signature, and `Post` what its `ensures` says of the arguments, the reply and the arguments at the return.
-- A stream's `requires` is not needed.
use mathlib.Core.Path.{◌≡◌, ◌∙◌, ap, refl, sym}
use contract.Lifetimes.{Lfts}
use denote.Triple.Clauses.{AtExit, Ended, Lasts, at_exit}
use denote.Triple.Entry.{Args, Res}
use Rattle.siphonbard.specs.contracts.siphonbard_check as check
use Rattle.siphonbard.proofs.siphonbard_check.Reads as check_reads
use Rattle.siphonbard.specs.contracts.siphonbard_check_book as check_book
use Rattle.siphonbard.proofs.siphonbard_check_book.Reads as check_book_reads
use Rattle.siphonbard.specs.contracts.siphonbard_list as list
use Rattle.siphonbard.proofs.siphonbard_list.Reads as list_reads
use Rattle.siphonbard.specs.contracts.siphonbard_place as place
use Rattle.siphonbard.proofs.siphonbard_place.Reads as place_reads
use Rattle.siphonbard.specs.contracts.siphonbard_prepare as prepare
use Rattle.siphonbard.proofs.siphonbard_prepare.Reads as prepare_reads
use Rattle.siphonbard.specs.contracts.siphonbard_stream_check as stream_check
use Rattle.siphonbard.proofs.siphonbard_stream_check.Reads as stream_check_reads
use Rattle.siphonbard.specs.contracts.siphonbard_stream_list as stream_list
use Rattle.siphonbard.proofs.siphonbard_stream_list.Reads as stream_list_reads
use Rattle.siphonbard.specs.contracts.siphonbard_stream_place as stream_place
use Rattle.siphonbard.proofs.siphonbard_stream_place.Reads as stream_place_reads
use Rattle.siphonbard.specs.contracts.siphonbard_stream_write as stream_write
use Rattle.siphonbard.proofs.siphonbard_stream_write.Reads as stream_write_reads
use Rattle.siphonbard.specs.contracts.siphonbard_write as write
use Rattle.siphonbard.proofs.siphonbard_write.Reads as write_reads

-- An outcome is a reply, and for each buffer that may be stored to what is left in it.
module _ (f : Ended)
    (Post : (κs : Lfts f.signature.lifetimes) → Args f.signature κs → Res f.signature κs → AtExit f κs
    → Type 0) where
  abbrev pub OneOutcome : Type 0
  OneOutcome =
      (κs : Lfts f.signature.lifetimes) (args : Args f.signature κs) (r r' : Res f.signature κs)
      (left left' : Lasts f κs args)
      → Post κs args r (at_exit f κs args left)
      → Post κs args r' (at_exit f κs args left')
      → (r ≡ r') × (left ≡ left')

-- ---- any octets whatever

pub siphonbard_check_book_has_one_outcome : OneOutcome check_book.ended check_book_reads.Post
siphonbard_check_book_has_one_outcome κs args r r' left left' c c' = (c ∙ sym c', refl)

pub siphonbard_prepare_has_one_outcome : OneOutcome prepare.ended prepare_reads.Post
siphonbard_prepare_has_one_outcome κs args r r' left left' c c' =
    (c.reply ∙ sym c'.reply, ap (λ room. (tt, (room, tt))) (c.room ∙ sym c'.room))

pub siphonbard_check_has_one_outcome : OneOutcome check.ended check_reads.Post
siphonbard_check_has_one_outcome κs args r r' left left' c c' = (c ∙ sym c', refl)

pub siphonbard_list_has_one_outcome : OneOutcome list.ended list_reads.Post
siphonbard_list_has_one_outcome κs args r r' left left' c c' =
    (c.reply ∙ sym c'.reply, ap (λ room. (tt, (tt, (room, tt)))) (c.room ∙ sym c'.room))

pub siphonbard_place_has_one_outcome : OneOutcome place.ended place_reads.Post
siphonbard_place_has_one_outcome κs args r r' left left' c c' = (c ∙ sym c', refl)

pub siphonbard_write_has_one_outcome : OneOutcome write.ended write_reads.Post
siphonbard_write_has_one_outcome κs args r r' left left' c c' =
    (c.reply ∙ sym c'.reply, ap (λ room. (tt, (tt, (tt, (tt, (room, tt)))))) (c.room ∙ sym c'.room))

-- ---- streams

pub siphonbard_stream_check_has_one_outcome : OneOutcome stream_check.ended stream_check_reads.Post
siphonbard_stream_check_has_one_outcome κs args r r' left left' c c' = (c ∙ sym c', refl)

pub siphonbard_stream_list_has_one_outcome : OneOutcome stream_list.ended stream_list_reads.Post
siphonbard_stream_list_has_one_outcome κs args r r' left left' c c' =
    (c.reply ∙ sym c'.reply, ap (λ room. (tt, (tt, (room, tt)))) (c.room ∙ sym c'.room))

pub siphonbard_stream_place_has_one_outcome : OneOutcome stream_place.ended stream_place_reads.Post
siphonbard_stream_place_has_one_outcome κs args r r' left left' c c' = (c ∙ sym c', refl)

pub siphonbard_stream_write_has_one_outcome : OneOutcome stream_write.ended stream_write_reads.Post
siphonbard_stream_write_has_one_outcome κs args r r' left left' c c' =
    (c.reply ∙ sym c'.reply, ap (λ room. (tt, (tt, (tt, (tt, (room, tt)))))) (c.room ∙ sym c'.room))

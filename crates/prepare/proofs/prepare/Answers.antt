-- The numbers are counted, and stored if there is room for them.
use Rattle.std.proofs.Common.{refl, arith}
use Rattle.prepare.proofs.Accepted.{no_room, prepared, ready}
use Rattle.prepare.proofs.prepare.Goals as goal

pub word-n-requires : goal.word-n-requires
word-n-requires c =
    omega (arith, (ready _ c.requires _ refl).lists.fits)

pub size_book-size-requires : goal.size_book-size-requires
size_book-size-requires c =
    ready _ c.requires _ c.word-n.ensures.value

pub returns-then-room-size : goal.returns-then-room-size
returns-then-room-size c =
    rw c.refuse.ensures (no_room _ c.requires _ c.word-n.ensures.value _ _ c.size_book-size.ensures c.if-room-size.true)

pub put_book-requires : goal.put_book-requires
put_book-requires c =
    (ready _ c.requires _ c.word-n.ensures.value, omega (arith, c.size_book-size.ensures))

pub returns : goal.returns
returns c =
    prepared _ c.requires _ c.word-n.ensures.value _ _ c.size_book-size.ensures c.if-room-size.false _ c.put_book.ensures

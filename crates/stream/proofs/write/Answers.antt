-- The template's block, if it is in the book, and then the listing by it.
use Rattle.prepared.proofs.Books.{holds_book}
use Rattle.stream.proofs.Writing.{write_block, write_found, write_unknown}
use Rattle.stream.proofs.write.Goals as goal

pub find-requires : goal.find-requires
find-requires c = holds_book c.requires

pub returns-in_default : goal.returns-in_default
returns-in_default c =
    let a = c.args in
    rw c.refuse.ensures (write_unknown _ c.requires _ a.listing.now a.pool.now _ c.in_default.ensures)

pub write_by-requires : goal.write_by-requires
write_by-requires c = write_block _ c.requires _ _ c.in-Some.ensures

pub returns : goal.returns
returns c = write_found _ c.requires _ _ c.in-Some.ensures _ _ _ _ _ c.write_by.ensures

-- The numbers that were counted are the prepared book.
use mathlib.Core.Path.{refl}
use native.Mathlib.Omega.{arith}
use Rattle.std.proofs.Common.{sym, length-take-le}
use Rattle.layout.specs.Operations.{told}
use Rattle.prepare.proofs.Prepared.{book_refused, has_prepared}
use Rattle.siphonbard.proofs.by_book.Goals as goal

pub slice_bounds-numbers-end : goal.slice_bounds-numbers-end
slice_bounds-numbers-end g c = (has_prepared _ _ _ _ c.in-Ok.ensures).fits

pub slice_bounds-reply-end : goal.slice_bounds-reply-end
slice_bounds-reply-end g c = sym (length-take-le _ _ (has_prepared _ _ _ _ c.in-Ok.ensures).fits)

pub reply-requires : goal.reply-requires
reply-requires g c = c.requires _ (has_prepared _ _ _ _ c.in-Ok.ensures).prepared.is

pub returns-in-Ok : goal.returns-in-Ok
unfolding told
returns-in-Ok g c = let has = (has_prepared _ _ _ _ c.in-Ok.ensures).prepared in rw has.back (_, has.is, refl, c.reply.ensures)

pub returns-in-Err : goal.returns-in-Err
unfolding told
returns-in-Err g c = rw (book_refused _ _ _ _ (omega arith) c.in-Err.ensures) (c.into.ensures, refl)

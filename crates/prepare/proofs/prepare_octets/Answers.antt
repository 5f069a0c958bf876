-- An accepted book is a book, so it is prepared; a refused book answers itself.
use Rattle.std.proofs.lemmas.Result.{err_from_is_err_and}
use Rattle.prepare.proofs.Accepted.{is_book}
use Rattle.prepare.proofs.Prepared.{not_accepted}
use Rattle.prepare.proofs.prepare_octets.Goals as goal

pub prepare-requires : goal.prepare-requires
prepare-requires c =
    is_book _ _ c.in_ok-check.ensures

pub returns-in_err-check : goal.returns-in_err-check
returns-in_err-check c =
    let p = err_from_is_err_and c.from_residual.result c.from_residual.ensures.1 in
    rw (p.1, p.2) (not_accepted _ _ c.in_err-check.ensures _)

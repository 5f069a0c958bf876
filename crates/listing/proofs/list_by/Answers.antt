-- `list_by` is safe: what was prepared is a prepared book.
use Rattle.std.proofs.Common.{sym, length-take-le}
use Rattle.prepare.proofs.Prepared.{has_prepared}
use Rattle.listing.proofs.list_by.Goals as goal

pub slice_bounds-numbers-end : goal.slice_bounds-numbers-end
slice_bounds-numbers-end g c = (has_prepared _ _ _ _ c.in-Ok.ensures).fits

pub slice_bounds-list_rest-end : goal.slice_bounds-list_rest-end
slice_bounds-list_rest-end g c = sym (length-take-le _ _ (has_prepared _ _ _ _ c.in-Ok.ensures).fits)

pub list_rest-requires : goal.list_rest-requires
list_rest-requires g c = (has_prepared _ _ _ _ c.in-Ok.ensures).prepared.is

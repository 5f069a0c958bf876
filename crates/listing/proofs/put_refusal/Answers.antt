-- What is gathered grows by each part of a line.
use mathlib.Core.List.{append_assoc}
use Rattle.std.proofs.Common.{decimal, ◌∷◌, []}
use Rattle.std.proofs.lemmas.Result.{on_ok_weaker}
use Rattle.std.proofs.lemmas.Fmt.{contents_after_writes}
use Rattle.layout.specs.Reasons.{number_of}
use Rattle.listing.proofs.put_refusal.Goals as goal

pub returns : goal.returns
returns c =
    let z = c.args.refusal in
    rw (← append_assoc (decimal (number_of z.reason)) (32 ∷ decimal z.place) (10 ∷ []))
    (on_ok_weaker _ (contents_after_writes _ (λ l. l.bytes) (λ _ _ _ t. t) _ _ _) c.writeln.ensures.writes)

-- A kind that there is not is told as a place that no book has.
use mathlib.Core.Path.{◌∙◌, ap, sym}
use Rattle.siphonbard.specs.Places.{place_told_in}
use Rattle.siphonbard.specs.Replies.{say_found}
use Rattle.siphonbard.proofs.Places.{no_kind}
use Rattle.stream.specs.Places.{no_place}
use Rattle.stream.proofs.Places.{unknown}
use Rattle.siphonbard.proofs.siphonbard_stream_place.Goals as goal

pub returns-in-None : goal.returns-in-None
unfolding place_told_in
returns-in-None c =
    rw (sym c.ask_for.ensures ∙ c.in-None.is)
    (c.into-in-None.ensures ∙ ap say_found (unknown _ _ c.no_place.ensures ∙ ap no_place c.check.ensures ∙ no_kind _))

-- The data were accepted, so that they are passed.
use Rattle.store.proofs.Parts.{skip_ends}
use Rattle.store.proofs.pass_datas.Goals as goal

pub returns : goal.returns
returns c =
    rw c.unwrap_or.ensures (skip_ends _ c.requires.0 c.skip_datas.ensures.value _ _ c.skip_datas.ensures.inside _)

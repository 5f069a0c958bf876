-- The groups were accepted, so that they are passed.
use Rattle.store.proofs.Parts.{skip_ends}
use Rattle.store.proofs.pass_groups.Goals as goal

pub returns : goal.returns
returns c =
    let sent = c.sent.ensures in
    let skipped = rw (sent.octets, sent.big, sent.counted) at c.skip_groups.ensures in
    rw c.unwrap_or.ensures (skip_ends _ c.requires.0 skipped.value _ _ skipped.inside _)

-- The header, and then the root in the room that follows it.
use Rattle.prints.proofs.Going.{going_end}
use Rattle.writer.proofs.Message.{header_fits, header_zeros, root_headed, root_same}
use Rattle.writer.proofs.write_message.Goals as goal

pub put_header-requires : goal.put_header-requires
put_header-requires c =
    let pre = c.requires in (pre.block_at, header_fits _ _ _ _ pre.ready)

pub write_entries-requires : goal.write_entries-requires
write_entries-requires c =
    let pre = c.requires in
    let laid = c.put_header.ensures in
    record { block_at = (pre.block_at, header_zeros _ _ _ _ pre.ready laid); room = (root_headed _ _ _ _ pre.ready laid).room }

pub returns : goal.returns
returns c =
    let ready = c.requires.ready in
    rw (root_same _ _ _ _ ready)
    (going_end (root_headed _ _ _ _ ready c.put_header.ensures) c.write_entries.ensures).room

-- So many rows of the table are stored; the need is that of their fields.
use Rattle.std.proofs.Common.{◌≡◌}
use lib.Seq.{sets}
use Rattle.layout.specs.Book.{need_after}
use Rattle.prepare.specs.Names.{fields_in, table_in, version_of}
use Rattle.prepare.proofs.put_table.Given as goal

abbrev pub invariant-loop-i : goal.invariant-loop-i
invariant-loop-i l =
    let fs = fields_in l.book l.body l.i l.from in
    (l.need ≡ need_after (version_of l.book) 0 fs) × (l.room ≡ sets l.initial.room l.start (table_in l.book fs))

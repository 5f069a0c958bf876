-- So many numbers were seen, and those that are left are to come.
use Rattle.std.proofs.Common.{◌≡◌, ◌+◌}
use Rattle.layout.specs.BookRules.{head_size}
use Rattle.prepared.specs.Numbers.{sizes_of}
use Rattle.prepare.specs.Templates.{templates_at}
use Rattle.prepare.proofs.Templates.{templates_from}
use Rattle.prepare.proofs.size_templates.Given as goal

abbrev pub invariant-loop-i : goal.invariant-loop-i
invariant-loop-i l =
    sizes_of (templates_at l.book l.n head_size) ≡ l.seen + sizes_of (templates_from l.book l.n l.i)

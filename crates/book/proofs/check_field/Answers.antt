-- Test
use mathlib.Core.Path.{◌≡◌}
use native.Mathlib.Omega.{arith}
use Rattle.layout.specs.Octets.{words_of}
use Rattle.layout.specs.BookRules.{field_at, field_good, lists_of}
use Rattle.book.proofs.Rows.{known}
use Rattle.book.proofs.check_field.Goals as goal

pub returns : goal.returns
returns c =
    let a = c.args in
    let layout : c.if-end-l.rules ≡ field_good a.l a.e (field_at (lists_of (words_of a.book.now)) (words_of a.body.now) a.w) = grind (arith, known) in
    cc

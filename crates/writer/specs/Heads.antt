-- What is read of the block at a is what stands there.
use Rattle.std.specs.Prelude.{◌≡◌, List, ℕ, ◌+◌}
use Rattle.layout.specs.BookRules.{word}
use Rattle.writer.specs.declared.Head.{Head}

pub record IsHead (p : List ℕ) (a : ℕ) (h : Head) : Type 0 where
  pub length : h.length ≡ word p (a + 2)
  pub fields : h.fields ≡ word p (a + 3)
  pub table : h.table ≡ word p (a + 11)
  pub follow : h.follow ≡ word p (a + 7)

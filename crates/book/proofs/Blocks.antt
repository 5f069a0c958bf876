-- A block, as the code's tests find it.
use mathlib.Core.Path.{◌≡◌, refl}
use mathlib.Core.Bool.{Bool, false, true}
use mathlib.Core.List.{List}
use Prim.Native.Nat.{◌*◌, ◌+◌, ◌<◌, ◌≤◌, ℕ}
use lib.Dec.{leb, ltb}
use lib.ListN.{length}
use borrow.Author.Tests.{le-leb, lt-leb}
use Rattle.std.specs.Prelude.{None, Option, Some}
use Rattle.layout.specs.Result.{◌>>=◌, ◌and◌, must}
use Rattle.layout.specs.Lists.{NameList}
use Rattle.layout.specs.Book.{data_sinces, field_sinces}
use Rattle.layout.specs.BookRules.{fields_good, fields_since, parse_datas, parse_fields, parse_shape, rising, word}
use Rattle.book.specs.Answers.{block_of, rules_are}
use Rattle.book.specs.declared.Block.{Block}
use Rattle.book.proofs.Rows.{known}

module _ (ls : List NameList) (b : List ℕ) (few w version low high top : ℕ) where
  abbrev f : ℕ
  f = word b (w + 1)

  abbrev g : ℕ
  g = word b (w + 2)

  abbrev d : ℕ
  d = word b (w + 3)

  abbrev pub counts_good : Bool
  counts_good = leb few f and leb f 64 and leb g 16 and leb d 16

  abbrev past : ℕ
  past = w + 4 + 7 * f + 2 * d

  abbrev answer : Option Block
  answer = block_of version low high top (parse_shape ls b few w)

  pub block_short : length b < w + 4 → answer ≡ None
  unfolding parse_shape block_of must ◌>>=◌
  block_short h = rw (lt-leb (w + 4) (length b) h) refl

  module _ (there : w + 4 ≤ length b) where
    pub block_counts : counts_good ≡ false → answer ≡ None
    unfolding parse_shape block_of must ◌>>=◌
    block_counts c = rw (le-leb (w + 4) (length b) there, c) refl

    module _ (counts : counts_good ≡ true) where
      pub block_long : length b < past → answer ≡ None
      unfolding parse_shape block_of must ◌>>=◌
      block_long l = rw (le-leb (w + 4) (length b) there, counts, lt-leb past (length b) l) refl

      pub block_whole : past ≤ length b → let l = word b w in let fs = parse_fields ls b f (w + 4) in
          answer
          ≡ Some (record {
            groups = g;
            next = past;
            rules =
                rules_are (ltb l 65535 and fields_good l 0 fs)
                (fields_since version low high (field_sinces fs)
                and rising top low (data_sinces (parse_datas b d (w + 4 + 7 * f))));
          })
      unfolding parse_shape block_of must ◌>>=◌
      block_whole h = rw (le-leb (w + 4) (length b) there, counts, le-leb past (length b) h) refl

pub ruleset block_laws = (known, block_short, block_counts, block_long, block_whole)

-- What a turn reads stands behind what came before it.
use Rattle.std.proofs.Common.{◌≡◌, ℕ, ◌+◌, ◌≤◌, List, ◌++◌, length, take, rules, subst, sym, length-take-le}
use Rattle.std.proofs.lemmas.List.{take-append-le}
use Rattle.std.proofs.Math.Seq.{take-append-add}
use Rattle.std.proofs.KnownBytes.{Consumes-trans}
use Rattle.std.specs.Io.KnownBytes.{Consumes}
use borrow.Rule.Slice.PartMut.{put_mid, post_of}
use Rattle.input.proofs.read_full.Goals as goal

stands : (at n k : ℕ) (room part : List ℕ) → at ≤ length room → n ≤ length part
    → take at room ++ take n part ≡ take (at + n) (put_mid at k room part)
stands at n k room part within fits =
    let behind = take-append-add (take at room) (part ++ post_of at k room) n in
    rw (length-take-le at room within, take-append-le n part (post_of at k room) fits) at (sym behind)

pub loop-came-preserved : goal.loop-came-preserved
loop-came-preserved g c =
    let l = c.loop-came in (
      search rules,
      subst (Consumes _ _) (stands l.came c.in-Ok.count _ l.room c.read.new.buf l.invariant.0 c.in-Ok.ensures.bound.0)
          (Consumes-trans _ _ _ _ _ l.invariant.1 c.in-Ok.ensures.bytes.0),
    )

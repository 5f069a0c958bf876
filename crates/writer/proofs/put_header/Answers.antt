-- Two numbers at a time; the counts are those of the tree.
use mathlib.Core.List.{[], ◌∷◌}
use Rattle.layout.specs.Writing.{counts_of}
use Rattle.layout.proofs.Accepted.{datas_length_lem}
use Rattle.prepared.proofs.Open.{length_row}
use Rattle.writer.proofs.Message.{numbers_laid}
use Rattle.writer.proofs.put_header.Goals as goal

pub returns : goal.returns
unfolding counts_of
returns c =
    rw (length_row _ _ _ _ c.requires.0.row, datas_length_lem, ← c.is_big-big.ensures)
    (numbers_laid _ _ _ (_ ∷ _ ∷ _ ∷ _ ∷ []) (_ ∷ _ ∷ [])
    (numbers_laid _ _ _ (_ ∷ _ ∷ []) (_ ∷ _ ∷ []) c.put_two.ensures c.put_two-2.ensures)
    c.put_two-3.ensures)

-- Four stores and the words of the list's numbers.
use Rattle.std.proofs.Common.{arith}
use Rattle.prepare.proofs.Lists.{list_size_lem, list_stored, numbers_rise}
use Rattle.prepare.proofs.put_list.Goals as goal

pub mask_of-requires : goal.mask_of-requires
mask_of-requires c =
    let list = c.requires.0 in (
      omega (arith, list.row.lies, c.word-first.ensures.value, c.word-n.ensures.value),
      rw (c.word-first.ensures.value, c.word-n.ensures.value) (numbers_rise _ _ list),
    )

pub returns : goal.returns
returns c =
    let list = c.requires.0 in
    record {
      value = omega (arith, list_size_lem _ _ list, list.some_words, c.word-n.ensures.value);
      room_after = list_stored _ _ list _ _ _ _ _ c.args.at c.args.room.now _ c.word-first.ensures.value
          c.word.ensures.value c.word-2.ensures.value c.mask_of.ensures
          (omega (arith, c.word-n.ensures.value)) c.copy_words.ensures;
    }

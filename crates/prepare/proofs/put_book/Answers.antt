-- The head, empty slots and the lists are stored, and then each template in turn.
use Rattle.std.proofs.Common.{ℕ, ◌≡◌, List, [], ◌∷◌, length, drop, replicate, refl, sym, ap, ◌∙◌, arith, length-drop, length-take-le}
use lib.Seq.{length-sets, sets}
use Rattle.layout.specs.Octets.{words_of}
use Rattle.book.proofs.Rows.{lists_length}
use Rattle.prepared.specs.Numbers.{lists_from, lists_numbers, slots}
use Rattle.prepare.specs.Names.{lists_in}
use Rattle.prepare.proofs.Filling.{mid_sets}
use Rattle.prepare.proofs.Templates.{all_laid, laying_on}
use Rattle.prepare.proofs.put_book.Goals as goal

pub loop-i-preserved : goal.loop-i-preserved
loop-i-preserved c =
    let made = c.put_template-at.ensures in
    laying_on c.loop-i.invariant c.loop-i-test.true _ _ made.value made.room_after

pub returns : goal.returns
returns c =
    let a = c.args in
    let s = a.book.now in
    let head = c.word.result ∷ c.word-2.result ∷ a.n ∷ c.word-3.result ∷ c.order_of.result ∷ c.dimension_size.result ∷ [] in
    let e = sets a.room.now 0 head in
    let long : length e ≡ length a.room.now = length-sets a.room.now 0 head in
    let many = length-take-le 64 (drop 6 e) (omega (arith, long, length-drop 6 e)) in
    let zeros = mid_sets e 6 64 (replicate slots 0) (c.fill.ensures.after (λ y h. h) ∙ ap (λ n. replicate n 0) many) refl
    (omega (arith, long)) in
    let listed : List ℕ → List ℕ = λ d. sets d (lists_from a.n) (lists_numbers (lists_in s)) in
    all_laid c.loop-i.invariant c.loop-i-test.false _ _ _ _ _ a.room.now c.requires.0.count
    c.word.ensures.value c.word-2.ensures.value
    (c.word-3.ensures.value ∙ sym (lists_length (words_of s) _ _)) c.order_of.ensures.value
    c.dimension_size.ensures
    (c.put_lists-at.ensures.room_after ∙ ap listed zeros)

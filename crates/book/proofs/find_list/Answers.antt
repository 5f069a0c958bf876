-- Numbers rise along the rows, so that a search finds the one with this number.
use Rattle.std.proofs.Common.{◌≡◌, ◌-◌, arith, rules}
use Rattle.layout.specs.Octets.{words_of}
use Rattle.layout.specs.BookRules.{word}
use Rattle.bisect.proofs.Rising.{is_place}
use Rattle.book.proofs.Rows.{list_id, list_rises, listed_as}
use Rattle.book.proofs.find_list.Goals as goal

pub returns : goal.returns
returns c =
    let b = words_of c.args.book.now in
    let rising = list_rises _ c.requires in
    let find = rw c.word.ensures.value at c.find.ensures in
    let rows = c.word-templates.ensures.value in
    listed_as b c.args.id rising _
    (is_place (list_id b) (word b 4) c.args.id rising _ find.inside find.met find.missing
    (λ i h. rw (← rows) (search (rules, h)))
    (λ h. (
      h.0,
      h.1,
      λ g. let y = h.2 g in let same : y.0 ≡ list_id b (h.0 - 1) = rw (← rows) (search (rules, y.2)) in omega (arith, y.1, same),
      λ g. let y = h.3 g in let same : y.0 ≡ list_id b h.0 = rw (← rows) (search (rules, y.2)) in omega (arith, y.1, same),
    )))

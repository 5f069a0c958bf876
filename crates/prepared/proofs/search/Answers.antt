-- Ids rise along the rows, so that a search finds the one with this id.
use Rattle.std.proofs.Common.{◌≡◌, ◌∙◌, ◌-◌, None, arith, rules, sym}
use Rattle.layout.specs.BookRules.{word}
use Rattle.bisect.proofs.Rising.{is_place}
use Rattle.prepared.specs.Books.{id_of}
use Rattle.prepared.proofs.Rows.{found_at, not_found}
use Rattle.prepared.proofs.search.Goals as goal

pub returns-in_err-row : goal.returns-in_err-row
returns-in_err-row c =
    let p = c.args.p.now in
    let find = rw c.number.ensures at c.in_err-row.ensures in
    c.from_residual.ensures
    ∙ sym (not_found _ c.requires _ (is_place (id_of p) (word p 2) c.args.id c.requires.rising None find.inside find.met find.missing
    (λ i h. absurd h)
    (λ h. (
      h.0,
      h.1,
      λ g. let y = h.2 g in let same : y.0 ≡ id_of p (h.0 - 1) = search (rules, y.2) in omega (arith, y.1, same),
      λ g. let y = h.3 g in let same : y.0 ≡ id_of p h.0 = search (rules, y.2) in omega (arith, y.1, same),
    ))))

pub returns : goal.returns
returns c =
    let find = rw c.number.ensures at c.in_ok-row.ensures in
    rw c.number-2.ensures (sym (found_at _ c.requires _ _ find.inside (search (rules, find.met))))

-- The numbers of a list rise, so that a search finds x if it is among them.
use Rattle.std.proofs.Common.{◌≡◌, ◌+◌, ◌∙◌, ◌-◌, arith, rules}
use Rattle.layout.specs.BookRules.{word}
use Rattle.bisect.proofs.Rising.{is_place}
use Rattle.names.proofs.Rising.{among_as, number_at, rising}
use Rattle.names.proofs.is_among.Goals as goal

pub returns : goal.returns
returns c =
    let p = c.args.p.now in
    let a = c.args.a in
    let find = rw c.number.ensures at c.find.ensures in
    c.is_some.ensures
    ∙ among_as p a c.requires c.args.x _
    (is_place (number_at p a) (word p (a + 3)) c.args.x (rising p a c.requires) _ find.inside find.met find.missing
    (λ i h. search (rules, h))
    (λ h. (
      h.0,
      h.1,
      λ g. let y = h.2 g in let same : y.0 ≡ number_at p a (h.0 - 1) = search (rules, y.2) in omega (arith, y.1, same),
      λ g. let y = h.3 g in let same : y.0 ≡ number_at p a h.0 = search (rules, y.2) in omega (arith, y.1, same),
    )))

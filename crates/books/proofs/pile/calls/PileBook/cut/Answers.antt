use Rattle.std.proofs.Common.{ap, ◌∙◌}
use Rattle.sides.specs.Listing.{accepted, sooner}
use Rattle.book.proofs.Ranked.{sooner_laws}
use Rattle.books.specs.Holding.{held}
use Rattle.books.specs.Sorting.{sorted}
use Rattle.books.proofs.Piling.{accepted_sorted, cut_sorted}
use Rattle.books.proofs.pile.calls.PileBook.cut.Goals as goal

pub returns-clause-list : goal.returns-clause-list
returns-clause-list g c =
    let before = sooner g.S.Rank.Ranking.first in
    let orders = held c.args.self.now.places in
    let is = cut_sorted g.S.Rank.Ranking.first (sooner_laws g.met.S.Rank.Ranking.lawful) c.args.hour c.args.energy orders c.soonest-place.result c.args.self.now.places.filled.4 c.soonest-place.ensures.within c.soonest-place.ensures.first in
    ap (sorted before) c.cut_at.ensures.list ∙ (accepted_sorted before c.cut_at.result _ orders ∙ ap (λ new. accepted c.cut_at.result new (sorted before orders)) is)

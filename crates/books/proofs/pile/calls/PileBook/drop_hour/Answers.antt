use Rattle.std.proofs.Common.{sym, ap, ◌∙◌}
use Rattle.sides.specs.Listing.{sooner}
use Rattle.book.proofs.Ranked.{sooner_laws}
use Rattle.books.specs.Holding.{held}
use Rattle.books.specs.Sorting.{sorted}
use Rattle.books.proofs.Sorting.{sorted_filter, energy_sorted}
use Rattle.books.proofs.pile.calls.PileBook.drop_hour.Goals as goal

pub returns-clause-answer : goal.returns-clause-answer
returns-clause-answer g c =
    c.drop_hour.ensures.answer ∙ sym (energy_sorted (sooner g.S.Rank.Ranking.first) _ (held c.args.self.now.places))

pub returns-clause-list : goal.returns-clause-list
returns-clause-list g c =
    ap (sorted (sooner g.S.Rank.Ranking.first)) c.drop_hour.ensures.list ∙ sym (sorted_filter (sooner g.S.Rank.Ranking.first) (sooner_laws g.met.S.Rank.Ranking.lawful) _ (held c.args.self.now.places) c.args.self.now.places.filled.4)

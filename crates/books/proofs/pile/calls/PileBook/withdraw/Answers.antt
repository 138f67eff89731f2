use Rattle.std.proofs.Common.{sym, ap, ◌∙◌}
use Rattle.sides.specs.Listing.{sooner}
use Rattle.book.proofs.Ranked.{sooner_laws}
use Rattle.books.specs.Holding.{held}
use Rattle.books.specs.Sorting.{sorted}
use Rattle.books.proofs.Piling.{withdrawn_sorted}
use Rattle.books.proofs.Sorting.{found_sorted}
use Rattle.books.proofs.pile.calls.PileBook.withdraw.Goals as goal

pub returns-clause-answer : goal.returns-clause-answer
returns-clause-answer g c =
    c.withdraw.ensures.answer ∙ sym (found_sorted (sooner g.S.Rank.Ranking.first) c.args.serial (held c.args.self.now.places) c.args.self.now.places.filled.4)

pub returns-clause-list : goal.returns-clause-list
returns-clause-list g c =
    ap (sorted (sooner g.S.Rank.Ranking.first)) c.withdraw.ensures.list ∙ withdrawn_sorted (sooner g.S.Rank.Ranking.first) (sooner_laws g.met.S.Rank.Ranking.lawful) c.args.serial (held c.args.self.now.places) c.args.self.now.places.filled.4

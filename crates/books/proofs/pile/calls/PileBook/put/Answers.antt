use Rattle.std.proofs.Common.{◌∙◌}
use Rattle.sides.specs.Listing.{sooner}
use Rattle.book.proofs.Ranked.{sooner_laws}
use Rattle.books.specs.Holding.{held}
use Rattle.books.proofs.Piling.{put_answer_sorted, put_sorted}
use Rattle.books.proofs.pile.calls.PileBook.put.Goals as goal

pub returns-clause-answer : goal.returns-clause-answer
returns-clause-answer g c =
    c.put_last.ensures.answer ∙ put_answer_sorted (sooner g.S.Rank.Ranking.first) _ (held c.args.self.now.places) c.args.order

pub returns-clause-list : goal.returns-clause-list
returns-clause-list g c =
    put_sorted (sooner g.S.Rank.Ranking.first) (sooner_laws g.met.S.Rank.Ranking.lawful) c.put_last.result (held c.args.self.now.places) (held c.put_last.new.self) c.args.order c.put_last.ensures.list c.put_last.new.self.filled.4

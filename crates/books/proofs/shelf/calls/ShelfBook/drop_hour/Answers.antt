use Rattle.std.proofs.Common.{sym, subst}
use Rattle.sides.specs.Listing.{Ranked, sooner}
use Rattle.book.proofs.Ranked.{ranked_filter}
use Rattle.books.specs.Holding.{held}
use Rattle.books.proofs.shelf.calls.ShelfBook.drop_hour.Goals as goal

pub invariant_of-self : goal.invariant_of-self
invariant_of-self g c =
    record { ranked = subst (Ranked (sooner g.S.Rank.Ranking.first)) (sym c.drop_hour.ensures.list) (ranked_filter (sooner g.S.Rank.Ranking.first) _ (held c.args.self.now.places) c.args.self.now.ranked) }

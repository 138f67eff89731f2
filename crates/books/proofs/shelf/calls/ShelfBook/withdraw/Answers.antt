use Rattle.std.proofs.Common.{sym, subst}
use Rattle.sides.specs.Listing.{Ranked, sooner}
use Rattle.book.specs.Lists.{with_serial}
use Rattle.book.proofs.Ranked.{ranked_without_first}
use Rattle.books.specs.Holding.{held}
use Rattle.books.proofs.shelf.calls.ShelfBook.withdraw.Goals as goal

pub invariant_of-self : goal.invariant_of-self
invariant_of-self g c =
    record { ranked = subst (Ranked (sooner g.S.Rank.Ranking.first)) (sym c.withdraw.ensures.list) (ranked_without_first (sooner g.S.Rank.Ranking.first) (with_serial c.args.serial) (held c.args.self.now.places) c.args.self.now.ranked) }

use Rattle.std.proofs.Common.{length, filter, sym, ap, ◌∙◌}
use Rattle.sides.specs.Listing.{sooner}
use Rattle.book.specs.Lists.{of_hour}
use Rattle.books.specs.Holding.{held}
use Rattle.books.proofs.Sorting.{count_sorted}
use Rattle.books.proofs.pile.calls.PileBook.count_of.Goals as goal

pub returns : goal.returns
returns g c =
    c.count.ensures ∙ (ap (λ xs. length (filter (of_hour c.args.hour) xs)) c.held.ensures ∙ sym (count_sorted (sooner g.S.Rank.Ranking.first) (of_hour c.args.hour) (held c.args.self.now.places)))

use Rattle.std.proofs.Common.{sym, ap, ◌∙◌}
use Rattle.std.specs.List.{find}
use Rattle.sides.specs.Listing.{sooner}
use Rattle.book.specs.Lists.{with_serial}
use Rattle.books.specs.Holding.{held}
use Rattle.books.proofs.Sorting.{found_sorted}
use Rattle.books.proofs.pile.calls.PileBook.find.Goals as goal

pub returns : goal.returns
returns g c =
    c.first.ensures ∙ (ap (find (with_serial c.args.serial)) c.held.ensures ∙ sym (found_sorted (sooner g.S.Rank.Ranking.first) c.args.serial (held c.args.self.now.places) c.args.self.now.places.filled.4))

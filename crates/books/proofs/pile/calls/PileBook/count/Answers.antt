use Rattle.std.proofs.Common.{◌≡◌, length, sym, ◌∙◌}
use Rattle.std.proofs.lemmas.List.{length-take-le}
use Rattle.sides.specs.Listing.{sooner}
use Rattle.books.specs.Holding.{held}
use Rattle.books.specs.Sorting.{length_sorted}
use Rattle.books.proofs.pile.calls.PileBook.count.Goals as goal

pub returns : goal.returns
returns g c =
    let all : length (held c.args.self.now.places) ≡ c.args.self.now.places.count = length-take-le _ _ c.args.self.now.places.filled.2 in
    sym (length_sorted (sooner g.S.Rank.Ranking.first) (held c.args.self.now.places) ∙ all)

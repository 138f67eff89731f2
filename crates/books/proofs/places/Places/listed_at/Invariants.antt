use Rattle.std.proofs.Common.{◌≡◌}
use Rattle.std.specs.List.{slice_get}
use Rattle.sides.specs.Listing.{sooner}
use Rattle.books.specs.Holding.{held}
use Rattle.books.specs.Sorting.{sorted}
use Rattle.books.proofs.places.Places.listed_at.Given as goal

abbrev pub invariant-loop-passed : goal.invariant-loop-passed
invariant-loop-passed g l =
    l.found ≡ slice_get (sorted (sooner g.R.Ranking.first) (held l.self)) l._passed

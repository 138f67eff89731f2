use Rattle.std.specs.Option.{option_map}
use Rattle.sides.specs.Listing.{sooner}
use Rattle.books.proofs.Choosing.{Best}
use Rattle.books.proofs.places.Places.soonest.Given as goal

abbrev pub invariant-loop-place : goal.invariant-loop-place
invariant-loop-place g l =
    Best (sooner g.R.Ranking.first) (g.C.Criterion.passes l.criterion) l.order-items (option_map (λ p. (p.0, p.1.now)) l.found) l.place

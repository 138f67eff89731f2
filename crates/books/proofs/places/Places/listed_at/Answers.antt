use Rattle.std.proofs.Common.{sym, ◌∙◌, arith}
use Rattle.sides.specs.Listing.{sooner}
use Rattle.book.proofs.Ranked.{sooner_laws}
use Rattle.books.specs.Holding.{held}
use Rattle.books.specs.Sorting.{sorted, sorted_ranked}
use Rattle.books.proofs.Piling.{none_behind}
use Rattle.books.proofs.Sorting.{slice_get_first, slice_get_next}
use Rattle.books.proofs.places.Places.listed_at.Goals as goal

pub loop-passed-init : goal.loop-passed-init
loop-passed-init g c =
    c.first_among-found.ensures ∙ sym (slice_get_first (sorted (sooner g.R.Ranking.first) (held c.args.self.now)))

pub returns-in_err-found : goal.returns-in_err-found
returns-in_err-found g c =
    c.from_residual.ensures ∙ none_behind (sorted (sooner g.R.Ranking.first) (held c.args.self.now)) c.loop-passed._passed c.args.position (sym c.in_err-found.was ∙ c.loop-passed.invariant) (omega arith)

pub loop-passed-preserved : goal.loop-passed-preserved
loop-passed-preserved g c =
    let before = sooner g.R.Ranking.first in
    let laws = sooner_laws g.met.R.Ranking.lawful in
    let orders = sorted before (held c.args.self.now) in
    c.first_among-found-in-loop-passed.ensures ∙ sym (slice_get_next before laws orders c.loop-passed._passed c.in_ok-found.field-0 (sorted_ranked before laws (held c.args.self.now) c.args.self.now.filled.4) (sym c.loop-passed.invariant ∙ c.in_ok-found.was))

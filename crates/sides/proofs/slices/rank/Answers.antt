use Rattle.std.proofs.Common.{not, drop, ap, ◌∙◌}
use Rattle.std.specs.Bool.{then_some}
use Rattle.sides.specs.Listing.{sooner, stands}
use Rattle.sides.proofs.Scanning.{passed_rank, passed_within}
use Rattle.sides.proofs.slices.rank.Goals as goal

pub split_at-requires : goal.split_at-requires
split_at-requires g c =
    rw c.new_and_sooner-rank.ensures (passed_within (sooner g.R.Ranking.first) c.args.order.now c.args.orders.now)

pub returns : goal.returns
returns g c =
    c.then_some.ensures ∙ (ap (λ found. then_some (not found) c.new_and_sooner-rank.result) (c.stands.ensures ∙ ap (stands c.args.order.now.serial) c.split_at.ensures.back) ∙ (ap (λ n. then_some (not (stands c.args.order.now.serial (drop n c.args.orders.now))) n) c.new_and_sooner-rank.ensures ∙ passed_rank (sooner g.R.Ranking.first) c.args.order.now c.args.orders.now))

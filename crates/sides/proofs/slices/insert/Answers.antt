use Rattle.std.proofs.Common.{◌≡◌, ◌+◌, ◌++◌, ◌<◌, take, length, drop, Some, ap, ◌∙◌, rules, arith}
use Rattle.std.specs.List.{insert}
use Rattle.std.proofs.lemmas.List.{length-take-le}
use Rattle.sides.specs.Listing.{sooner, rank_for}
use Rattle.sides.proofs.Ranks.{rank_within, inserted_at_rank}
use Rattle.sides.proofs.Shifting.{but_the_last}
use Rattle.sides.proofs.slices.insert.Goals as goal

pub insert_at-requires : goal.insert_at-requires
insert_at-requires g c =
    let e : Some c.in_ok-at.at ≡ rank_for (sooner g.R.Ranking.first) c.args.order (take c.args.count c.args.places.now) = search rules in
    let room : c.args.count < length c.args.places.now = search rules in
    let long = length-take-le (c.args.count + 1) c.args.places.now (omega arith) in
    let within = rank_within (sooner g.R.Ranking.first) c.args.order c.args.places.now _ _ e in
    omega arith

pub returns-clause-after : goal.returns-clause-after
returns-clause-after g c =
    let e : Some c.in_ok-at.at ≡ rank_for (sooner g.R.Ranking.first) c.args.order (take c.args.count c.args.places.now) = search rules in
    let room : c.args.count < length c.args.places.now = search rules in
    ap (λ xs. xs ++ drop (c.args.count + 1) c.args.places.now) (c.insert_at.ensures ∙ (ap (λ xs. insert xs c.in_ok-at.at c.args.order) (but_the_last c.args.places.now c.args.count room) ∙ inserted_at_rank (sooner g.R.Ranking.first) c.args.order (take c.args.count c.args.places.now) _ e))

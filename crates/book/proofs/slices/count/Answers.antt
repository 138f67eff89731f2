use Rattle.std.proofs.Common.{◌≡◌, ℕ, Bool, ◌<◌, ◌^◌, cond, sym, ◌∙◌, rules, tests, arith}
use Rattle.std.specs.List.{count_by}
use Rattle.std.proofs.lemmas.Iterator.{YieldsList-from_map, YieldsList-from_slice}
use Rattle.std.proofs.lemmas.Iterator.Consumers.{sum_by_from_yields_List, fits_by_from_yields_list}
use Rattle.std.proofs.lemmas.List.Sums.{length-filter, count_by-le-length}
use Rattle.figures.specs.declared.order.Order.{Order}
use Rattle.book.proofs.slices.count.Goals as goal

-- an order that passes counts as one
abbrev one_if : (Order → Bool) → Order → ℕ
one_if passes x = cond (passes x) 1 0

pub sum-requires-clause-fits : goal.sum-requires-clause-fits
sum-requires-clause-fits g c =
    let passes = g.C.Criterion.passes c.args.criterion.now in
    let most = count_by-le-length passes c.args.orders.now in
    let few : count_by (g.C.Criterion.passes c.args.criterion.now) c.args.orders.now < 2 ^ 64 = omega (arith, most, c.iter.ensures.len, c.iter.ensures.bound) in
    fits_by_from_yields_list (one_if (g.C.Criterion.passes c.args.criterion.now)) c.args.orders.now c.map.result _ (YieldsList-from_map _ (one_if (g.C.Criterion.passes c.args.criterion.now)) (YieldsList-from_slice c.args.orders.now cc) c.map.ensures.closure (λ x r q k. search (rules, tests))) few

pub returns : goal.returns
returns g c =
    let is : c.sum.result ≡ count_by (g.C.Criterion.passes c.args.criterion.now) c.args.orders.now =
    sum_by_from_yields_List (one_if (g.C.Criterion.passes c.args.criterion.now)) c.args.orders.now c.map.result c.sum.result c.sum.ensures.ran (YieldsList-from_map _ (one_if (g.C.Criterion.passes c.args.criterion.now)) (YieldsList-from_slice c.args.orders.now cc) c.map.ensures.closure (λ x r q k. search (rules, tests))) in
    is ∙ sym (length-filter (g.C.Criterion.passes c.args.criterion.now) c.args.orders.now)

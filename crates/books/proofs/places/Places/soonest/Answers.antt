use Rattle.std.proofs.Common.{rules, tests, ◌≡◌, ◌<◌, true, length, ℕ, Option, get_or, Bor, sym, ap, ◌∙◌, subst, arith}
use Rattle.std.specs.List.{find}
use Rattle.std.specs.Option.{IfSome, option_map}
use Rattle.figures.specs.Orders.{blank}
use Rattle.figures.specs.declared.order.Order.{Order}
use Rattle.sides.specs.Listing.{apart, sooner}
use Rattle.book.proofs.Ranked.{sooner_laws}
use Rattle.books.specs.Holding.{order_in}
use Rattle.books.specs.Sorting.{sorted}
use Rattle.books.proofs.Choosing.{best_all, best_within, best_comes, best_stays, is_behind}
use Rattle.books.proofs.places.Places.soonest.Goals as goal
use Rattle.books.proofs.places.Places.soonest.Goals.{then-passed_by+then-not-is_some_and, else-passed_by, else-passed_by-via-then-passed_by+else-not-is_some_and, else-passed_by-via-else-passed_by}

abbrev shown : Option (ℕ × Bor Order) → Option (ℕ × Order)
shown found = option_map (λ p. (p.0, p.1.now)) found

pub loop-place-preserved : goal.loop-place-preserved
loop-place-preserved g c =
    let laws = sooner_laws g.met.R.Ranking.lawful in
    let serials : apart c.held-order-items.result.now ≡ true = ap apart c.held-order-items.ensures ∙ c.args.self.now.filled.4 in
    elim c.if-passed_by.branch [
      | then-passed_by+then-not-is_some_and w ↦
          (let behind : w.is_some_and.result ≡ is_behind (sooner g.R.Ranking.first) (shown c.loop-place.found) (get_or c.held-order-items.result.now c.loop-place.place blank) = search (rules, tests) in
          rw w.found-is (best_comes _ laws _ c.held-order-items.result.now _ _ serials c.loop-place-test.true c.loop-place.invariant (sym c.passed_by.ensures ∙ w.if-passed_by.true) (sym behind ∙ w.if-not-is_some_and.true)))
      | else-passed_by w ↦ rw w.found-is (best_stays _ laws _ c.held-order-items.result.now _ _ serials c.loop-place-test.true c.loop-place.invariant (elim w.else-passed_by.branch [
        | else-passed_by-via-then-passed_by+else-not-is_some_and w' ↦
            (let behind : w'.is_some_and.result ≡ is_behind (sooner g.R.Ranking.first) (shown c.loop-place.found) (get_or c.held-order-items.result.now c.loop-place.place blank) = search (rules, tests) in
            λ _. sym behind ∙ w'.if-not-is_some_and.false)
        | else-passed_by-via-else-passed_by w' ↦ λ e. let failed = w'.if-passed_by.false in let is = c.passed_by.ensures in grind (arith, e, failed, is)
      ]))
    ]

pub returns-clause-within : goal.returns-clause-within
returns-clause-within g c =
    let is : c.map.result ≡ option_map (λ p. p.0) (shown c.loop-place.found) = search (rules, tests) in
    rw is (subst (λ xs. IfSome (option_map (λ p. p.0) (shown c.loop-place.found)) (λ place. place < length xs)) c.held-order-items.ensures (best_within _ _ _ _ _ c.loop-place.invariant))

pub returns-clause-first : goal.returns-clause-first
returns-clause-first g c =
    let is : c.map.result ≡ option_map (λ p. p.0) (shown c.loop-place.found) = search (rules, tests) in
    rw is (subst (λ xs. order_in xs (option_map (λ p. p.0) (shown c.loop-place.found)) ≡ find (g.C.Criterion.passes c.args.criterion.now) (sorted (sooner g.R.Ranking.first) xs)) c.held-order-items.ensures (best_all _ _ _ _ _ c.loop-place.invariant c.loop-place-test.false))

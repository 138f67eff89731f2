use Rattle.std.proofs.Common.{◌≡◌, ℕ, ◌<◌, List, length, Some, Option, ◌∙◌, subst, rules}
use Rattle.std.specs.Option.{IfSome}
use Rattle.figures.specs.declared.order.Order.{Order}
use Rattle.books.proofs.Holding.{cut_accepted, cut_whole, cut_part, part_filled}
use Rattle.books.proofs.places.Places.cut_at.Goals as goal

-- the named place is one where an order stands
here : (xs : List Order) {place : Option ℕ} {at : ℕ} → place ≡ Some at → IfSome place (λ at. at < length xs) → at < length xs
here xs e h = subst (λ place. IfSome place (λ at. at < length xs)) e h

pub invariant_of-self : goal.invariant_of-self
invariant_of-self c =
    let is : c.args.place ≡ Some c.in_ok-at.at = search rules in
    record { filled = part_filled c.args.self.now.orders.now c.args.self.now.count c.in_ok-at.at c.args.energy c.args.self.now.filled (here _ is c.requires) (search rules) }

pub returns-then-energy-left-clause-answer : goal.returns-then-energy-left-clause-answer
returns-then-energy-left-clause-answer c =
    let is : c.args.place ≡ Some c.in_ok-at.at = search rules in
    rw is (cut_accepted c.args.self.now.orders.now c.args.self.now.count c.in_ok-at.at c.args.energy (here _ is c.requires) (search rules) (search rules))

pub returns-then-energy-left-clause-list : goal.returns-then-energy-left-clause-list
returns-then-energy-left-clause-list c =
    let is : c.args.place ≡ Some c.in_ok-at.at = search rules in
    rw is (c.take_at.ensures.list ∙ cut_whole c.args.self.now.orders.now c.args.self.now.count c.in_ok-at.at c.args.energy (here _ is c.requires) c.if-energy-left.true)

pub returns-else-energy-left-clause-answer : goal.returns-else-energy-left-clause-answer
returns-else-energy-left-clause-answer c =
    let is : c.args.place ≡ Some c.in_ok-at.at = search rules in
    rw is (cut_accepted c.args.self.now.orders.now c.args.self.now.count c.in_ok-at.at c.args.energy (here _ is c.requires) (search rules) (search rules))

pub returns-else-energy-left-clause-list : goal.returns-else-energy-left-clause-list
returns-else-energy-left-clause-list c =
    let is : c.args.place ≡ Some c.in_ok-at.at = search rules in
    rw is (cut_part c.args.self.now.orders.now c.args.self.now.count c.in_ok-at.at c.args.energy (here _ is c.requires) c.if-energy-left.false)

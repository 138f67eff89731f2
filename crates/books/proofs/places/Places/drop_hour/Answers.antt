use Rattle.std.proofs.Common.{◌≡◌, take, filter, ap, ◌∙◌, arith, rules}
use Rattle.book.specs.Lists.{of_hour, total_energy}
use Rattle.book.proofs.Sound.{each_filter, apart_filter}
use Rattle.books.proofs.Holding.{refilled, kept_in_front, lapsed_fits, kept_room}
use Rattle.books.proofs.places.Places.drop_hour.Goals as goal

pub overflow_cast-result : goal.overflow_cast-result
overflow_cast-result c =
    let fits = lapsed_fits c.args.hour c.args.self.now.orders.now c.args.self.now.count c.args.self.now.filled in
    let e : c.energy-lapsed.result ≡ total_energy (filter (of_hour c.args.hour) (take c.args.self.now.count c.args.self.now.orders.now)) =
    c.energy-lapsed.ensures ∙ ap (λ ys. total_energy (filter (of_hour c.args.hour) ys)) c.held.ensures in
    search rules

pub invariant_of-self : goal.invariant_of-self
invariant_of-self c =
    let places = c.args.self.now.orders.now in
    let count = c.args.self.now.count in
    let fill = c.args.self.now.filled in
    let ys = c.remove_all-self.new.orders in
    let answer = c.remove_all-self.ensures.answer in
    let few = kept_room _ places count _ answer in
    let room = fill.2 in
    record { filled = refilled places ys _ count _ fill c.remove_all-self.auto.orders (omega (arith, c.remove_all-self.auto.orders)) (kept_in_front _ _ ys _ answer c.remove_all-self.ensures.after) (each_filter _ _ (take count places) fill.3) (apart_filter _ (take count places) fill.4) }

pub returns-clause-list : goal.returns-clause-list
returns-clause-list c =
    kept_in_front _ _ c.remove_all-self.new.orders _ c.remove_all-self.ensures.answer c.remove_all-self.ensures.after

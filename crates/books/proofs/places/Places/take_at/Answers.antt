use Rattle.std.proofs.Common.{take, sym, ◌∙◌, subst, arith}
use Rattle.book.proofs.Sound.{each_removed, apart_removed}
use Rattle.books.specs.Filling.{Fill}
use Rattle.books.proofs.Holding.{refilled, taken_none, taken_one}
use Rattle.books.proofs.places.Places.take_at.Goals as goal

pub invariant_of-self : goal.invariant_of-self
invariant_of-self c =
    let none = taken_none c.args.self.now.orders.now c.remove.new.orders c.args.self.now.count c.args.at (sym c.in_err-taken.was ∙ c.remove.ensures.answer) c.remove.ensures.after in
    record { filled = subst (Fill c.args.self.now.count) (sym none.0) c.args.self.now.filled }

pub returns-in_err-taken-clause-list : goal.returns-in_err-taken-clause-list
returns-in_err-taken-clause-list c =
    let none = taken_none c.args.self.now.orders.now c.remove.new.orders c.args.self.now.count c.args.at (sym c.in_err-taken.was ∙ c.remove.ensures.answer) c.remove.ensures.after in
    rw none.0 none.1

pub invariant_of-self-2 : goal.invariant_of-self-2
invariant_of-self-2 c =
    let places = c.args.self.now.orders.now in
    let count = c.args.self.now.count in
    let fill = c.args.self.now.filled in
    let room = fill.2 in
    let is = taken_one places c.remove.new.orders count c.args.at _ room (sym c.in_ok-taken.was ∙ c.remove.ensures.answer) c.remove.ensures.after in
    record { filled = refilled places c.remove.new.orders _ count _ fill c.remove.auto.orders (omega (arith, c.remove.auto.orders)) is (each_removed _ (take count places) c.args.at fill.3) (apart_removed (take count places) c.args.at fill.4) }

pub returns-clause-list : goal.returns-clause-list
returns-clause-list c =
    taken_one c.args.self.now.orders.now c.remove.new.orders c.args.self.now.count c.args.at _ c.args.self.now.filled.2 (sym c.in_ok-taken.was ∙ c.remove.ensures.answer) c.remove.ensures.after

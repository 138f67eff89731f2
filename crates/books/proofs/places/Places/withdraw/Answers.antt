use Rattle.std.proofs.Common.{Some, sym, ap, ◌∙◌}
use Rattle.std.specs.List.{position}
use Rattle.book.specs.Lists.{with_serial}
use Rattle.book.proofs.Places.{place_none}
use Rattle.books.specs.Holding.{held}
use Rattle.books.proofs.Holding.{first_found, first_taken, none_taken}
use Rattle.books.proofs.places.Places.withdraw.Goals as goal

pub returns-in_err-at-clause-answer : goal.returns-in_err-at-clause-answer
returns-in_err-at-clause-answer c =
    c.from_residual.ensures ∙ place_none (with_serial c.args.serial) (held c.args.self.now) (sym c.in_err-at.was ∙ (c.place_of.ensures ∙ ap (position (with_serial c.args.serial)) c.held.ensures))

pub returns-in_err-at-clause-list : goal.returns-in_err-at-clause-list
returns-in_err-at-clause-list c =
    none_taken (with_serial c.args.serial) (held c.args.self.now) (place_none (with_serial c.args.serial) (held c.args.self.now) (sym c.in_err-at.was ∙ (c.place_of.ensures ∙ ap (position (with_serial c.args.serial)) c.held.ensures)))

pub returns-clause-answer : goal.returns-clause-answer
returns-clause-answer c =
    c.take_at.ensures.answer ∙ first_found (with_serial c.args.serial) (held c.args.self.now) (Some c.in_ok-at.at) (sym c.in_ok-at.was ∙ (c.place_of.ensures ∙ ap (position (with_serial c.args.serial)) c.held.ensures))

pub returns-clause-list : goal.returns-clause-list
returns-clause-list c =
    c.take_at.ensures.list ∙ first_taken (with_serial c.args.serial) (held c.args.self.now) _ (sym c.in_ok-at.was ∙ (c.place_of.ensures ∙ ap (position (with_serial c.args.serial)) c.held.ensures))

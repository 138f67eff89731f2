use Rattle.std.proofs.Common.{◌≡◌, sym, ap, ◌∙◌, subst}
use Rattle.std.specs.List.{position}
use Rattle.sides.specs.Listing.{Ranked, accepted, sooner}
use Rattle.book.specs.Lists.{of_hour}
use Rattle.book.specs.Meaning.{cut_list, taking}
use Rattle.books.specs.Holding.{held}
use Rattle.books.proofs.Holding.{first_cut, first_found, ranked_cut, ranked_if}
use Rattle.books.proofs.shelf.calls.ShelfBook.cut.Goals as goal

pub invariant_of-self : goal.invariant_of-self
invariant_of-self g c =
    let orders = held c.args.self.now.places in
    let place : c.place_of-place.result ≡ position (of_hour c.args.hour) orders = c.place_of-place.ensures ∙ ap (position (of_hour c.args.hour)) c.held.ensures in
    let list : held c.cut_at.new.self ≡ accepted c.cut_at.result (cut_list c.args.hour c.args.energy orders) orders =
    c.cut_at.ensures.list ∙ ap (λ new. accepted c.cut_at.result new orders) (first_cut c.args.hour c.args.energy orders c.place_of-place.result place) in
    record { ranked = subst (Ranked (sooner g.S.Rank.Ranking.first)) (sym list) (ranked_if (sooner g.S.Rank.Ranking.first) c.cut_at.result _ orders (ranked_cut g.S.Rank.Ranking.first c.args.hour c.args.energy orders) c.args.self.now.ranked) }

pub returns-clause-answer : goal.returns-clause-answer
returns-clause-answer g c =
    c.cut_at.ensures.answer ∙ ap (taking c.args.energy) (first_found (of_hour c.args.hour) (held c.args.self.now.places) c.place_of-place.result (c.place_of-place.ensures ∙ ap (position (of_hour c.args.hour)) c.held.ensures))

pub returns-clause-list : goal.returns-clause-list
returns-clause-list g c =
    c.cut_at.ensures.list ∙ ap (λ new. accepted c.cut_at.result new (held c.args.self.now.places)) (first_cut c.args.hour c.args.energy (held c.args.self.now.places) c.place_of-place.result (c.place_of-place.ensures ∙ ap (position (of_hour c.args.hour)) c.held.ensures))

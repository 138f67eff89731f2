use Rattle.std.proofs.Common.{take, sym, ◌∙◌, subst, arith}
use Rattle.sides.specs.Listing.{Ranked, sooner}
use Rattle.book.proofs.Ranked.{sooner_laws, ranked_put}
use Rattle.books.proofs.Holding.{refilled, put_checked, put_in, put_figures, put_serials}
use Rattle.books.proofs.places.Places.put_by_rank.Goals as goal

pub invariant_of-self-2 : goal.invariant_of-self-2
invariant_of-self-2 g c =
    let before = sooner g.R.Ranking.first in
    let places = c.args.self.now.orders.now in
    let count = c.args.self.now.count in
    let fill = c.args.self.now.filled in
    let checked = put_checked c.args.order c.check.result c.check.ensures (sym c.by_book.ensures ∙ c.in_ok-by_book.was) in
    let put = put_in before c.args.order places c.insert.new.places count c.insert.result fill.2 c.insert.ensures.answer (sym c.by_book-2.ensures ∙ c.in_ok-by_book-2.was) c.insert.ensures.after in
    record { filled = refilled places c.insert.new.places _ count _ fill c.insert.auto.places (omega (arith, put.0, c.insert.auto.places)) put.2 (put_figures before c.args.order (take count places) checked fill.3) (put_serials before c.args.order (take count places) put.1 fill.4) }

pub returns-clause-ranked : goal.returns-clause-ranked
returns-clause-ranked g c =
    let before = sooner g.R.Ranking.first in
    let places = c.args.self.now.orders.now in
    let count = c.args.self.now.count in
    let put = put_in before c.args.order places c.insert.new.places count c.insert.result c.args.self.now.filled.2 c.insert.ensures.answer (sym c.by_book-2.ensures ∙ c.in_ok-by_book-2.was) c.insert.ensures.after in
    λ ranked. subst (Ranked before) (sym put.2) (ranked_put before (sooner_laws g.met.R.Ranking.lawful) c.args.order (take count places) put.1 ranked)

use Rattle.std.proofs.Common.{take, sym, ◌∙◌, arith}
use Rattle.std.proofs.lemmas.List.{length-set}
use Rattle.books.proofs.Holding.{refilled, unrefused, room_is, put_checked}
use Rattle.books.proofs.Piling.{put_behind, behind_figures, behind_serials}
use Rattle.books.proofs.places.Places.put_last.Goals as goal

pub invariant_of-self : goal.invariant_of-self
invariant_of-self c =
    let places = c.args.self.now.orders.now in
    let count = c.args.self.now.count in
    let fill = c.args.self.now.filled in
    let checked = put_checked c.args.order c.check.result c.check.ensures (sym c.by_book.ensures ∙ c.in_ok-by_book.was) in
    let room = room_is places count c.args.order (sym c.check_room.ensures ∙ unrefused c.check_room.result tt (sym c.by_book-2.ensures ∙ c.in_ok-by_book-2.was)) fill.2 in
    record { filled = refilled places _ _ count _ fill (length-set places count c.args.order) (simp length-set (omega (arith, room.0))) (put_behind c.args.order places count room.0) (behind_figures c.args.order (take count places) checked fill.3) (behind_serials c.args.order (take count places) room.1 fill.4) }

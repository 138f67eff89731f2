use Rattle.std.proofs.Common.{◌≡◌, ◌+◌, ◌≤◌, drop}
use Rattle.sides.specs.Listing.{sooner}
use Rattle.bookdemo.specs.Trial.{all_put, count_put}
use Rattle.bookdemo.proofs.trial.put_all.Given as goal

-- what the orders that are left come to, beside those that are put
abbrev pub invariant-loop-order : goal.invariant-loop-order
invariant-loop-order g l =
    record {
      capacity : g.B.Book.capacity l.book ≡ g.B.Book.capacity l.initial.book;
      list : all_put (sooner g.B.Side.Rank.Ranking.first) (g.B.Book.capacity l.book) (g.B.Book.list l.book) (drop l.order-index l.orders) ≡ all_put (sooner g.B.Side.Rank.Ranking.first) (g.B.Book.capacity l.initial.book) (g.B.Book.list l.initial.book) l.orders;
      count : l.accepted + count_put (sooner g.B.Side.Rank.Ranking.first) (g.B.Book.capacity l.book) (g.B.Book.list l.book) (drop l.order-index l.orders) ≡ count_put (sooner g.B.Side.Rank.Ranking.first) (g.B.Book.capacity l.initial.book) (g.B.Book.list l.initial.book) l.orders;
      bound : l.accepted ≤ l.order-index;
    }

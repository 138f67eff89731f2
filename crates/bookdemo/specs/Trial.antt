-- A list of orders put into a book, one after the other.
use Rattle.std.specs.Prelude.{ℕ, ◌+◌, Bool, List, [], ◌∷◌}
use Rattle.figures.specs.declared.order.Order.{Order}
use Rattle.sides.specs.Listing.{accepted, ranked_in}
use Rattle.book.specs.Meaning.{put_answer}

-- the list after one of them
abbrev pub one_put : (Order → Order → Bool) → ℕ → List Order → Order → List Order
one_put before capacity xs order = accepted (put_answer capacity xs order) (ranked_in before order xs) xs

abbrev pub all_put : (Order → Order → Bool) → ℕ → List Order → List Order → List Order
all_put before capacity xs [] = xs
all_put before capacity xs (order ∷ orders) = all_put before capacity (one_put before capacity xs order) orders

-- how many of them were accepted
abbrev pub count_put : (Order → Order → Bool) → ℕ → List Order → List Order → ℕ
count_put before capacity xs [] = 0
count_put before capacity xs (order ∷ orders) =
    accepted (put_answer capacity xs order) 1 0 + count_put before capacity (one_put before capacity xs order) orders

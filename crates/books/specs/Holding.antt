-- The orders that stand in a caller's places. What is proved here, nobody has to believe.
use Rattle.std.specs.Prelude.{ℕ, zero, suc, ◌≤◌, cond, List, [], ◌∷◌, length, take, Some, None, Option, ◌==◌, slice_index_or, slice_set}
use Rattle.std.proofs.Common.{zero-le, suc-le-suc}
use Rattle.std.specs.List.{remove, slice_get}
use Rattle.figures.specs.Orders.{blank}
use Rattle.figures.specs.declared.order.Order.{Order}
use Rattle.book.specs.Lists.{lessened}
use Rattle.book.specs.Meaning.{Sound, energy_in}
use Rattle.books.specs.Filling.{Fill}
use Rattle.books.specs.declared.places.Places.{Places}

-- a front of a list is no longer than the list
pub take_room : (count : ℕ) (xs : List Order) → length (take count xs) ≤ length xs
take_room zero xs = zero-le
take_room (suc count) [] = zero-le
take_room (suc count) (x ∷ xs) = suc-le-suc (take_room count xs)

-- the orders in the first `count` places
abbrev pub held : Places → List Order
held places = take places.count places.orders.now

-- how many places there are
abbrev pub size : Places → ℕ
size places = length places.orders.now

-- such places make a sound book
pub sound : (places : Places) → Fill places.count places.orders.now → Sound (size places) (held places)
sound places filled =
    record {
      some_place = filled.0;
      few_places = filled.1;
      room = take_room places.count places.orders.now;
      figures = filled.3;
      serials = filled.4;
    }

-- the order at a place, if there is one
abbrev pub order_in : List Order → Option ℕ → Option Order
order_in xs None = None
order_in xs (Some place) = slice_get xs place

-- the orders once energy is taken off the one at a place, which leaves when it has none left
abbrev pub cut_at : Option ℕ → ℕ → List Order → List Order
cut_at None energy xs = xs
cut_at (Some at) energy xs =
    cond (energy_in (slice_get xs at) == energy) (remove xs at) (slice_set xs at (lessened energy (slice_index_or xs at blank)))

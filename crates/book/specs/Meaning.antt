-- What a book means, a capacity and a list of resting orders, and what each call gives.
use Rattle.std.specs.Prelude.{◌≡◌, ℕ, ◌≤◌, true, cond, not, ◌||◌, List, length, Some, None, Ok, Err, filter, Option, Result, ◌==◌, nat_lt}
use Rattle.std.specs.List.{list_all, find}
use Rattle.figures.specs.Bounds.{refuse_if}
use Rattle.figures.specs.Orders.{checked_before, within_figures}
use Rattle.figures.specs.declared.order.Order.{Order}
use Rattle.figures.specs.declared.refusal.Part.TheVariants.{Book}
use Rattle.figures.specs.declared.refusal.Reason.{Reason}
use Rattle.figures.specs.declared.refusal.Reason.TheVariants.{CutTooLarge, PlacesOutOfRange}
use Rattle.figures.specs.declared.refusal.Refusal.{Refusal}
use Rattle.sides.specs.Listing.{apart, room_for}
use Rattle.book.specs.Lists.{of_hour, without_first, lessened_first}

-- what holds of the capacity and the list of every book
pub record Sound (capacity : ℕ) (xs : List Order) : Type 0 where
  pub some_place : 1 ≤ capacity
  pub few_places : capacity ≤ 4096
  pub room : length xs ≤ capacity
  pub figures : list_all within_figures xs ≡ true
  pub serials : apart xs ≡ true

-- a refusal that the book gives
abbrev pub by_book : {A : Type 0} → Result A Reason → Result A Refusal
by_book (Ok a) = Ok a
by_book (Err reason) = Err (record { part = Book; reason = reason })

-- whether a book may be made over so many places
abbrev pub checked_places : ℕ → Result (Unit {0}) Refusal
checked_places places = by_book (refuse_if (places == 0 || nat_lt 4096 places) (PlacesOutOfRange places) (Ok tt))

-- whether a book was made
abbrev pub made_answer : {A : Type 0} → Result A Refusal → Result (Unit {0}) Refusal
made_answer (Ok _) = Ok tt
made_answer (Err refusal) = Err refusal

-- put: the order's figures, then room for it
abbrev pub put_answer : ℕ → List Order → Order → Result (Unit {0}) Refusal
put_answer capacity xs order = by_book (checked_before order (room_for capacity xs order))

-- an hour's best order
abbrev pub best : ℕ → List Order → Option Order
best hour xs = find (of_hour hour) xs

abbrev pub energy_in : Option Order → ℕ
energy_in None = 0
energy_in (Some x) = x.energy

-- whether energy can be taken off an order: some energy, and no more than it has
abbrev pub taking : ℕ → Option Order → Result (Unit {0}) Refusal
taking energy order =
    by_book (refuse_if (energy == 0 || nat_lt (energy_in order) energy) (CutTooLarge energy) (Ok tt))

-- cut: energy is taken off the hour's best order
abbrev pub cut_answer : ℕ → ℕ → List Order → Result (Unit {0}) Refusal
cut_answer hour energy xs = taking energy (best hour xs)

-- the list once energy is taken off the hour's best order, which leaves when it has none left
abbrev pub cut_list : ℕ → ℕ → List Order → List Order
cut_list hour energy xs =
    cond (energy_in (best hour xs) == energy) (without_first (of_hour hour) xs) (lessened_first (of_hour hour) energy xs)

-- the list without an hour's orders
abbrev pub other_hours : ℕ → List Order → List Order
other_hours hour xs = filter (λ x. not (of_hour hour x)) xs

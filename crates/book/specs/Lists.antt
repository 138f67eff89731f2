-- Words for lists of orders: tests, the list without an order, energy, and what the order of a list owes.
use Rattle.std.specs.Prelude.{◌≡◌, ℕ, ◌-◌, Bool, true, false, cond, List, [], ◌∷◌, ◌++◌, length, take, drop, ◌==◌, nat_lt}
use Rattle.std.specs.List.{remove, sum_by}
use Rattle.figures.specs.declared.order.Order.{Order}

abbrev pub of_hour : ℕ → Order → Bool
of_hour hour x = x.hour == hour

abbrev pub with_serial : ℕ → Order → Bool
with_serial serial x = x.serial == serial

-- the first `count` orders without the one at a place, where one stands: those behind it come one place nearer, and the
-- last of them stays where it was too. Later places stay
abbrev pub closed_up : ℕ → ℕ → List Order → List Order
closed_up count at xs =
    cond (nat_lt at (length (take count xs))) (remove (take count xs) at ++ drop (length (take count xs) - 1) xs) xs

-- the list without the first order that passes the test
abbrev pub without_first : (Order → Bool) → List Order → List Order
without_first test [] = []
without_first test (x ∷ xs) = cond (test x) xs (x ∷ without_first test xs)

abbrev pub total_energy : List Order → ℕ
total_energy xs = sum_by (λ x. x.energy) xs

-- the order with so much less energy
abbrev pub lessened : ℕ → Order → Order
lessened energy x =
    record { hour = x.hour; serial = x.serial; member = x.member; energy = x.energy - energy; limit = x.limit }

-- the first order that passes the test lessened
abbrev pub lessened_first : (Order → Bool) → ℕ → List Order → List Order
lessened_first test energy [] = []
lessened_first test energy (x ∷ xs) = cond (test x) (lessened energy x ∷ xs) (x ∷ lessened_first test energy xs)

-- a strict total order on orders with different serials
pub record ListingLaws (before : Order → Order → Bool) : Type 0 where
  pub one_way : (a b : Order) → before a b ≡ true → before b a ≡ false
  pub chain : (a b c : Order) → before a b ≡ true → before b c ≡ true → before a c ≡ true
  pub total : (a b : Order) → (a.serial ≡ b.serial → ⊥) → before a b ≡ false → before b a ≡ true

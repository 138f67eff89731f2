-- The order in which a book lists: by rising hour, and within an hour by rank. What is proved here, nobody has to believe.
use Rattle.std.specs.Prelude.{◌≡◌, ℕ, Bool, true, cond, not, ◌&&◌, ◌||◌, List, [], ◌∷◌, length, Some, None, Ok, Err, Option, Result, ◌==◌, nat_le, nat_lt}
use Rattle.std.specs.List.{list_all, list_any, prefix_len}
use Rattle.std.specs.Coded.{×_prop, Unit-prop}
use Rattle.std.proofs.Math.Bool.{Bool-set}
use Rattle.figures.specs.Bounds.{refuse_if}
use Rattle.figures.specs.declared.order.Order.{Order}
use Rattle.figures.specs.declared.refusal.Reason.{Reason}
use Rattle.figures.specs.declared.refusal.Reason.TheVariants.{BookFull, SerialStands}
use Rattle.sides.specs.Ranking.{Ranks}

-- a comes before b: its hour is earlier, or in one hour it ranks first
abbrev pub sooner : Ranks → Order → Order → Bool
sooner first a b =
    nat_lt a.hour b.hour || (a.hour == b.hour && first a.limit a.serial b.limit b.serial)

-- whether an order with that serial is among them
abbrev pub stands : ℕ → List Order → Bool
stands serial xs = list_any (λ x. x.serial == serial) xs

-- no serial stands twice
abbrev pub apart : List Order → Bool
apart [] = true
apart (x ∷ xs) = not (stands x.serial xs) && apart xs

-- each order comes before all that are listed behind it
abbrev pub Ranked : (Order → Order → Bool) → List Order → Type 0
Ranked before [] = Unit {0}
Ranked before (x ∷ xs) = (list_all (before x) xs ≡ true) × Ranked before xs

-- there is one proof of it at the most, as the field of a struct has to have
pub Ranked_prop : (before : Order → Order → Bool) (xs : List Order) → IsProp (Ranked before xs)
Ranked_prop before [] = Unit-prop
Ranked_prop before (x ∷ xs) = ×_prop (Bool-set (list_all (before x) xs) true) (Ranked_prop before xs)

-- a ranked list stays ranked
abbrev pub StaysRanked : (Order → Order → Bool) → List Order → List Order → Type 0
StaysRanked before xs ys = Ranked before xs → Ranked before ys

-- how many at the start of the list come before x
abbrev pub rank_among : (Order → Order → Bool) → Order → List Order → ℕ
rank_among before x xs = prefix_len (λ y. before y x) xs

-- x put behind those at the start of the list that come before it
abbrev pub ranked_in : (Order → Order → Bool) → Order → List Order → List Order
ranked_in before x [] = x ∷ []
ranked_in before x (y ∷ ys) = cond (before y x) (y ∷ ranked_in before x ys) (x ∷ y ∷ ys)

-- the rank at which x belongs, or none where its serial stands already
abbrev pub rank_for : (Order → Order → Bool) → Order → List Order → Option ℕ
rank_for before x xs = cond (stands x.serial xs) None (Some (rank_among before x xs))

-- whether x may join xs in so many places: refused where they are full, then where its serial stands
abbrev pub room_for : ℕ → List Order → Order → Result (Unit {0}) Reason
room_for capacity xs x =
    refuse_if (nat_le capacity (length xs)) (BookFull capacity)
    (refuse_if (stands x.serial xs) (SerialStands x.serial) (Ok tt))

-- what holds after a call: the new where it was accepted, else the old
abbrev pub accepted : {A B E : Type 0} → Result B E → A → A → A
accepted (Ok _) new old = new
accepted (Err _) new old = old

-- where a call was refused, the places hold what they held
abbrev pub Untouched : {B E : Type 0} → Result B E → List Order → List Order → Type 0
Untouched (Ok _) places old = Unit {0}
Untouched (Err _) places old = places ≡ old

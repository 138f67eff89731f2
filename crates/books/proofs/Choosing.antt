-- One pass over a pile that keeps the order that is listed first of those that pass a test, and its place.
use Rattle.std.proofs.Common.{◌≡◌, ℕ, ◌+◌, ◌<◌, ◌≤◌, Bool, true, false, cond, not, List, [], ◌∷◌, ◌++◌, length, get_or, take, drop, Some, None, Option, sym, ap, refl, ◌∙◌, arith}
use Rattle.std.specs.List.{find, slice_get}
use Rattle.std.specs.Option.{IfSome, option_map}
use Rattle.std.proofs.lemmas.Bool.{and_parts}
use Rattle.std.proofs.lemmas.Bool.Decides.{nat_tests}
use Rattle.std.proofs.lemmas.List.{append-nil, take_more, take-append-drop, take_all}
use Rattle.std.proofs.lemmas.Option.{slice_get-get_or}
use Rattle.figures.specs.declared.order.Order.{Order}
use Rattle.figures.specs.Orders.{blank}
use Rattle.sides.specs.Listing.{apart, stands}
use Rattle.book.specs.Lists.{ListingLaws}
use Rattle.books.specs.Holding.{order_in}
use Rattle.books.specs.Sorting.{sorted}
use Rattle.books.proofs.Holding.{slice_get_some}
use Rattle.books.proofs.Sorting.{apart_pick, find_push, soonest_of}

-- a front of orders that are apart is apart
apart_front : (xs ys : List Order) → apart (xs ++ ys) ≡ true → apart xs ≡ true
apart_front xs [] h = ap apart (sym (append-nil xs)) ∙ h
apart_front xs (y ∷ ys) h =
    let p = and_parts (not (stands y.serial (xs ++ ys))) (apart (xs ++ ys)) (sym (apart_pick xs ys y) ∙ h) in
    apart_front xs ys p.1

-- of the first i orders, the one that is listed first of those that pass, with its place
pub record Best (before : Order → Order → Bool) (test : Order → Bool) (xs : List Order) (found : Option (ℕ × Order)) (i : ℕ) : Type 0 where
  pub order : option_map (λ p. p.1) found ≡ find test (sorted before (take i xs))
  pub place : IfSome found (λ p. slice_get xs p.0 ≡ Some p.1)

next : (before : Order → Order → Bool) → ListingLaws before → (test : Order → Bool) (xs : List Order) (i : ℕ) → apart xs ≡ true → i < length xs → find test (sorted before (take (i + 1) xs)) ≡ cond (test (get_or xs i blank)) (soonest_of before (find test (sorted before (take i xs))) (get_or xs i blank)) (find test (sorted before (take i xs)))
next before laws test xs i h l =
    let more = take_more xs i blank l in
    let front : apart (take i xs ++ get_or xs i blank ∷ []) ≡ true =
    ap apart (sym more) ∙ apart_front (take (i + 1) xs) (drop (i + 1) xs) (ap apart (take-append-drop (i + 1) xs) ∙ h) in
    ap (λ ys. find test (sorted before ys)) more ∙ find_push before laws test (take i xs) (get_or xs i blank) front

-- whether an order is listed behind the one found before, if any
abbrev pub is_behind : (Order → Order → Bool) → Option (ℕ × Order) → Order → Bool
is_behind before None y = false
is_behind before (Some p) y = before p.1 y

stays : (before : Order → Order → Bool) (found : Option (ℕ × Order)) (first : Option Order) (passes : Bool) (y : Order) → option_map (λ p. p.1) found ≡ first → (passes ≡ true → is_behind before found y ≡ true) → option_map (λ p. p.1) found ≡ cond passes (soonest_of before first y) first
stays before found first false y e behind = e
stays before None first true y e behind = let b = behind refl in grind (arith, nat_tests)
stays before (Some p) first true y e behind = let b = behind refl in grind (arith, nat_tests)

comes : (before : Order → Order → Bool) (found : Option (ℕ × Order)) (first : Option Order) (passes : Bool) (y : Order) → option_map (λ p. p.1) found ≡ first → passes ≡ true → is_behind before found y ≡ false → Some y ≡ cond passes (soonest_of before first y) first
comes before None first passes y e passed ahead = grind (arith, nat_tests)
comes before (Some p) first passes y e passed ahead = grind (arith, nat_tests)

-- the order at i does not pass, or is listed behind the one found before
pub best_stays : (before : Order → Order → Bool) → ListingLaws before → (test : Order → Bool) (xs : List Order) (found : Option (ℕ × Order)) (i : ℕ) → apart xs ≡ true → i < length xs → Best before test xs found i → (test (get_or xs i blank) ≡ true → is_behind before found (get_or xs i blank) ≡ true) → Best before test xs found (i + 1)
best_stays before laws test xs found i h l best behind =
    record {
      order = stays before found _ (test (get_or xs i blank)) (get_or xs i blank) best.order behind ∙ sym (next before laws test xs i h l);
      place = best.place;
    }

-- it passes, and is not listed behind the one found before
pub best_comes : (before : Order → Order → Bool) → ListingLaws before → (test : Order → Bool) (xs : List Order) (found : Option (ℕ × Order)) (i : ℕ) → apart xs ≡ true → i < length xs → Best before test xs found i → test (get_or xs i blank) ≡ true → is_behind before found (get_or xs i blank) ≡ false → Best before test xs (Some (i, get_or xs i blank)) (i + 1)
best_comes before laws test xs found i h l best passed ahead =
    record {
      order = comes before found _ (test (get_or xs i blank)) (get_or xs i blank) best.order passed ahead ∙ sym (next before laws test xs i h l);
      place = slice_get-get_or xs i blank l;
    }

-- where all orders were looked at
pub best_all : (before : Order → Order → Bool) (test : Order → Bool) (xs : List Order) (found : Option (ℕ × Order)) (i : ℕ) → Best before test xs found i → length xs ≤ i → order_in xs (option_map (λ p. p.0) found) ≡ find test (sorted before xs)
best_all before test xs None i best l = best.order ∙ ap (λ ys. find test (sorted before ys)) (take_all i xs l)
best_all before test xs (Some p) i best l = best.place ∙ (best.order ∙ ap (λ ys. find test (sorted before ys)) (take_all i xs l))

pub best_within : (before : Order → Order → Bool) (test : Order → Bool) (xs : List Order) (found : Option (ℕ × Order)) (i : ℕ) → Best before test xs found i → IfSome (option_map (λ p. p.0) found) (λ place. place < length xs)
best_within before test xs None i best = tt
best_within before test xs (Some p) i best = slice_get_some xs p.0 p.1 (sym best.place)

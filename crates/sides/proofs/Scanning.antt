-- One pass over xs for x: up to the first order that has its serial or does not come before it, and behind that for the
-- serial alone.
use Rattle.std.proofs.Common.{◌≡◌, ℕ, ◌+◌, ◌≤◌, Bool, false, not, ◌&&◌, eqb, List, [], ◌∷◌, length, drop, refl, one-add, arith}
use Rattle.std.specs.Bool.{then_some}
use Rattle.std.specs.List.{prefix_len}
use Rattle.std.proofs.lemmas.List.Sums.{prefix_len-le-length}
use Rattle.std.proofs.lemmas.Bool.Decides.{nat_tests}
use Rattle.figures.specs.declared.order.Order.{Order}
use Rattle.sides.specs.Listing.{stands, rank_among, rank_for}

-- how many are passed before that one
abbrev pub passed : (Order → Order → Bool) → Order → List Order → ℕ
passed before x xs = prefix_len (λ y. not (eqb y.serial x.serial) && before y x) xs

drop_one : (n : ℕ) (y : Order) (ys : List Order) → drop (1 + n) (y ∷ ys) ≡ drop n ys
drop_one n y ys = rw one-add refl

-- none of those that are passed has the serial
passed_new : (before : Order → Order → Bool) (x : Order) (xs : List Order) → stands x.serial xs ≡ stands x.serial (drop (passed before x xs) xs)
passed_new before x [] = refl
passed_new before x (y ∷ ys) =
    let k = passed_new before x ys in
    let d = drop_one (passed before x ys) y ys in
    grind (arith, nat_tests)

-- where the serial is new, just those that are passed come before x
passed_sooner : (before : Order → Order → Bool) (x : Order) (xs : List Order) → stands x.serial xs ≡ false → rank_among before x xs ≡ passed before x xs
passed_sooner before x [] h = refl
passed_sooner before x (y ∷ ys) h = let k = passed_sooner before x ys in grind (arith, nat_tests)

pub passed_within : (before : Order → Order → Bool) (x : Order) (xs : List Order) → passed before x xs ≤ length xs
passed_within before x xs = prefix_len-le-length (λ y. not (eqb y.serial x.serial) && before y x) xs

pub passed_rank : (before : Order → Order → Bool) (x : Order) (xs : List Order) → then_some (not (stands x.serial (drop (passed before x xs) xs))) (passed before x xs) ≡ rank_for before x xs
passed_rank before x xs =
    let n = passed_new before x xs in
    let s = passed_sooner before x xs in
    grind (arith, nat_tests)

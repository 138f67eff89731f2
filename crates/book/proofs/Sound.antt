-- Figures, serials and room are kept by every change.
use Rattle.std.proofs.Common.{◌≡◌, ℕ, zero, suc, ◌*◌, ◌<◌, ◌≤◌, Bool, true, false, not, ◌&&◌, ◌||◌, eqb, List, [], ◌∷◌, length, get_or, set, Ok, filter, refl, ap, ◌∙◌, arith}
use Rattle.std.specs.List.{remove, list_all}
use Rattle.std.proofs.lemmas.List.Sums.{sum_by-cons}
use Rattle.std.proofs.lemmas.Bool.{and_parts}
use Rattle.std.proofs.lemmas.Bool.Decides.{nat_tests}
use Rattle.figures.specs.Orders.{within_figures, checked_before}
use Rattle.figures.specs.declared.order.Order.{Order}
use Rattle.sides.specs.Listing.{apart, stands}
use Rattle.book.specs.Lists.{without_first, lessened, total_energy}

pub each_without_first : (p test : Order → Bool) (xs : List Order) → list_all p xs ≡ true → list_all p (without_first test xs) ≡ true
each_without_first p test [] h = refl
each_without_first p test (x ∷ xs) h = let k = each_without_first p test xs in grind (arith, nat_tests)

pub each_filter : (p test : Order → Bool) (xs : List Order) → list_all p xs ≡ true → list_all p (filter test xs) ≡ true
each_filter p test [] h = refl
each_filter p test (x ∷ xs) h = let k = each_filter p test xs in grind (arith, nat_tests)

-- a serial that is not there is not there afterwards
stands_filter : (serial : ℕ) (test : Order → Bool) (xs : List Order) → stands serial xs ≡ false → stands serial (filter test xs) ≡ false
stands_filter serial test [] h = refl
stands_filter serial test (x ∷ xs) h = let k = stands_filter serial test xs in grind (arith, nat_tests)

pub apart_filter : (test : Order → Bool) (xs : List Order) → apart xs ≡ true → apart (filter test xs) ≡ true
apart_filter test [] h = refl
apart_filter test (x ∷ xs) h =
    let k = apart_filter test xs in
    let s = stands_filter x.serial test xs in
    grind (arith, nat_tests)

-- an order is removed from a place
pub each_removed : (p : Order → Bool) (xs : List Order) (at : ℕ) → list_all p xs ≡ true → list_all p (remove xs at) ≡ true
each_removed p [] zero h = refl
each_removed p [] (suc at) h = refl
each_removed p (x ∷ xs) zero h = grind (arith, nat_tests)
each_removed p (x ∷ xs) (suc at) h = let k = each_removed p xs at in grind (arith, nat_tests)

stands_removed : (serial : ℕ) (xs : List Order) (at : ℕ) → stands serial xs ≡ false → stands serial (remove xs at) ≡ false
stands_removed serial [] zero h = refl
stands_removed serial [] (suc at) h = refl
stands_removed serial (x ∷ xs) zero h = grind (arith, nat_tests)
stands_removed serial (x ∷ xs) (suc at) h = let k = stands_removed serial xs at in grind (arith, nat_tests)

pub apart_removed : (xs : List Order) (at : ℕ) → apart xs ≡ true → apart (remove xs at) ≡ true
apart_removed [] zero h = refl
apart_removed [] (suc at) h = refl
apart_removed (x ∷ xs) zero h = grind (arith, nat_tests)
apart_removed (x ∷ xs) (suc at) h =
    let k = apart_removed xs at in
    let s = stands_removed x.serial xs at in
    grind (arith, nat_tests)

-- an order is changed at its place
pub each_set : (p : Order → Bool) (xs : List Order) (at : ℕ) (y : Order) → p y ≡ true → list_all p xs ≡ true → list_all p (set xs at y) ≡ true
each_set p [] at y q h = refl
each_set p (x ∷ xs) zero y q h = grind (arith, nat_tests)
each_set p (x ∷ xs) (suc at) y q h = let k = each_set p xs at y q in grind (arith, nat_tests)

stands_set : (serial : ℕ) (xs : List Order) (at : ℕ) (y d : Order) → y.serial ≡ (get_or xs at d).serial → stands serial (set xs at y) ≡ stands serial xs
stands_set serial [] at y d e = refl
stands_set serial (x ∷ xs) zero y d e = ap (λ s. eqb s serial || stands serial xs) e
stands_set serial (x ∷ xs) (suc at) y d e =
    ap (λ b. eqb x.serial serial || b) (stands_set serial xs at y d e)

pub apart_set : (xs : List Order) (at : ℕ) (y d : Order) → y.serial ≡ (get_or xs at d).serial → apart (set xs at y) ≡ apart xs
apart_set [] at y d e = refl
apart_set (x ∷ xs) zero y d e = ap (λ s. not (stands s xs) && apart xs) e
apart_set (x ∷ xs) (suc at) y d e =
    let s = stands_set x.serial xs at y d e in
    let k = apart_set xs at y d e in
    ap (λ b. not b && apart (set xs at y)) s ∙ ap (λ b. not (stands x.serial xs) && b) k

pub figures_lessened : (energy : ℕ) (x : Order) → energy < x.energy → within_figures x ≡ true → within_figures (lessened energy x) ≡ true
figures_lessened energy x l h = grind (arith, nat_tests)

pub each_get_or : (p : Order → Bool) (xs : List Order) (at : ℕ) (d : Order) → at < length xs → list_all p xs ≡ true → p (get_or xs at d) ≡ true
each_get_or p [] at d l h = absurd (omega arith)
each_get_or p (x ∷ xs) zero d l h = grind (arith, nat_tests)
each_get_or p (x ∷ xs) (suc at) d l h =
    each_get_or p xs at d (omega arith) (and_parts (p x) (list_all p xs) h).1

-- the energy of orders within the figures
pub most_energy : (xs : List Order) → list_all within_figures xs ≡ true → total_energy xs ≤ length xs * 1000000
most_energy [] h = omega arith
most_energy (x ∷ xs) h =
    let k = most_energy xs in
    let one : within_figures x ≡ true → x.energy ≤ 1000000 = λ e. grind (arith, nat_tests) in
    let sum = sum_by-cons (λ y. y.energy) x xs in
    grind (arith, nat_tests)

-- an order that passed the checks is within the figures
pub figures_checked : (x : Order) → checked_before {A = Unit {0}} x (Ok tt) ≡ Ok tt → within_figures x ≡ true
figures_checked x h = grind (arith, nat_tests)

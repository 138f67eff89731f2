-- What putting an order in by rank keeps.
use Rattle.std.specs.Prelude.{◌≡◌, ℕ, zero, suc, ◌+◌, Bool, true, false, cond, not, ◌&&◌, ◌||◌, List, [], ◌∷◌, length, ◌==◌, refl}
use Rattle.std.specs.List.{list_all}
use Rattle.std.proofs.Common.{sym, ap, ◌∙◌, add-one}
use Rattle.std.proofs.Math.Dec.{eqb-zero-suc, eqb-suc-zero, eqb-suc-suc}
use Rattle.figures.specs.declared.order.Order.{Order}
use Rattle.sides.specs.Listing.{apart, ranked_in, stands}

and_swap : (a b c : Bool) → (a && (b && c)) ≡ (b && (a && c))
and_swap true b c = refl
and_swap false true c = refl
and_swap false false c = refl

or_swap : (a b c : Bool) → (a || (b || c)) ≡ (b || (a || c))
or_swap false b c = refl
or_swap true true c = refl
or_swap true false c = refl

eqb_swap : (m n : ℕ) → (m == n) ≡ (n == m)
eqb_swap zero zero = refl
eqb_swap zero (suc n) = eqb-zero-suc n ∙ sym (eqb-suc-zero n)
eqb_swap (suc m) zero = eqb-suc-zero m ∙ sym (eqb-zero-suc m)
eqb_swap (suc m) (suc n) = eqb-suc-suc m n ∙ (eqb_swap m n ∙ sym (eqb-suc-suc n m))

-- e: one serial is the other; a, b: the one or the other stands behind; c: those behind are apart
apart_swap : (e a b c : Bool) → (not (e || a) && (not b && c)) ≡ (not (e || b) && (not a && c))
apart_swap true a b c = refl
apart_swap false a b c = and_swap (not a) (not b) c

pub each_ranked_in : (test : Order → Bool) (before : Order → Order → Bool) (x : Order) (xs : List Order) → list_all test (ranked_in before x xs) ≡ (test x && list_all test xs)
each_ranked_in test before x [] = refl
each_ranked_in test before x (y ∷ ys) =
    elim (before y x) as (λ b. list_all test (cond b (y ∷ ranked_in before x ys) (x ∷ y ∷ ys)) ≡ (test x && list_all test (y ∷ ys))) [
      | true ↦ ap (λ b. test y && b) (each_ranked_in test before x ys) ∙ and_swap (test y) (test x) (list_all test ys)
      | false ↦ refl
    ]

pub stands_ranked_in : (serial : ℕ) (before : Order → Order → Bool) (x : Order) (xs : List Order) → stands serial (ranked_in before x xs) ≡ (x.serial == serial || stands serial xs)
stands_ranked_in serial before x [] = refl
stands_ranked_in serial before x (y ∷ ys) =
    elim (before y x) as (λ b. stands serial (cond b (y ∷ ranked_in before x ys) (x ∷ y ∷ ys)) ≡ (x.serial == serial || stands serial (y ∷ ys))) [
      | true ↦ ap (λ b. (y.serial == serial) || b) (stands_ranked_in serial before x ys)
          ∙ or_swap (y.serial == serial) (x.serial == serial) (stands serial ys)
      | false ↦ refl
    ]

pub apart_ranked_in : (before : Order → Order → Bool) (x : Order) (xs : List Order) → apart (ranked_in before x xs) ≡ (not (stands x.serial xs) && apart xs)
apart_ranked_in before x [] = refl
apart_ranked_in before x (y ∷ ys) =
    elim (before y x) as (λ b. apart (cond b (y ∷ ranked_in before x ys) (x ∷ y ∷ ys)) ≡ (not (stands x.serial (y ∷ ys)) && apart (y ∷ ys))) [
      | true ↦ ap (λ b. not b && apart (ranked_in before x ys)) (stands_ranked_in y.serial before x ys)
          ∙ (ap (λ b. not (x.serial == y.serial || stands y.serial ys) && b) (apart_ranked_in before x ys)
          ∙ (ap (λ b. not (b || stands y.serial ys) && (not (stands x.serial ys) && apart ys)) (eqb_swap x.serial y.serial)
          ∙ apart_swap (y.serial == x.serial) (stands y.serial ys) (stands x.serial ys) (apart ys)))
      | false ↦ refl
    ]

pub length_ranked_in : (before : Order → Order → Bool) (x : Order) (xs : List Order) → length (ranked_in before x xs) ≡ length xs + 1
length_ranked_in before x [] = refl
length_ranked_in before x (y ∷ ys) =
    elim (before y x) as (λ b. length (cond b (y ∷ ranked_in before x ys) (x ∷ y ∷ ys)) ≡ length (y ∷ ys) + 1) [
      | true ↦ ap suc (length_ranked_in before x ys ∙ add-one (length ys)) ∙ sym (add-one (suc (length ys)))
      | false ↦ sym (add-one (suc (length ys)))
    ]

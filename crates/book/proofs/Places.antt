-- The first order that passes a test, and the list without it, by its place.
use Rattle.std.proofs.Common.{◌≡◌, ℕ, ◌+◌, ◌<◌, Bool, true, false, cond, not, ltb, List, [], ◌∷◌, length, get_or, set, Some, None, sym, refl, ap, ◌∙◌, one-add, arith}
use Rattle.std.specs.List.{prefix_len, remove, position, find}
use Rattle.std.proofs.lemmas.List.Folds.{find_at}
use Rattle.std.proofs.lemmas.Option.{slice_get_past}
use Rattle.std.proofs.lemmas.Bool.{ltb-true, ltb-false}
use Rattle.figures.specs.declared.order.Order.{Order}
use Rattle.book.specs.Lists.{without_first, lessened, lessened_first}

pub without_first_at : (test : Order → Bool) (xs : List Order) → without_first test xs ≡ remove xs (prefix_len (λ x. not (test x)) xs)
without_first_at test [] = refl
without_first_at test (x ∷ xs) =
    elim (test x) as (λ v. cond v xs (x ∷ without_first test xs) ≡ remove (x ∷ xs) (cond (not v) (1 + prefix_len (λ y. not (test y)) xs) 0)) [ true ↦ refl | false ↦ rw one-add (ap (λ ys. x ∷ ys) (without_first_at test xs)) ]

pub lessened_first_at : (test : Order → Bool) (energy : ℕ) (xs : List Order) (d : Order) → lessened_first test energy xs ≡ set xs (prefix_len (λ x. not (test x)) xs) (lessened energy (get_or xs (prefix_len (λ x. not (test x)) xs) d))
lessened_first_at test energy [] d = refl
lessened_first_at test energy (x ∷ xs) d =
    elim (test x) as (λ v. cond v (lessened energy x ∷ xs) (x ∷ lessened_first test energy xs) ≡ (let place = cond (not v) (1 + prefix_len (λ y. not (test y)) xs) 0 in set (x ∷ xs) place (lessened energy (get_or (x ∷ xs) place d)))) [ true ↦ refl | false ↦ rw one-add (ap (λ ys. x ∷ ys) (lessened_first_at test energy xs d)) ]

-- what the place that was found says
pub place_found : (test : Order → Bool) (xs : List Order) (at : ℕ) → Some at ≡ position test xs → (at ≡ prefix_len (λ x. not (test x)) xs) × (at < length xs)
place_found test xs at e = found (ltb (prefix_len (λ x. not (test x)) xs) (length xs)) refl e where
  found : (b : Bool) → ltb (prefix_len (λ x. not (test x)) xs) (length xs) ≡ b → Some at ≡ cond b (Some (prefix_len (λ x. not (test x)) xs)) None → (at ≡ prefix_len (λ x. not (test x)) xs) × (at < length xs)
  found true b e =
      let is : at ≡ prefix_len (λ x. not (test x)) xs = cc in (is, rw is (ltb-true _ _ b))
  found false b e = let z : ◌≡◌ {A = ℕ} 0 1 = cc in absurd (omega arith)

pub place_none : (test : Order → Bool) (xs : List Order) → None ≡ position test xs → None ≡ find test xs
place_none test xs e = none (ltb (prefix_len (λ x. not (test x)) xs) (length xs)) refl e where
  none : (b : Bool) → ltb (prefix_len (λ x. not (test x)) xs) (length xs) ≡ b → None ≡ cond b (Some (prefix_len (λ x. not (test x)) xs)) None → None ≡ find test xs
  none true b e = let z : ◌≡◌ {A = ℕ} 0 1 = cc in absurd (omega arith)
  none false b e = sym (find_at test xs ∙ slice_get_past xs _ (ltb-false _ _ b))

-- What a change of a pile's places makes of its list. The orders that stand in them are xs before and ys after.
use Rattle.std.proofs.Common.{◌≡◌, ℕ, suc, ◌+◌, ◌<◌, ◌≤◌, Bool, true, false, cond, not, ◌&&◌, eqb, ◌⊎◌, List, [], ◌∷◌, ◌++◌, length, get_or, take, drop, set, Some, None, Ok, Err, Option, Result, sym, refl, ap, ◌∙◌, inl, inr, add-one, arith}
use Rattle.std.specs.Option.{IfSome}
use Rattle.std.specs.List.{prefix_len, remove, slice_get, list_all, find}
use Rattle.std.proofs.lemmas.List.{take-append-drop, drop_more, set_split, append-nil, take_more_set}
use Rattle.std.proofs.lemmas.Option.{slice_get-get_or, slice_get_past}
use Rattle.std.proofs.lemmas.Bool.{cases_lt, and_from, not_from_false}
use Rattle.std.proofs.lemmas.Bool.Decides.{nat_tests}
use Rattle.figures.specs.Orders.{within_figures, blank}
use Rattle.figures.specs.declared.order.Order.{Order}
use Rattle.sides.specs.Listing.{accepted, apart, ranked_in, sooner, stands}
use Rattle.sides.specs.Ranking.{Ranks}
use Rattle.book.specs.Lists.{lessened, lessened_first, of_hour, with_serial, without_first, ListingLaws}
use Rattle.book.specs.Meaning.{best, cut_list, energy_in, put_answer}
use Rattle.std.proofs.lemmas.List.Folds.{find_at}
use Rattle.book.proofs.Places.{without_first_at}
use Rattle.books.specs.Holding.{cut_at, order_in}
use Rattle.books.specs.Sorting.{sorted, length_sorted, stands_sorted}
use Rattle.books.proofs.Holding.{none_cut, none_taken, slice_get_none}
use Rattle.books.proofs.Sorting.{sort_pick, without_first_sorted, lessened_first_sorted, found_sorted, apart_pick}

-- put

pub put_behind : (order : Order) (xs : List Order) (count : ℕ) → count < length xs → take (count + 1) (set xs count order) ≡ take count xs ++ order ∷ []
put_behind order xs count l = take_more_set xs count order l

pub behind_figures : (order : Order) (xs : List Order) → within_figures order ≡ true → list_all within_figures xs ≡ true → list_all within_figures (xs ++ order ∷ []) ≡ true
behind_figures order [] one all = grind (arith, nat_tests)
behind_figures order (x ∷ xs) one all = let k = behind_figures order xs one in grind (arith, nat_tests)

pub behind_serials : (order : Order) (xs : List Order) → stands order.serial xs ≡ false → apart xs ≡ true → apart (xs ++ order ∷ []) ≡ true
behind_serials order xs one all =
    apart_pick xs [] order ∙ (ap (λ ys. not (stands order.serial ys) && apart ys) (append-nil xs) ∙ and_from _ _ (not_from_false _ one) all)

-- the sorted list has room where the orders have
pub put_answer_sorted : (before : Order → Order → Bool) (capacity : ℕ) (xs : List Order) (order : Order) → put_answer capacity xs order ≡ put_answer capacity (sorted before xs) order
put_answer_sorted before capacity xs order =
    let long = length_sorted before xs in
    let same = stands_sorted order.serial before xs in
    grind (arith, nat_tests)

pub put_sorted : {B E : Type 0} (before : Order → Order → Bool) → ListingLaws before → (answer : Result B E) (xs ys : List Order) (order : Order) → ys ≡ accepted answer (xs ++ order ∷ []) xs → apart ys ≡ true → sorted before ys ≡ accepted answer (ranked_in before order (sorted before xs)) (sorted before xs)
put_sorted before laws (Ok _) xs ys order is serials =
    ap (sorted before) is ∙ (sort_pick before laws xs [] order (ap apart (sym is) ∙ serials) ∙ ap (λ zs. ranked_in before order (sorted before zs)) (append-nil xs))
put_sorted before laws (Err _) xs ys order is serials = ap (sorted before) is

-- take and cut

-- a list about the order at a place
split_at : (xs : List Order) (at : ℕ) → at < length xs → xs ≡ take at xs ++ get_or xs at blank ∷ drop (suc at) xs
split_at xs at l =
    sym (take-append-drop at xs) ∙ ap (λ ys. take at xs ++ ys) (drop_more xs at blank l ∙ ap (λ n. get_or xs at blank ∷ drop n xs) (add-one at))

pub taken_sorted : (before : Order → Order → Bool) → ListingLaws before → (test : Order → Bool) (xs : List Order) (at : ℕ) → apart xs ≡ true → at < length xs → find test (sorted before xs) ≡ Some (get_or xs at blank) → sorted before (remove xs at) ≡ without_first test (sorted before xs)
taken_sorted before laws test xs at h l e =
    let is = split_at xs at l in
    sym (ap (λ ys. without_first test (sorted before ys)) is ∙ without_first_sorted before laws test (take at xs) (drop (suc at) xs) (get_or xs at blank) (ap apart (sym is) ∙ h) (ap (λ ys. find test (sorted before ys)) (sym is) ∙ e))

lessened_sorted : (first : Ranks) → ListingLaws (sooner first) → (test : Order → Bool) (energy : ℕ) (xs : List Order) (at : ℕ) → apart xs ≡ true → at < length xs → find test (sorted (sooner first) xs) ≡ Some (get_or xs at blank) → sorted (sooner first) (set xs at (lessened energy (get_or xs at blank))) ≡ lessened_first test energy (sorted (sooner first) xs)
lessened_sorted first laws test energy xs at h l e =
    let is = split_at xs at l in
    ap (sorted (sooner first)) (set_split xs at _ l) ∙ sym (ap (λ ys. lessened_first test energy (sorted (sooner first) ys)) is ∙ lessened_first_sorted first laws test energy (take at xs) (drop (suc at) xs) (get_or xs at blank) (ap apart (sym is) ∙ h) (ap (λ ys. find test (sorted (sooner first) ys)) (sym is) ∙ e))

-- a cut at the place of the order that is listed first of an hour is a cut of that order
pub cut_sorted : (first : Ranks) → ListingLaws (sooner first) → (hour energy : ℕ) (xs : List Order) (place : Option ℕ) → apart xs ≡ true → IfSome place (λ at. at < length xs) → order_in xs place ≡ best hour (sorted (sooner first) xs) → sorted (sooner first) (cut_at place energy xs) ≡ cut_list hour energy (sorted (sooner first) xs)
cut_sorted first laws hour energy xs None h l e = none_cut hour energy (sorted (sooner first) xs) e
cut_sorted first laws hour energy xs (Some at) h l e =
    let found : best hour (sorted (sooner first) xs) ≡ Some (get_or xs at blank) = sym e ∙ slice_get-get_or xs at blank l in
    let whole = taken_sorted (sooner first) laws (of_hour hour) xs at h l found in
    let part = lessened_sorted first laws (of_hour hour) energy xs at h l found in
    ap (λ order. sorted (sooner first) (cond (eqb (energy_in order) energy) (remove xs at) (set xs at (lessened energy (get_or xs at blank))))) e ∙ (spread (eqb (energy_in (best hour (sorted (sooner first) xs))) energy) ∙ (ap (λ ys. cond (eqb (energy_in (best hour (sorted (sooner first) xs))) energy) ys (sorted (sooner first) (set xs at (lessened energy (get_or xs at blank))))) whole ∙ ap (λ ys. cond (eqb (energy_in (best hour (sorted (sooner first) xs))) energy) (without_first (of_hour hour) (sorted (sooner first) xs)) ys) part)) where
      spread : (b : Bool) → sorted (sooner first) (cond b (remove xs at) (set xs at (lessened energy (get_or xs at blank)))) ≡ cond b (sorted (sooner first) (remove xs at)) (sorted (sooner first) (set xs at (lessened energy (get_or xs at blank))))
      spread true = refl
      spread false = refl

pub accepted_sorted : {B E : Type 0} (before : Order → Order → Bool) (answer : Result B E) (new old : List Order) → sorted before (accepted answer new old) ≡ accepted answer (sorted before new) (sorted before old)
accepted_sorted before (Ok _) new old = refl
accepted_sorted before (Err _) new old = refl

-- an order that is withdrawn is found by its serial wherever it stands
pub withdrawn_sorted : (before : Order → Order → Bool) → ListingLaws before → (serial : ℕ) (xs : List Order) → apart xs ≡ true → sorted before (without_first (with_serial serial) xs) ≡ without_first (with_serial serial) (sorted before xs)
withdrawn_sorted before laws serial xs h = by (cases_lt (prefix_len (λ x. not (with_serial serial x)) xs) (length xs)) where
  by : ((prefix_len (λ x. not (with_serial serial x)) xs) < length xs) ⊎ (length xs ≤ (prefix_len (λ x. not (with_serial serial x)) xs)) → sorted before (without_first (with_serial serial) xs) ≡ without_first (with_serial serial) (sorted before xs)
  by (inl l) =
      let found : find (with_serial serial) (sorted before xs) ≡ Some (get_or xs (prefix_len (λ x. not (with_serial serial x)) xs) blank) =
      found_sorted before serial xs h ∙ (find_at (with_serial serial) xs ∙ slice_get-get_or xs (prefix_len (λ x. not (with_serial serial x)) xs) blank l) in
      ap (sorted before) (without_first_at (with_serial serial) xs) ∙ taken_sorted before laws (with_serial serial) xs (prefix_len (λ x. not (with_serial serial x)) xs) h l found
  by (inr l) =
      let none : find (with_serial serial) xs ≡ None = find_at (with_serial serial) xs ∙ slice_get_past xs (prefix_len (λ x. not (with_serial serial x)) xs) l in
      ap (sorted before) (sym (none_taken (with_serial serial) xs (sym none))) ∙ none_taken (with_serial serial) (sorted before xs) (sym (found_sorted before serial xs h ∙ none))

-- position

-- where no order is listed at a position, none is listed behind it
pub none_behind : (xs : List Order) (n m : ℕ) → None ≡ slice_get xs n → n ≤ m → None ≡ slice_get xs m
none_behind xs n m e l = let past = slice_get_none xs n e in sym (slice_get_past xs m (omega arith))

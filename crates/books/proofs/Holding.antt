-- What a change of the places makes of the orders held in them. The places are xs before and ys after.
use Rattle.std.proofs.Common.{◌≡◌, ℕ, zero, suc, ◌+◌, ◌-◌, ◌^◌, ◌<◌, ◌≤◌, Bool, true, false, cond, not, eqb, List, [], ◌∷◌, ◌++◌, length, get_or, take, drop, set, Some, None, Ok, Err, filter, Option, Result, sym, refl, ap, ◌∙◌, arith}
use Rattle.std.specs.List.{prefix_len, remove, slice_get, list_all, position, find}
use Rattle.std.proofs.lemmas.List.Edits.{length-remove}
use Rattle.std.proofs.lemmas.List.{take_at, take_all, drop_all, length-take, length-take-le, get_or-take, append-nil, length-set}
use Rattle.std.proofs.lemmas.Option.{slice_get-get_or}
use Rattle.std.proofs.lemmas.List.Sums.{length-filter, count_by-le-length}
use Rattle.std.proofs.lemmas.Bool.{cond_both, cond-true, cond-false, lt-ltb, le-ltb, eq-eqb, ne_eqb, and_from, not_from_false}
use Rattle.std.proofs.lemmas.Bool.Decides.{nat_tests}
use Rattle.figures.specs.Orders.{within_figures, checked_before, blank}
use Rattle.figures.specs.declared.order.Order.{Order}
use Rattle.figures.specs.declared.refusal.Reason.{Reason}
use Rattle.sides.specs.Ranking.{Ranks}
use Rattle.sides.specs.Listing.{apart, stands, ranked_in, accepted, room_for, sooner, Ranked}
use Rattle.book.proofs.Kept.{each_ranked_in, apart_ranked_in, length_ranked_in}
use Rattle.book.specs.Lists.{without_first, lessened_first, closed_up, lessened, of_hour, total_energy}
use Rattle.book.specs.Meaning.{energy_in, taking, by_book, best, cut_list}
use Rattle.std.proofs.lemmas.List.Folds.{find_at}
use Rattle.book.proofs.Places.{without_first_at, lessened_first_at, place_found, place_none}
use Rattle.book.proofs.Ranked.{ranked_without_first, ranked_lessened_first}
use Rattle.book.proofs.Sound.{each_filter, each_set, apart_set, figures_checked, figures_lessened, each_get_or, most_energy}
use Rattle.books.specs.Filling.{Fill}
use Rattle.books.specs.Holding.{cut_at, order_in}

-- as many places as before, in which other orders stand
pub refilled : (xs ys new : List Order) (count more : ℕ) → Fill count xs → length ys ≡ length xs → more ≤ length ys → take more ys ≡ new → list_all within_figures new ≡ true → apart new ≡ true → Fill more ys
refilled xs ys new count more fill long room is figures serials =
    (omega (arith, fill.0), omega (arith, fill.1), room, ap (list_all within_figures) is ∙ figures, ap apart is ∙ serials)

-- what stands in front of others
pub kept_in_front : (new rest ys : List Order) (left : ℕ) → left ≡ length new → ys ≡ new ++ rest → take left ys ≡ new
kept_in_front new rest ys left long is = ap (take left) is ∙ take_at new rest left (sym long)

-- put

-- what the book does not refuse is not refused
pub unrefused : {A : Type 0} (answer : Result A Reason) (a : A) → by_book answer ≡ Ok a → answer ≡ Ok a
unrefused (Ok b) a e = cc
unrefused (Err reason) a e = let z : ◌≡◌ {A = ℕ} 0 1 = cc in absurd (omega arith)

-- there is room
pub room_is : (xs : List Order) (count : ℕ) (order : Order) → room_for (length xs) (take count xs) order ≡ Ok tt → count ≤ length xs → (count < length xs) × (stands order.serial (take count xs) ≡ false)
room_is xs count order e room =
    let long : length (take count xs) ≡ count = length-take-le count xs room in
    (grind (arith, nat_tests), grind (arith, nat_tests))

-- the checks did not refuse it
pub put_checked : (order : Order) (answer : Result (Unit {0}) Reason) → answer ≡ checked_before order (Ok tt) → by_book answer ≡ Ok tt → within_figures order ≡ true
put_checked order answer is went = figures_checked order (sym is ∙ unrefused answer tt went)

-- there was room, and it is put in by rank
pub put_in : (before : Order → Order → Bool) (order : Order) (xs ys : List Order) (count : ℕ) (answer : Result (Unit {0}) Reason) → count ≤ length xs → answer ≡ room_for (length xs) (take count xs) order → by_book answer ≡ Ok tt → ys ≡ accepted answer (ranked_in before order (take count xs) ++ drop (count + 1) xs) xs → (count < length xs) × (stands order.serial (take count xs) ≡ false) × (take (count + 1) ys ≡ ranked_in before order (take count xs))
put_in before order xs ys count answer room is went after =
    let done = unrefused answer tt went in
    let left = room_is xs count order (sym is ∙ done) room in
    let long : length (ranked_in before order (take count xs)) ≡ count + 1 =
    length_ranked_in before order (take count xs) ∙ ap (λ n. n + 1) (length-take-le count xs room) in
    (left.0, left.1, ap (take (count + 1)) (after ∙ ap (λ r. accepted r (ranked_in before order (take count xs) ++ drop (count + 1) xs) xs) done) ∙ take_at (ranked_in before order (take count xs)) (drop (count + 1) xs) (count + 1) long)

pub put_figures : (before : Order → Order → Bool) (order : Order) (xs : List Order) → within_figures order ≡ true → list_all within_figures xs ≡ true → list_all within_figures (ranked_in before order xs) ≡ true
put_figures before order xs one all = each_ranked_in within_figures before order xs ∙ and_from _ _ one all

pub put_serials : (before : Order → Order → Bool) (order : Order) (xs : List Order) → stands order.serial xs ≡ false → apart xs ≡ true → apart (ranked_in before order xs) ≡ true
put_serials before order xs one all =
    apart_ranked_in before order xs ∙ and_from _ _ (not_from_false _ one) all

-- take

removed_past : (xs : List Order) (at : ℕ) → length xs ≤ at → remove xs at ≡ xs
removed_past xs at h =
    ap (λ ys. ys ++ drop (suc at) xs) (take_all at xs h) ∙ (ap (λ ys. xs ++ ys) (drop_all (suc at) xs (omega arith)) ∙ append-nil xs)

-- a place where no order stands lies behind the orders
pub slice_get_none : (xs : List Order) (at : ℕ) → None ≡ slice_get xs at → length xs ≤ at
slice_get_none [] at e = omega arith
slice_get_none (x ∷ xs) zero e = let z : ◌≡◌ {A = ℕ} 0 1 = cc in absurd (omega arith)
slice_get_none (x ∷ xs) (suc at) e = let k = slice_get_none xs at e in omega arith

pub slice_get_some : (xs : List Order) (at : ℕ) (y : Order) → Some y ≡ slice_get xs at → at < length xs
slice_get_some [] at y e = let z : ◌≡◌ {A = ℕ} 0 1 = cc in absurd (omega arith)
slice_get_some (x ∷ xs) zero y e = omega arith
slice_get_some (x ∷ xs) (suc at) y e = let k = slice_get_some xs at y e in omega arith

-- nothing stands at the place: the places stay as they are, and nothing is removed
pub taken_none : (xs ys : List Order) (count at : ℕ) → None ≡ slice_get (take count xs) at → ys ≡ closed_up count at xs → (ys ≡ xs) × (take count xs ≡ remove (take count xs) at)
taken_none xs ys count at e is =
    let past = slice_get_none (take count xs) at e in
    (is ∙ cond-false _ _ _ (le-ltb _ _ past), sym (removed_past (take count xs) at past))

pub taken_one : (xs ys : List Order) (count at : ℕ) (y : Order) → count ≤ length xs → Some y ≡ slice_get (take count xs) at → ys ≡ closed_up count at xs → take (count - 1) ys ≡ remove (take count xs) at
taken_one xs ys count at y room e is =
    let within = slice_get_some (take count xs) at y e in
    let all : length (take count xs) ≡ count = length-take-le count xs room in
    let less = length-remove (take count xs) at within in
    kept_in_front (remove (take count xs) at) _ ys (count - 1) (omega arith) (is ∙ cond-true _ _ _ (lt-ltb _ _ within))

-- cut

set_front : (xs : List Order) (count at : ℕ) (y : Order) → at < count → take count (set xs at y) ≡ set (take count xs) at y
set_front [] zero at y l = refl
set_front [] (suc count) at y l = refl
set_front (x ∷ xs) zero at y l = absurd (omega arith)
set_front (x ∷ xs) (suc count) zero y l = refl
set_front (x ∷ xs) (suc count) (suc at) y l = ap (λ zs. x ∷ zs) (set_front xs count at y (omega arith))

-- the order at a place among the first `count`
pub order_at : (xs : List Order) (count at : ℕ) → at < length (take count xs) → slice_get (take count xs) at ≡ Some (get_or xs at blank)
order_at xs count at l =
    let long = length-take count xs in
    slice_get-get_or (take count xs) at blank l ∙ ap Some (get_or-take count xs at blank (omega arith))

taking_accepted : (energy : ℕ) (order : Option Order) → 1 ≤ energy → energy ≤ energy_in order → Ok tt ≡ taking energy order
taking_accepted energy order n l = grind (arith, nat_tests)

pub cut_accepted : (xs : List Order) (count at energy : ℕ) → at < length (take count xs) → 1 ≤ energy → energy ≤ (get_or xs at blank).energy → Ok tt ≡ taking energy (slice_get (take count xs) at)
cut_accepted xs count at energy l n h =
    taking_accepted energy (Some (get_or xs at blank)) n h ∙ ap (taking energy) (sym (order_at xs count at l))

-- all of the order's energy is taken
pub cut_whole : (xs : List Order) (count at energy : ℕ) → at < length (take count xs) → energy ≡ (get_or xs at blank).energy → remove (take count xs) at ≡ cut_at (Some at) energy (take count xs)
cut_whole xs count at energy l e =
    let one : energy_in (slice_get (take count xs) at) ≡ energy = ap energy_in (order_at xs count at l) ∙ sym e in
    sym (cond-true _ _ _ (eq-eqb _ _ one))

-- part of it is taken
pub cut_part : (xs : List Order) (count at energy : ℕ) → at < length (take count xs) → (energy ≡ (get_or xs at blank).energy → ⊥) → take count (set xs at (lessened energy (get_or xs at blank))) ≡ cut_at (Some at) energy (take count xs)
cut_part xs count at energy l n =
    let long = length-take count xs in
    let here : get_or (take count xs) at blank ≡ get_or xs at blank = get_or-take count xs at blank (omega arith) in
    let other : energy_in (slice_get (take count xs) at) ≡ energy → ⊥ =
    λ e. n (sym e ∙ ap energy_in (order_at xs count at l)) in
    set_front xs count at _ (omega arith) ∙ (ap (λ y. set (take count xs) at (lessened energy y)) (sym here) ∙ sym (cond-false _ _ _ (ne_eqb _ _ other)))

pub part_filled : (xs : List Order) (count at energy : ℕ) → Fill count xs → at < length (take count xs) → energy < (get_or xs at blank).energy → Fill count (set xs at (lessened energy (get_or xs at blank)))
part_filled xs count at energy fill l less =
    let long = length-take count xs in
    let here : get_or (take count xs) at blank ≡ get_or xs at blank = get_or-take count xs at blank (omega arith) in
    let one : within_figures (get_or xs at blank) ≡ true = ap within_figures (sym here) ∙ each_get_or within_figures (take count xs) at blank l fill.3 in
    let room = fill.2 in
    refilled xs _ (set (take count xs) at (lessened energy (get_or xs at blank))) count count fill (length-set xs at _) (simp length-set (omega arith)) (set_front xs count at _ (omega arith)) (each_set within_figures (take count xs) at _ (figures_lessened energy (get_or xs at blank) less one) fill.3) (apart_set (take count xs) at (lessened energy (get_or xs at blank)) blank (ap (λ y. y.serial) (sym here)) ∙ fill.4)

-- drop

length_kept_le : (test : Order → Bool) (xs : List Order) → length (filter test xs) ≤ length xs
length_kept_le test xs = let count = length-filter test xs in omega (arith, count_by-le-length test xs)

pub kept_room : (test : Order → Bool) (xs : List Order) (count left : ℕ) → left ≡ length (filter test (take count xs)) → left ≤ count
kept_room test xs count left e =
    let few = length_kept_le test (take count xs) in
    let taken = length-take count xs in
    omega arith

-- the energy that leaves fits 64 bits
pub lapsed_fits : (hour : ℕ) (xs : List Order) (count : ℕ) → Fill count xs → total_energy (filter (of_hour hour) (take count xs)) < 2 ^ 64
lapsed_fits hour xs count fill =
    let figures = each_filter within_figures (of_hour hour) (take count xs) fill.3 in
    let most = most_energy (filter (of_hour hour) (take count xs)) figures in
    let kept = length_kept_le (of_hour hour) (take count xs) in
    let taken = length-take count xs in
    let few = fill.1 in
    omega arith

-- the first order that passes a test, by its place

pub first_taken : (test : Order → Bool) (xs : List Order) (at : ℕ) → Some at ≡ position test xs → remove xs at ≡ without_first test xs
first_taken test xs at e =
    ap (remove xs) (place_found test xs at e).0 ∙ sym (without_first_at test xs)

pub none_taken : (test : Order → Bool) (xs : List Order) → None ≡ find test xs → xs ≡ without_first test xs
none_taken test xs e =
    let past = slice_get_none xs (prefix_len (λ x. not (test x)) xs) (e ∙ find_at test xs) in
    sym (without_first_at test xs ∙ removed_past xs _ past)

pub first_found : (test : Order → Bool) (xs : List Order) (place : Option ℕ) → place ≡ position test xs → order_in xs place ≡ find test xs
first_found test xs None e = place_none test xs e
first_found test xs (Some at) e = ap (slice_get xs) (place_found test xs at e).0 ∙ sym (find_at test xs)

none_lessened : (test : Order → Bool) (energy : ℕ) (xs : List Order) → None ≡ find test xs → xs ≡ lessened_first test energy xs
none_lessened test energy [] e = refl
none_lessened test energy (x ∷ xs) e = let k = none_lessened test energy xs in grind (arith, nat_tests)

-- no order of the hour: a cut leaves the list as it is
pub none_cut : (hour energy : ℕ) (xs : List Order) → None ≡ best hour xs → xs ≡ cut_list hour energy xs
none_cut hour energy xs e =
    cond_both (eqb (energy_in (best hour xs)) energy) (without_first (of_hour hour) xs) (lessened_first (of_hour hour) energy xs) (λ ys. xs ≡ ys) (λ _. none_taken (of_hour hour) xs e) (λ _. none_lessened (of_hour hour) energy xs e)

-- a cut at the place of an hour's best order is a cut of that order
pub first_cut : (hour energy : ℕ) (xs : List Order) (place : Option ℕ) → place ≡ position (of_hour hour) xs → cut_at place energy xs ≡ cut_list hour energy xs
first_cut hour energy xs None e = none_cut hour energy xs (place_none (of_hour hour) xs e)
first_cut hour energy xs (Some at) e =
    let is : at ≡ prefix_len (λ x. not (of_hour hour x)) xs = (place_found (of_hour hour) xs at e).0 in
    let best : slice_get xs at ≡ find (of_hour hour) xs = first_found (of_hour hour) xs (Some at) e in
    let whole : remove xs at ≡ without_first (of_hour hour) xs = first_taken (of_hour hour) xs at e in
    let part : set xs at (lessened energy (get_or xs at blank)) ≡ lessened_first (of_hour hour) energy xs =
    ap (λ place. set xs place (lessened energy (get_or xs place blank))) is ∙ sym (lessened_first_at (of_hour hour) energy xs blank) in
    ap (λ order. cond (eqb (energy_in order) energy) (remove xs at) (set xs at (lessened energy (get_or xs at blank)))) best ∙ (ap (λ ys. cond (eqb (energy_in (find (of_hour hour) xs)) energy) ys (set xs at (lessened energy (get_or xs at blank)))) whole ∙ ap (λ ys. cond (eqb (energy_in (find (of_hour hour) xs)) energy) (without_first (of_hour hour) xs) ys) part)

pub ranked_cut : (first : Ranks) (hour energy : ℕ) (xs : List Order) → Ranked (sooner first) xs → Ranked (sooner first) (cut_list hour energy xs)
ranked_cut first hour energy xs ranked =
    cond_both (eqb (energy_in (best hour xs)) energy) (without_first (of_hour hour) xs) (lessened_first (of_hour hour) energy xs) (Ranked (sooner first)) (λ _. ranked_without_first (sooner first) (of_hour hour) xs ranked) (λ _. ranked_lessened_first first (of_hour hour) energy xs ranked)

pub ranked_if : {B E : Type 0} (before : Order → Order → Bool) (answer : Result B E) (new old : List Order) → (Ranked before old → Ranked before new) → Ranked before old → Ranked before (accepted answer new old)
ranked_if before (Ok _) new old keeps ranked = keeps ranked
ranked_if before (Err _) new old keeps ranked = ranked

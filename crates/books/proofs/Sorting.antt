-- What sorting keeps, and how a change of the pile shows in its sorted list.
use Rattle.std.proofs.Common.{◌≡◌, ℕ, zero, suc, ◌+◌, Bool, true, false, cond, not, ◌&&◌, ◌||◌, eqb, List, [], ◌∷◌, ◌++◌, length, Some, None, Option, filter, sym, refl, ◌∙◌, add-one, arith}
use Rattle.std.specs.List.{slice_get, list_all, find}
use Rattle.std.proofs.lemmas.List.Recursion.{is_sum_by}
use Rattle.std.proofs.lemmas.List.{append-nil}
use Rattle.std.proofs.lemmas.Bool.{and_parts, eqb-false, not-true, or_parts}
use Rattle.std.proofs.lemmas.Bool.Decides.{nat_tests}
use Rattle.figures.specs.declared.order.Order.{Order}
use Rattle.sides.specs.Ranking.{Ranks}
use Rattle.sides.specs.Listing.{Ranked, apart, ranked_in, sooner, stands}
use Rattle.book.specs.Lists.{lessened, lessened_first, total_energy, with_serial, without_first, ListingLaws}
use Rattle.book.proofs.Sound.{each_filter}
use Rattle.books.specs.Sorting.{sorted, stands_sorted, sorted_ranked}

-- of the one found before and another order, which is listed first
abbrev pub soonest_of : (Order → Order → Bool) → Option Order → Order → Option Order
soonest_of before None x = Some x
soonest_of before (Some z) x = cond (before z x) (Some z) (Some x)

stands_pick : (serial : ℕ) (f k : List Order) (y : Order) → stands serial (f ++ y ∷ k) ≡ (eqb y.serial serial || stands serial (f ++ k))
stands_pick serial [] k y = refl
stands_pick serial (x ∷ f) k y = let h = stands_pick serial f k y in grind (arith, nat_tests)

-- orders are apart wherever one of them stands
pub apart_pick : (f k : List Order) (y : Order) → apart (f ++ y ∷ k) ≡ (not (stands y.serial (f ++ k)) && apart (f ++ k))
apart_pick [] k y = refl
apart_pick (x ∷ f) k y =
    let h = apart_pick f k y in
    let s = stands_pick x.serial f k y in
    grind (arith, nat_tests)

picked_apart : (f k : List Order) (y : Order) → apart (f ++ y ∷ k) ≡ true → stands y.serial (f ++ k) ≡ false
picked_apart f k y h = let p = apart_pick f k y in grind (arith, nat_tests)

-- an order that was found stands there
pub found_stands : (test : Order → Bool) (xs : List Order) (y : Order) → find test xs ≡ Some y → stands y.serial xs ≡ true
found_stands test [] y e = cc
found_stands test (x ∷ xs) y e = let h = found_stands test xs y in grind (arith, nat_tests)

-- y, just put in, is found first: without it the list is as it was
without_put : (before : Order → Order → Bool) (test : Order → Bool) (y : Order) (xs : List Order) → stands y.serial xs ≡ false → find test (ranked_in before y xs) ≡ Some y → without_first test (ranked_in before y xs) ≡ xs
without_put before test y [] s e = grind (arith, nat_tests)
without_put before test y (x ∷ xs) s e =
    let h = without_put before test y xs in
    let f = found_stands test (x ∷ xs) y in
    grind (arith, nat_tests)

lessened_put : (first : Ranks) (test : Order → Bool) (energy : ℕ) (y : Order) (xs : List Order) → stands y.serial xs ≡ false → find test (ranked_in (sooner first) y xs) ≡ Some y → lessened_first test energy (ranked_in (sooner first) y xs) ≡ ranked_in (sooner first) (lessened energy y) xs
lessened_put first test energy y [] s e = grind (arith, nat_tests)
lessened_put first test energy y (x ∷ xs) s e =
    let h = lessened_put first test energy y xs in
    let f = found_stands test (x ∷ xs) y in
    grind (arith, nat_tests)

found_put : (before : Order → Order → Bool) (serial : ℕ) (x : Order) (xs : List Order) → stands x.serial xs ≡ false → find (with_serial serial) (ranked_in before x xs) ≡ cond (eqb x.serial serial) (Some x) (find (with_serial serial) xs)
found_put before serial x [] s = refl
found_put before serial x (y ∷ ys) s = let h = found_put before serial x ys in grind (arith, nat_tests)

pub found_sorted : (before : Order → Order → Bool) (serial : ℕ) (xs : List Order) → apart xs ≡ true → find (with_serial serial) (sorted before xs) ≡ find (with_serial serial) xs
found_sorted before serial [] h = refl
found_sorted before serial (x ∷ xs) h =
    let s = stands_sorted x.serial before xs in
    let k = found_put before serial x (sorted before xs) in
    let i = found_sorted before serial xs in
    grind (arith, nat_tests)

count_put : (before : Order → Order → Bool) (test : Order → Bool) (x : Order) (xs : List Order) → length (filter test (ranked_in before x xs)) ≡ length (filter test (x ∷ xs))
count_put before test x [] = refl
count_put before test x (y ∷ ys) = let h = count_put before test x ys in grind (arith, nat_tests)

pub count_sorted : (before : Order → Order → Bool) (test : Order → Bool) (xs : List Order) → length (filter test (sorted before xs)) ≡ length (filter test xs)
count_sorted before test [] = refl
count_sorted before test (x ∷ xs) =
    let k = count_put before test x (sorted before xs) in
    let h = count_sorted before test xs in
    grind (arith, nat_tests)

-- the total energy, from the first order on
abbrev added : List Order → ℕ
added [] = 0
added (x ∷ xs) = x.energy + added xs

added_is : (xs : List Order) → added xs ≡ total_energy xs
added_is xs = is_sum_by added (λ x. x.energy) refl (λ x xs. refl) xs

added_put : (before : Order → Order → Bool) (test : Order → Bool) (x : Order) (xs : List Order) → added (filter test (ranked_in before x xs)) ≡ added (filter test (x ∷ xs))
added_put before test x [] = refl
added_put before test x (y ∷ ys) = let h = added_put before test x ys in grind (arith, nat_tests)

added_sorted : (before : Order → Order → Bool) (test : Order → Bool) (xs : List Order) → added (filter test (sorted before xs)) ≡ added (filter test xs)
added_sorted before test [] = refl
added_sorted before test (x ∷ xs) =
    let k = added_put before test x (sorted before xs) in
    let h = added_sorted before test xs in
    grind (arith, nat_tests)

pub energy_sorted : (before : Order → Order → Bool) (test : Order → Bool) (xs : List Order) → total_energy (filter test (sorted before xs)) ≡ total_energy (filter test xs)
energy_sorted before test xs =
    sym (added_is (filter test (sorted before xs))) ∙ (added_sorted before test xs ∙ added_is (filter test xs))

pub slice_get_first : (xs : List Order) → slice_get xs 0 ≡ find (λ _. true) xs
slice_get_first [] = refl
slice_get_first (x ∷ xs) = refl

slice_get_passes : (test : Order → Bool) (xs : List Order) → list_all test xs ≡ true → slice_get xs 0 ≡ find test xs
slice_get_passes test [] h = refl
slice_get_passes test (x ∷ xs) h = grind (arith, nat_tests)

each_nth : (test : Order → Bool) (xs : List Order) (n : ℕ) (y : Order) → list_all test xs ≡ true → slice_get xs n ≡ Some y → test y ≡ true
each_nth test [] n y h e = cc
each_nth test (x ∷ xs) zero y h e = grind (arith, nat_tests)
each_nth test (x ∷ xs) (suc n) y h e = each_nth test xs n y (and_parts (test x) (list_all test xs) h).1 e

module _ (before : Order → Order → Bool) (laws : ListingLaws before) where
  -- two orders are put in either way round
  pub swap_in : (a b : Order) (xs : List Order) → (a.serial ≡ b.serial → ⊥) → ranked_in before a (ranked_in before b xs) ≡ ranked_in before b (ranked_in before a xs)
  swap_in a b [] n =
      let p = laws.one_way a b in
      let q = laws.total a b n in
      grind (arith, nat_tests)
  swap_in a b (y ∷ ys) n =
      let p = laws.one_way a b in
      let q = laws.total a b n in
      let v = laws.chain y a b in
      let w = laws.chain y b a in
      let h = swap_in a b ys n in
      grind (arith, nat_tests)

  pub sort_pick : (f k : List Order) (y : Order) → apart (f ++ y ∷ k) ≡ true → sorted before (f ++ y ∷ k) ≡ ranked_in before y (sorted before (f ++ k))
  sort_pick [] k y h = refl
  sort_pick (z ∷ f) k y h =
      let p = and_parts (not (stands z.serial (f ++ y ∷ k))) (apart (f ++ y ∷ k)) h in
      let s : (eqb y.serial z.serial || stands z.serial (f ++ k)) ≡ false = sym (stands_pick z.serial f k y) ∙ not-true (stands z.serial (f ++ y ∷ k)) p.0 in
      let n = eqb-false y.serial z.serial (or_parts (eqb y.serial z.serial) (stands z.serial (f ++ k)) s).0 in
      rw (sort_pick f k y p.1) (swap_in z y (sorted before (f ++ k)) (λ e. n (sym e)))

  -- nothing behind an order that does not come before x comes before x
  none_before : (x y : Order) (ys : List Order) → before y x ≡ false → list_all (before y) ys ≡ true → list_all (λ z. not (before z x)) ys ≡ true
  none_before x y [] e h = refl
  none_before x y (z ∷ zs) e h =
      let c = laws.chain y z x in
      let k = none_before x y zs e in
      grind (arith, nat_tests)

  -- x goes in front of orders of which none comes before it
  in_front : (x : Order) (xs : List Order) → list_all (λ z. not (before z x)) xs ≡ true → ranked_in before x xs ≡ x ∷ xs
  in_front x [] h = refl
  in_front x (y ∷ ys) h = grind (arith, nat_tests)

  kept_ranked_in : (test : Order → Bool) (x : Order) (xs : List Order) → Ranked before xs → filter test (ranked_in before x xs) ≡ cond (test x) (ranked_in before x (filter test xs)) (filter test xs)
  kept_ranked_in test x [] r = refl
  kept_ranked_in test x (y ∷ ys) r =
      let h = kept_ranked_in test x ys r.1 in
      let f = λ (e : before y x ≡ false). in_front x (filter test ys) (each_filter (λ z. not (before z x)) test ys (none_before x y ys e r.0)) in
      grind (arith, nat_tests)

  pub sorted_filter : (test : Order → Bool) (xs : List Order) → apart xs ≡ true → filter test (sorted before xs) ≡ sorted before (filter test xs)
  sorted_filter test [] h = refl
  sorted_filter test (x ∷ xs) h =
      let p = and_parts (not (stands x.serial xs)) (apart xs) h in
      let k = kept_ranked_in test x (sorted before xs) (sorted_ranked before laws xs p.1) in
      let i = sorted_filter test xs p.1 in
      grind (arith, nat_tests)

  -- x comes first where no order comes before it
  soonest_front : (test : Order → Bool) (x : Order) (xs : List Order) → list_all (λ z. not (before z x)) xs ≡ true → soonest_of before (find test xs) x ≡ Some x
  soonest_front test x [] h = refl
  soonest_front test x (y ∷ ys) h = let k = soonest_front test x ys in grind (arith, nat_tests)

  first_ranked_in : (test : Order → Bool) (x : Order) (xs : List Order) → Ranked before xs → find test (ranked_in before x xs) ≡ cond (test x) (soonest_of before (find test xs) x) (find test xs)
  first_ranked_in test x [] r = refl
  first_ranked_in test x (y ∷ ys) r =
      let h = first_ranked_in test x ys r.1 in
      let f = λ (e : before y x ≡ false). soonest_front test x ys (none_before x y ys e r.0) in
      grind (arith, nat_tests)

  -- one more order: it is the first that passes unless the one found before comes before it
  pub find_push : (test : Order → Bool) (xs : List Order) (x : Order) → apart (xs ++ x ∷ []) ≡ true → find test (sorted before (xs ++ x ∷ [])) ≡ cond (test x) (soonest_of before (find test (sorted before xs)) x) (find test (sorted before xs))
  find_push test xs x h =
      let s = sort_pick xs [] x h in
      let n = append-nil xs in
      let a = rw n at (and_parts (not (stands x.serial (xs ++ []))) (apart (xs ++ [])) (sym (apart_pick xs [] x) ∙ h)).1 in
      let k = first_ranked_in test x (sorted before xs) (sorted_ranked before laws xs a) in
      rw (s, n) k

  pub without_first_sorted : (test : Order → Bool) (f k : List Order) (y : Order) → apart (f ++ y ∷ k) ≡ true → find test (sorted before (f ++ y ∷ k)) ≡ Some y → without_first test (sorted before (f ++ y ∷ k)) ≡ sorted before (f ++ k)
  without_first_sorted test f k y h e =
      let s = sort_pick f k y h in
      rw s (without_put before test y (sorted before (f ++ k)) (stands_sorted y.serial before (f ++ k) ∙ picked_apart f k y h) (rw s at e))

  -- the one behind y is the first of those that y comes before
  pub slice_get_next : (xs : List Order) (n : ℕ) (y : Order) → Ranked before xs → slice_get xs n ≡ Some y → slice_get xs (n + 1) ≡ find (before y) xs
  slice_get_next [] n y r e = cc
  slice_get_next (x ∷ xs) zero y r e =
      let o = laws.one_way x x in
      let p = slice_get_passes (before x) xs r.0 in
      grind (arith, nat_tests)
  slice_get_next (x ∷ xs) (suc n) y r e =
      let o = laws.one_way x y (each_nth (before x) xs n y r.0 e) in
      let h = slice_get_next xs n y r.1 e in
      let i = add-one (suc n) in
      let j = add-one n in
      grind (arith, nat_tests)

pub lessened_first_sorted : (first : Ranks) → ListingLaws (sooner first) → (test : Order → Bool) (energy : ℕ) (f k : List Order) (y : Order) → apart (f ++ y ∷ k) ≡ true → find test (sorted (sooner first) (f ++ y ∷ k)) ≡ Some y → lessened_first test energy (sorted (sooner first) (f ++ y ∷ k)) ≡ sorted (sooner first) (f ++ lessened energy y ∷ k)
lessened_first_sorted first laws test energy f k y h e =
    let s = sort_pick (sooner first) laws f k y h in
    let t = sort_pick (sooner first) laws f k (lessened energy y) (apart_pick f k (lessened energy y) ∙ (sym (apart_pick f k y) ∙ h)) in
    let q = stands_sorted y.serial (sooner first) (f ++ k) ∙ picked_apart f k y h in
    rw (s, t) (lessened_put first test energy y (sorted (sooner first) (f ++ k)) q (rw s at e))

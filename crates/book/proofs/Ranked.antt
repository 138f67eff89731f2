-- The listed order is kept by every change.
use Rattle.std.proofs.Common.{◌≡◌, ℕ, Bool, true, false, eqb, List, [], ◌∷◌, filter, refl, ◌∙◌, arith}
use Rattle.std.specs.List.{list_all}
use Rattle.std.proofs.lemmas.Bool.{cond_both, eqb-false, or_parts}
use Rattle.std.proofs.lemmas.Bool.Decides.{nat_tests}
use Rattle.figures.specs.declared.order.Order.{Order}
use Rattle.sides.specs.Ranking.{Direction, Lawful, Ranks}
use Rattle.sides.specs.Listing.{Ranked, ranked_in, sooner, stands}
use Rattle.book.proofs.Kept.{each_ranked_in}
use Rattle.book.specs.Lists.{ListingLaws, without_first, lessened, lessened_first}
use Rattle.book.proofs.Sound.{each_without_first, each_filter}

pub sooner_laws : {d : Direction} {first : Ranks} → Lawful d first → ListingLaws (sooner first)
sooner_laws law =
    record {
      one_way = λ a b e. let p = law.one_way a.limit a.serial b.limit b.serial in grind (arith, nat_tests);
      chain = λ a b c e f.
          let p = law.chain a.limit a.serial b.limit b.serial c.limit c.serial in grind (arith, nat_tests);
      total = λ a b n e.
          let p = law.total a.limit a.serial b.limit b.serial n in grind (arith, nat_tests);
    }

-- what comes before the first comes before all that it comes before
pub each_before : (before : Order → Order → Bool) → ListingLaws before → (x y : Order) (ys : List Order) → before x y ≡ true → list_all (before y) ys ≡ true → list_all (before x) ys ≡ true
each_before before laws x y [] e h = refl
each_before before laws x y (z ∷ zs) e h =
    let k = each_before before laws x y zs e in
    let c = laws.chain x y z e in
    grind (arith, nat_tests)

pub ranked_put : (before : Order → Order → Bool) → ListingLaws before → (x : Order) (xs : List Order) → stands x.serial xs ≡ false → Ranked before xs → Ranked before (ranked_in before x xs)
ranked_put before laws x [] s r = (refl, tt)
ranked_put before laws x (y ∷ ys) s r =
    let p = or_parts (eqb y.serial x.serial) (stands x.serial ys) s in
    cond_both (before y x) (y ∷ ranked_in before x ys) (x ∷ y ∷ ys) (Ranked before)
    (λ e. let k = each_ranked_in (before y) before x ys in
    let front : list_all (before y) (ranked_in before x ys) ≡ true = grind (arith, nat_tests) in
    (front, ranked_put before laws x ys p.1 r.1))
    (λ e. let f = laws.total y x (eqb-false y.serial x.serial p.0) e in
    let k = each_before before laws x y ys f r.0 in
    let front : list_all (before x) (y ∷ ys) ≡ true = grind (arith, nat_tests) in
    (front, r))

pub ranked_without_first : (before : Order → Order → Bool) (test : Order → Bool) (xs : List Order) → Ranked before xs → Ranked before (without_first test xs)
ranked_without_first before test [] r = tt
ranked_without_first before test (x ∷ xs) r =
    cond_both (test x) xs (x ∷ without_first test xs) (Ranked before) (λ e. r.1)
    (λ e. (each_without_first (before x) test xs r.0, ranked_without_first before test xs r.1))

pub each_sooner_lessened : (first : Ranks) (y : Order) (test : Order → Bool) (energy : ℕ) (xs : List Order) → list_all (sooner first y) (lessened_first test energy xs) ≡ list_all (sooner first y) xs
each_sooner_lessened first y test energy [] = refl
each_sooner_lessened first y test energy (x ∷ xs) =
    let k = each_sooner_lessened first y test energy xs in
    cond_both (test x) (lessened energy x ∷ xs) (x ∷ lessened_first test energy xs) (λ l. list_all (sooner first y) l ≡ list_all (sooner first y) (x ∷ xs)) (λ e. refl) (λ e. rw k)

pub ranked_lessened_first : (first : Ranks) (test : Order → Bool) (energy : ℕ) (xs : List Order) → Ranked (sooner first) xs → Ranked (sooner first) (lessened_first test energy xs)
ranked_lessened_first first test energy [] r = tt
ranked_lessened_first first test energy (x ∷ xs) r =
    cond_both (test x) (lessened energy x ∷ xs) (x ∷ lessened_first test energy xs) (Ranked (sooner first)) (λ e. r)
    (λ e. (each_sooner_lessened first x test energy xs ∙ r.0, ranked_lessened_first first test energy xs r.1))

pub ranked_filter : (before : Order → Order → Bool) (test : Order → Bool) (xs : List Order) → Ranked before xs → Ranked before (filter test xs)
ranked_filter before test [] r = tt
ranked_filter before test (x ∷ xs) r =
    cond_both (test x) (x ∷ filter test xs) (filter test xs) (Ranked before)
    (λ e. (each_filter (before x) test xs r.0, ranked_filter before test xs r.1))
    (λ e. ranked_filter before test xs r.1)

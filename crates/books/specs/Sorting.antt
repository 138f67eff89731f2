-- Orders in listed order, whatever order they stand in. What is proved here, nobody has to believe.
use Rattle.std.specs.Prelude.{◌≡◌, ℕ, suc, ◌≤◌, Bool, true, not, ◌&&◌, ◌||◌, List, [], ◌∷◌, length, ◌==◌, refl}
use Rattle.std.specs.List.{list_all}
use Rattle.std.proofs.Common.{sym, ap, subst, ◌∙◌, add-one}
use Rattle.std.proofs.lemmas.Bool.{and_parts, not-true}
use Rattle.figures.specs.Orders.{within_figures}
use Rattle.figures.specs.declared.order.Order.{Order}
use Rattle.sides.specs.Listing.{Ranked, apart, ranked_in, stands}
use Rattle.book.specs.Meaning.{Sound}
use Rattle.book.proofs.Kept.{each_ranked_in, stands_ranked_in, apart_ranked_in, length_ranked_in}
use Rattle.book.proofs.Ranked.{ranked_put}
use Rattle.book.specs.Lists.{ListingLaws}
use Rattle.books.specs.Filling.{Fill}
use Rattle.books.specs.Holding.{held, size, take_room}
use Rattle.books.specs.declared.places.Places.{Places}

-- each order is put behind those of the sorted rest that come before it
abbrev pub sorted : (Order → Order → Bool) → List Order → List Order
sorted before [] = []
sorted before (x ∷ xs) = ranked_in before x (sorted before xs)

pub each_sorted : (test : Order → Bool) (before : Order → Order → Bool) (xs : List Order) → list_all test (sorted before xs) ≡ list_all test xs
each_sorted test before [] = refl
each_sorted test before (x ∷ xs) =
    each_ranked_in test before x (sorted before xs) ∙ ap (λ b. test x && b) (each_sorted test before xs)

pub stands_sorted : (serial : ℕ) (before : Order → Order → Bool) (xs : List Order) → stands serial (sorted before xs) ≡ stands serial xs
stands_sorted serial before [] = refl
stands_sorted serial before (x ∷ xs) =
    stands_ranked_in serial before x (sorted before xs) ∙ ap (λ b. (x.serial == serial) || b) (stands_sorted serial before xs)

pub apart_sorted : (before : Order → Order → Bool) (xs : List Order) → apart (sorted before xs) ≡ apart xs
apart_sorted before [] = refl
apart_sorted before (x ∷ xs) =
    apart_ranked_in before x (sorted before xs)
    ∙ (ap (λ b. not b && apart (sorted before xs)) (stands_sorted x.serial before xs)
    ∙ ap (λ b. not (stands x.serial xs) && b) (apart_sorted before xs))

pub length_sorted : (before : Order → Order → Bool) (xs : List Order) → length (sorted before xs) ≡ length xs
length_sorted before [] = refl
length_sorted before (x ∷ xs) =
    length_ranked_in before x (sorted before xs) ∙ (add-one (length (sorted before xs)) ∙ ap suc (length_sorted before xs))

pub sorted_ranked : (before : Order → Order → Bool) → ListingLaws before → (xs : List Order) → apart xs ≡ true → Ranked before (sorted before xs)
sorted_ranked before laws [] h = tt
sorted_ranked before laws (x ∷ xs) h =
    let p = and_parts (not (stands x.serial xs)) (apart xs) h in
    ranked_put before laws x (sorted before xs) (stands_sorted x.serial before xs ∙ not-true (stands x.serial xs) p.0) (sorted_ranked before laws xs p.1)

-- the sorted orders of a book's places make a sound book
pub sorted_sound : (before : Order → Order → Bool) (places : Places) → Fill places.count places.orders.now → Sound (size places) (sorted before (held places))
sorted_sound before places filled =
    record {
      some_place = filled.0;
      few_places = filled.1;
      room = subst (λ n. n ≤ size places) (sym (length_sorted before (held places))) (take_room places.count places.orders.now);
      figures = each_sorted within_figures before (held places) ∙ filled.3;
      serials = apart_sorted before (held places) ∙ filled.4;
    }

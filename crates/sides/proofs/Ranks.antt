-- Insertion by rank is insertion at the rank, and whether there is room for it.
use Rattle.std.proofs.Common.{◌≡◌, ℕ, ◌+◌, ◌≤◌, Bool, true, false, cond, List, [], ◌∷◌, take, Some, None, sym, refl, ap, ◌∙◌, one-add, arith}
use Rattle.std.specs.List.{insert}
use Rattle.std.proofs.lemmas.List.{length-take}
use Rattle.std.proofs.lemmas.List.Sums.{prefix_len-le-length}
use Rattle.figures.specs.declared.order.Order.{Order}
use Rattle.sides.specs.Listing.{stands, ranked_in, rank_among, rank_for}

pub ranked_in_is : (before : Order → Order → Bool) (x : Order) (xs : List Order) → ranked_in before x xs ≡ insert xs (rank_among before x xs) x
ranked_in_is before x [] = refl
ranked_in_is before x (y ∷ ys) =
    elim (before y x) as (λ v. cond v (y ∷ ranked_in before x ys) (x ∷ y ∷ ys) ≡ insert (y ∷ ys) (cond v (1 + rank_among before x ys) 0) x) [ true ↦ rw one-add (ap (λ zs. y ∷ zs) (ranked_in_is before x ys)) | false ↦ refl ]

-- what a found rank says
pub rank_found : (before : Order → Order → Bool) (x : Order) (xs : List Order) (at : ℕ) → Some at ≡ rank_for before x xs → (stands x.serial xs ≡ false) × (at ≡ rank_among before x xs)
rank_found before x xs at e = found (stands x.serial xs) e where
  found : (b : Bool) → Some at ≡ cond b None (Some (rank_among before x xs)) → (b ≡ false) × (at ≡ rank_among before x xs)
  found true e = let z : ◌≡◌ {A = ℕ} 0 1 = cc in absurd (omega arith)
  found false e = (refl, cc)

pub rank_within : (before : Order → Order → Bool) (x : Order) (xs : List Order) (count at : ℕ) → Some at ≡ rank_for before x (take count xs) → at ≤ count
rank_within before x xs count at e =
    let is = (rank_found before x (take count xs) at e).1 in
    let most = prefix_len-le-length (λ y. before y x) (take count xs) in
    let long = length-take count xs in
    omega arith

pub inserted_at_rank : (before : Order → Order → Bool) (x : Order) (xs : List Order) (at : ℕ) → Some at ≡ rank_for before x xs → insert xs at x ≡ ranked_in before x xs
inserted_at_rank before x xs at e =
    ap (λ n. insert xs n x) (rank_found before x xs at e).1 ∙ sym (ranked_in_is before x xs)

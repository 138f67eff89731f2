-- The elements from `at` on but the last are copied one place further, and x is written at `at`.
use Rattle.std.proofs.Common.{◌≡◌, ℕ, ◌+◌, ◌-◌, ◌<◌, ◌≤◌, List, [], ◌∷◌, ◌++◌, length, get_or, take, drop, set, sym, refl, ap, ◌∙◌, append_assoc, arith}
use Rattle.std.specs.List.{copy_within, insert}
use Rattle.std.proofs.lemmas.List.{set_at, take_more, take-take, drop-take, drop_all, length-take-le, append-nil}

pub shifted_in : {X : Type 0} (xs : List X) (at : ℕ) (x : X) → at < length xs → set (copy_within xs at (length xs - 1) (at + 1)) at x ≡ insert (take (length xs - 1) xs) at x
shifted_in xs at x l =
    let last = length xs - 1 in
    let back = take (last - at) (drop at xs) in
    let end : length xs ≤ (at + 1) + (last - at) = omega arith in
    let long : length (take at xs) ≡ at = length-take-le at xs (omega arith) in
    let more : take (at + 1) xs ≡ take at xs ++ get_or xs at x ∷ [] = take_more xs at x l in
    let none : drop ((at + 1) + (last - at)) xs ≡ [] = drop_all _ xs end in
    let copied : copy_within xs at last (at + 1) ≡ take at xs ++ get_or xs at x ∷ back =
    ap (λ ys. (take (at + 1) xs ++ back) ++ ys) none ∙ (append-nil (take (at + 1) xs ++ back) ∙ (ap (λ ys. ys ++ back) more ∙ append_assoc (take at xs) (get_or xs at x ∷ []) back)) in
    let wrote = set_at (take at xs) (get_or xs at x) back x at long in
    let front : take at (take last xs) ≡ take at xs = take-take at last xs (omega arith) in
    let e : last ≡ at + (last - at) = omega arith in
    let behind : drop at (take last xs) ≡ back = ap (λ k. drop at (take k xs)) e ∙ drop-take at (last - at) xs in
    let inserted : insert (take last xs) at x ≡ take at xs ++ x ∷ back = rw (front, behind) refl in
    ap (λ ys. set ys at x) copied ∙ (wrote ∙ sym inserted)

-- of the first `count` and one more, all but the last are the first `count`
pub but_the_last : {X : Type 0} (xs : List X) (count : ℕ) → count < length xs → take (length (take (count + 1) xs) - 1) (take (count + 1) xs) ≡ take count xs
but_the_last xs count h =
    let long : length (take (count + 1) xs) ≡ count + 1 = length-take-le (count + 1) xs (omega arith) in
    let n : length (take (count + 1) xs) - 1 ≡ count = omega arith in
    ap (λ k. take k (take (count + 1) xs)) n ∙ take-take count (count + 1) xs (omega arith)

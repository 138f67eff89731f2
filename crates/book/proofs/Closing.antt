-- A loop over the first `count` places of a slice keeps what passes.
use Rattle.std.proofs.Common.{◌≡◌, ℕ, ◌+◌, ◌-◌, ◌<◌, ◌≤◌, min, Bool, true, false, ◌⊎◌, List, [], ◌∷◌, ◌++◌, length, get_or, take, drop, set, filter, sym, ap, ◌∙◌, subst, inl, inr, append_assoc, arith}
use Rattle.std.proofs.lemmas.List.Elements.{filter_more}
use Rattle.std.proofs.lemmas.List.{append-nil, get_or-append-add, get_or-drop, set_at, length_push, drop_more, take_all}
use Rattle.std.proofs.lemmas.Bool.{cases_lt, cond-true, cond-false}
use Rattle.figures.specs.declared.order.Order.{Order}

take_min_by : {X : Type 0} (count : ℕ) (xs : List X) → (count < length xs) ⊎ (length xs ≤ count) → take (min count (length xs)) xs ≡ take count xs
take_min_by count xs (inl h) = let e : min count (length xs) ≡ count = omega arith in ap (λ n. take n xs) e
take_min_by count xs (inr h) =
    let e : min count (length xs) ≡ length xs = omega arith in
    ap (λ n. take n xs) e ∙ (take_all _ xs (omega arith) ∙ sym (take_all count xs h))

-- a count past the end is the whole list
take_min : {X : Type 0} (count : ℕ) (xs : List X) → take (min count (length xs)) xs ≡ take count xs
take_min count xs = take_min_by count xs (cases_lt count (length xs))

-- Among the first i, `left` orders pass; they stand in front, and what stood behind them stays.
pub record Keeping (test : Order → Bool) (xs ys : List Order) (left i : ℕ) : Type 0 where
  pub is : ys ≡ filter test (take i xs) ++ drop left xs
  pub long : left ≡ length (filter test (take i xs))
  pub behind : left ≤ i

-- the order at i is not yet written over
keeping_read : (test : Order → Bool) (xs ys : List Order) (left i : ℕ) (d : Order) → Keeping test xs ys left i → i < length xs → get_or ys i d ≡ get_or xs i d
keeping_read test xs ys left i d k l =
    let long = k.long in
    let behind = k.behind in
    let split : i ≡ length (filter test (take i xs)) + (i - left) = omega arith in
    let back : left + (i - left) ≡ i = omega arith in
    ap (λ zs. get_or zs i d) k.is ∙ (ap (λ n. get_or (filter test (take i xs) ++ drop left xs) n d) split ∙ (get_or-append-add (filter test (take i xs)) (drop left xs) (i - left) d ∙ (get_or-drop left xs (i - left) d ∙ ap (λ n. get_or xs n d) back)))

yes_of_old : (test : Order → Bool) (xs ys : List Order) (left i : ℕ) (d : Order) → Keeping test xs ys left i → i < length xs → test (get_or xs i d) ≡ true → Keeping test xs (set ys left (get_or xs i d)) (left + 1) (i + 1)
yes_of_old test xs ys left i d k l e =
    let long = k.long in
    let behind = k.behind in
    let more : filter test (take (i + 1) xs) ≡ filter test (take i xs) ++ get_or xs i d ∷ [] =
    filter_more test xs i d l ∙ ap (λ zs. filter test (take i xs) ++ zs) (cond-true _ _ _ e) in
    let here : drop left xs ≡ get_or xs left d ∷ drop (left + 1) xs = drop_more xs left d (omega arith) in
    let wrote : set ys left (get_or xs i d) ≡ filter test (take i xs) ++ get_or xs i d ∷ drop (left + 1) xs =
    ap (λ zs. set zs left (get_or xs i d)) (k.is ∙ ap (λ zs. filter test (take i xs) ++ zs) here) ∙ set_at (filter test (take i xs)) (get_or xs left d) (drop (left + 1) xs) (get_or xs i d) left (sym long) in
    record {
      is = wrote ∙ (sym (append_assoc (filter test (take i xs)) (get_or xs i d ∷ []) (drop (left + 1) xs)) ∙ ap (λ zs. zs ++ drop (left + 1) xs) (sym more));
      long = ap (λ n. n + 1) long ∙ (sym (length_push (filter test (take i xs)) (get_or xs i d)) ∙ ap length (sym more));
      behind = omega arith;
    }

no_of_old : (test : Order → Bool) (xs ys : List Order) (left i : ℕ) (d : Order) → Keeping test xs ys left i → i < length xs → test (get_or xs i d) ≡ false → Keeping test xs ys left (i + 1)
no_of_old test xs ys left i d k l e =
    let behind = k.behind in
    let same : filter test (take (i + 1) xs) ≡ filter test (take i xs) =
    filter_more test xs i d l ∙ (ap (λ zs. filter test (take i xs) ++ zs) (cond-false _ _ _ e) ∙ append-nil _) in
    record {
      is = k.is ∙ ap (λ zs. zs ++ drop left xs) (sym same);
      long = k.long ∙ ap length (sym same);
      behind = omega arith;
    }

-- the same, told by the order that is read at i
pub keeping_yes : (test : Order → Bool) (xs ys : List Order) (left i : ℕ) (d : Order) → Keeping test xs ys left i → i < length xs → test (get_or ys i d) ≡ true → Keeping test xs (set ys left (get_or ys i d)) (left + 1) (i + 1)
keeping_yes test xs ys left i d k l e =
    let read = keeping_read test xs ys left i d k l in
    subst (λ x. Keeping test xs (set ys left x) (left + 1) (i + 1)) (sym read) (yes_of_old test xs ys left i d k l (ap test (sym read) ∙ e))

pub keeping_no : (test : Order → Bool) (xs ys : List Order) (left i : ℕ) (d : Order) → Keeping test xs ys left i → i < length xs → test (get_or ys i d) ≡ false → Keeping test xs ys left (i + 1)
keeping_no test xs ys left i d k l e =
    no_of_old test xs ys left i d k l (ap test (sym (keeping_read test xs ys left i d k l)) ∙ e)

pub keeping_all : (test : Order → Bool) (xs ys : List Order) (count left i : ℕ) → Keeping test xs ys left i → i ≡ min count (length xs) → (left ≡ length (filter test (take count xs))) × (ys ≡ filter test (take count xs) ++ drop left xs)
keeping_all test xs ys count left i k e =
    let all : take i xs ≡ take count xs = ap (λ n. take n xs) e ∙ take_min count xs in
    (k.long ∙ ap (λ zs. length (filter test zs)) all, k.is ∙ ap (λ zs. filter test zs ++ drop left xs) all)

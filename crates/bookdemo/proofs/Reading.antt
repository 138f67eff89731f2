-- A loop that writes a list to the front of a table, one order after the other.
use Rattle.std.proofs.Common.{◌≡◌, ℕ, ◌+◌, ◌<◌, ◌≤◌, List, [], ◌∷◌, ◌++◌, length, get_or, take, drop, set, Some, arith}
use Rattle.std.specs.List.{slice_get}
use Rattle.std.proofs.lemmas.List.{set_at, drop_more, take_more, length-take-le, append_assoc}
use Rattle.std.proofs.lemmas.Option.{slice_get-get_or}
use Rattle.figures.specs.declared.order.Order.{Order}
use Rattle.books.proofs.Holding.{slice_get_some}
use Rattle.figures.specs.Orders.{blank}

pub read_more : (xs old table : List Order) (i : ℕ) (x : Order) → table ≡ take i xs ++ drop i old → i < length old → Some x ≡ slice_get xs i → (set table i x ≡ take (i + 1) xs ++ drop (i + 1) old) × (i + 1 ≤ length xs)
read_more xs old table i x e l found =
    let within = slice_get_some xs i x found in
    let is = slice_get-get_or xs i blank within in
    let here = drop_more old i blank l in
    let more = take_more xs i blank within in
    let long = length-take-le i xs (omega arith) in
    let wrote = set_at (take i xs) (get_or old i blank) (drop (i + 1) old) x i long in
    let joined = append_assoc (take i xs) (x ∷ []) (drop (i + 1) old) in
    let same : get_or xs i blank ≡ x = cc in
    (cc, omega arith)

-- What holds of places in which some orders stand.
use Rattle.std.specs.Prelude.{◌≡◌, ℕ, ◌≤◌, true, List, length, take}
use Rattle.std.specs.List.{list_all}
use Rattle.figures.specs.Orders.{within_figures}
use Rattle.figures.specs.declared.order.Order.{Order}
use Rattle.sides.specs.Listing.{apart}

-- from 1 to 4,096 places; in the first `count` of them stand orders within the figures, with different serials
abbrev pub Fill : ℕ → List Order → Type 0
Fill count places =
    (1 ≤ length places) × (length places ≤ 4096) × (count ≤ length places) × (list_all within_figures (take count places) ≡ true) × (apart (take count places) ≡ true)

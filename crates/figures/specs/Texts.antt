-- How an order and a refusal are printed. Assumes nothing.
use Rattle.std.specs.Prelude.{ℕ, List, ◌++◌, codes, decimal}
use Rattle.std.specs.Fmt.{signed_decimal}
use Rattle.figures.specs.Refusals.{notice}
use Rattle.figures.specs.declared.order.Order.{Order}
use Rattle.figures.specs.declared.refusal.Refusal.{Refusal}

abbrev pub order_text : Order → List ℕ
order_text o =
    codes "hour " ++ (decimal o.hour
    ++ (codes " serial " ++ (decimal o.serial
    ++ (codes " member " ++ (decimal o.member
    ++ (codes " energy " ++ (decimal o.energy
    ++ (codes " limit " ++ signed_decimal o.limit))))))))

abbrev pub refusal_text : Refusal → List ℕ
refusal_text r =
    codes "refused " ++ (decimal (notice r.reason).number ++ (codes " with figure " ++ signed_decimal (notice r.reason).figure))

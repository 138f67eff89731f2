-- When an order is within the figures of the market.
use Rattle.std.specs.Prelude.{Bool, not, ◌&&◌, pos, Result}
use Rattle.figures.specs.Bounds.{member_unknown, hour_too_late, energy_out_of_range, limit_out_of_range, serial_out_of_range, refuse_if}
use Rattle.figures.specs.declared.order.Order.{Order}
use Rattle.figures.specs.declared.refusal.Reason.{Reason}
use Rattle.figures.specs.declared.refusal.Reason.TheVariants.{MemberUnknown, HourNotOpen, EnergyOutOfRange, LimitOutOfRange, SerialOutOfRange}

-- what `later` answers, once the order's figures have been found in range one after the other
abbrev pub checked_before : {A : Type 0} → Order → Result A Reason → Result A Reason
checked_before o later =
    refuse_if (member_unknown o.member) (MemberUnknown o.member)
    (refuse_if (hour_too_late o.hour) (HourNotOpen o.hour)
    (refuse_if (energy_out_of_range o.energy) (EnergyOutOfRange o.energy)
    (refuse_if (limit_out_of_range o.limit) (LimitOutOfRange o.limit)
    (refuse_if (serial_out_of_range o.serial) (SerialOutOfRange o.serial) later))))

-- every figure of the order is in range
abbrev pub within_figures : Order → Bool
within_figures o =
    not (member_unknown o.member) && not (hour_too_late o.hour) && not (energy_out_of_range o.energy) && not (limit_out_of_range o.limit) && not (serial_out_of_range o.serial)

-- an order of nothing: what a read of a slice of orders is taken to give past its end
abbrev pub blank : Order
blank = record { hour = 0; serial = 0; member = 0; energy = 0; limit = pos 0 }

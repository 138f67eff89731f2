-- The figures of the market: what is out of range, and what a check of each figure answers.
use Rattle.std.specs.Prelude.{ℕ, Bool, true, false, ◌||◌, ℤ, pos, negsuc, Ok, Err, Result, ◌==◌, int_lt, nat_lt}
use Rattle.figures.specs.declared.refusal.Reason.{Reason}
use Rattle.figures.specs.declared.refusal.Reason.TheVariants.{MemberUnknown, HourNotOpen, EnergyOutOfRange, LimitOutOfRange, SerialOutOfRange}

abbrev pub member_unknown : ℕ → Bool
member_unknown member = nat_lt 31 member

abbrev pub hour_too_late : ℕ → Bool
hour_too_late hour = nat_lt 1000024 hour

abbrev pub energy_out_of_range : ℕ → Bool
energy_out_of_range energy = energy == 0 || nat_lt 1000000 energy

-- below -50,000 or above 400,000
abbrev pub limit_out_of_range : ℤ → Bool
limit_out_of_range limit = int_lt limit (negsuc 49999) || int_lt (pos 400000) limit

abbrev pub serial_out_of_range : ℕ → Bool
serial_out_of_range serial = serial == 0 || nat_lt 4000000000 serial

-- refused for that reason where the test holds, else what the later checks answer
abbrev pub refuse_if : {A : Type 0} → Bool → Reason → Result A Reason → Result A Reason
refuse_if true reason later = Err reason
refuse_if false reason later = later

abbrev pub checked_member : ℕ → Result (Unit {0}) Reason
checked_member member = refuse_if (member_unknown member) (MemberUnknown member) (Ok tt)

abbrev pub checked_hour : ℕ → Result (Unit {0}) Reason
checked_hour hour = refuse_if (hour_too_late hour) (HourNotOpen hour) (Ok tt)

abbrev pub checked_energy : ℕ → Result (Unit {0}) Reason
checked_energy energy = refuse_if (energy_out_of_range energy) (EnergyOutOfRange energy) (Ok tt)

abbrev pub checked_limit : ℤ → Result (Unit {0}) Reason
checked_limit limit = refuse_if (limit_out_of_range limit) (LimitOutOfRange limit) (Ok tt)

abbrev pub checked_serial : ℕ → Result (Unit {0}) Reason
checked_serial serial = refuse_if (serial_out_of_range serial) (SerialOutOfRange serial) (Ok tt)

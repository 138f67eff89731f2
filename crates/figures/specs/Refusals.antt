-- What a refusal is, and what it tells a member: its number and its figure, case by case. Assumes nothing.
use Rattle.std.specs.Prelude.{ℕ, ℤ, pos}
use Rattle.figures.specs.declared.refusal.Part.{Part}
use Rattle.figures.specs.declared.refusal.Reason.{Reason}
use Rattle.figures.specs.declared.refusal.Reason.TheVariants.{MemberUnknown, HourNotOpen, EnergyOutOfRange, LimitOutOfRange, SerialsUsedUp, BookFull, SerialStands, NoSuchOrder, NoRoomForTrades, LastHour, ScheduleTooShort, DepthTooShort, OpeningTooLate, SerialOutOfRange, UnknownMark, CutShort, CutTooLarge, AskAboveBid, TradeOutOfRange, JournalFull, PlacesOutOfRange}
use Rattle.figures.specs.declared.refusal.Refusal.{Refusal}

pub record Notice : Type 0 where
  pub number : ℕ
  pub figure : ℤ

abbrev pub notice : Reason → Notice
notice (MemberUnknown member) = record { number = 1; figure = pos member }
notice (HourNotOpen hour) = record { number = 2; figure = pos hour }
notice (EnergyOutOfRange energy) = record { number = 3; figure = pos energy }
notice (LimitOutOfRange limit) = record { number = 4; figure = limit }
notice SerialsUsedUp = record { number = 5; figure = pos 4000000000 }
notice (BookFull capacity) = record { number = 6; figure = pos capacity }
notice (SerialStands serial) = record { number = 7; figure = pos serial }
notice (NoSuchOrder serial) = record { number = 8; figure = pos serial }
notice (NoRoomForTrades orders) = record { number = 9; figure = pos orders }
notice (LastHour hour) = record { number = 10; figure = pos hour }
notice (ScheduleTooShort entries) = record { number = 11; figure = pos entries }
notice (DepthTooShort entries) = record { number = 12; figure = pos entries }
notice (OpeningTooLate hour) = record { number = 13; figure = pos hour }
notice (SerialOutOfRange serial) = record { number = 14; figure = pos serial }
notice (UnknownMark place) = record { number = 15; figure = pos place }
notice (CutShort place) = record { number = 16; figure = pos place }
notice (CutTooLarge energy) = record { number = 17; figure = pos energy }
notice (AskAboveBid ask) = record { number = 18; figure = ask }
notice (TradeOutOfRange written) = record { number = 19; figure = pos written }
notice (JournalFull capacity) = record { number = 20; figure = pos capacity }
notice (PlacesOutOfRange places) = record { number = 21; figure = pos places }

-- the refusal that a part gives for a reason
abbrev pub refused_by : Part → Reason → Refusal
refused_by part reason = record { part = part; reason = reason }

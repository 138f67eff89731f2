-- The marks with which the records begin. Assumes nothing.
use Rattle.std.specs.Prelude.{ℕ, List, [], ◌∷◌}

abbrev pub bid_mark : List ℕ
bid_mark = 0x4F ∷ 0x42 ∷ []

abbrev pub ask_mark : List ℕ
ask_mark = 0x4F ∷ 0x41 ∷ []

abbrev pub market_bid_mark : List ℕ
market_bid_mark = 0x4D ∷ 0x42 ∷ []

abbrev pub market_ask_mark : List ℕ
market_ask_mark = 0x4D ∷ 0x41 ∷ []

abbrev pub withdrawal_mark : List ℕ
withdrawal_mark = 0x4F ∷ 0x57 ∷ []

-- The records that the reader gives, by their bytes. Assumes nothing.
use Rattle.std.specs.Prelude.{ℕ, List, ◌++◌}
use Rattle.batch.specs.declared.record.Record.{Record}
use Rattle.batch.specs.declared.record.Record.TheVariants.{Bid, Ask, MarketBid, MarketAsk, Withdrawal}
use Rattle.batch.specs.Marks.{bid_mark, ask_mark, market_bid_mark, market_ask_mark, withdrawal_mark}

-- a record's bytes: its mark, and the fields that it holds
abbrev pub bytes : Record → List ℕ
bytes (Bid fields) = bid_mark ++ fields.0.now
bytes (Ask fields) = ask_mark ++ fields.0.now
bytes (MarketBid fields) = market_bid_mark ++ fields.0.now
bytes (MarketAsk fields) = market_ask_mark ++ fields.0.now
bytes (Withdrawal fields) = withdrawal_mark ++ fields.0.now

-- how many bytes a record of its kind has
abbrev pub size : Record → ℕ
size (Bid fields) = 15
size (Ask fields) = 15
size (MarketBid fields) = 11
size (MarketAsk fields) = 11
size (Withdrawal fields) = 7

-- The bytes of a batch: what each request is written as. Assumes nothing.
use Rattle.std.specs.Prelude.{ℕ, ◌/◌, ◌%◌, ◌^◌, ◌<◌, List, [], ◌∷◌, ◌++◌, take, drop, ℤ, FitsSigned}
use Rattle.std.specs.Int.{w32, cast_unsigned}
use Rattle.std.specs.List.{flat_map}
use Rattle.batch.specs.declared.request.Terms.{Terms}
use Rattle.batch.specs.declared.request.Request.{Request}
use Rattle.batch.specs.declared.request.Request.TheVariants.{Bid, Ask, MarketBid, MarketAsk, Withdrawal}
use Rattle.batch.specs.Marks.{bid_mark, ask_mark, market_bid_mark, market_ask_mark, withdrawal_mark}

-- the four bytes of a number below 2 ^ 32, highest first
abbrev pub word : ℕ → List ℕ
word n = n / 16777216 ∷ n / 65536 % 256 ∷ n / 256 % 256 ∷ n % 256 ∷ []

-- the same of a signed number, in two's complement
abbrev pub signed_word : ℤ → List ℕ
signed_word z = word (cast_unsigned w32 z)

-- the fields that every order has
abbrev pub terms_layout : Terms → List ℕ
terms_layout t = t.member ∷ (word t.hour ++ word t.energy)

-- a request's record: its mark, then its fields
abbrev pub layout : Request → List ℕ
layout (Bid terms limit) = bid_mark ++ (terms_layout terms ++ signed_word limit)
layout (Ask terms limit) = ask_mark ++ (terms_layout terms ++ signed_word limit)
layout (MarketBid terms) = market_bid_mark ++ terms_layout terms
layout (MarketAsk terms) = market_ask_mark ++ terms_layout terms
layout (Withdrawal member serial) = withdrawal_mark ++ (member ∷ word serial)

-- the records of a batch, one after another
abbrev pub layouts : List Request → List ℕ
layouts requests = flat_map layout requests

-- every number of a request fits its field
abbrev pub FittingTerms : Terms → Type 0
FittingTerms t = (t.member < 2 ^ 8) × (t.hour < 2 ^ 32) × (t.energy < 2 ^ 32)

abbrev pub Fitting : Request → Type 0
Fitting (Bid terms limit) = FittingTerms terms × FitsSigned w32 limit
Fitting (Ask terms limit) = FittingTerms terms × FitsSigned w32 limit
Fitting (MarketBid terms) = FittingTerms terms
Fitting (MarketAsk terms) = FittingTerms terms
Fitting (Withdrawal member serial) = (member < 2 ^ 8) × (serial < 2 ^ 32)

-- n bytes from a place on
abbrev pub bytes_at : ℕ → ℕ → List ℕ → List ℕ
bytes_at at n bytes = take n (drop at bytes)

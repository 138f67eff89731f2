-- How a request is printed: its kind, then its numbers. Assumes nothing.
use Rattle.std.specs.Prelude.{ℕ, List, ◌++◌, codes, decimal}
use Rattle.std.specs.Fmt.{signed_decimal}
use Rattle.batch.specs.declared.request.Request.{Request}
use Rattle.batch.specs.declared.request.Request.TheVariants.{Bid, Ask, MarketBid, MarketAsk, Withdrawal}
use Rattle.batch.specs.declared.request.Terms.{Terms}

abbrev pub terms_text : Terms → List ℕ
terms_text t = decimal t.member ++ (codes " " ++ (decimal t.hour ++ (codes " " ++ decimal t.energy)))

abbrev pub request_text : Request → List ℕ
request_text (Bid terms limit) = codes "BID " ++ (terms_text terms ++ (codes " " ++ signed_decimal limit))
request_text (Ask terms limit) = codes "ASK " ++ (terms_text terms ++ (codes " " ++ signed_decimal limit))
request_text (MarketBid terms) = codes "MARKET-BID " ++ terms_text terms
request_text (MarketAsk terms) = codes "MARKET-ASK " ++ terms_text terms
request_text (Withdrawal member serial) = codes "WITHDRAWAL " ++ (decimal member ++ (codes " " ++ decimal serial))

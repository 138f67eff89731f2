-- Which of two orders of one hour comes first, and what a ranking must show.
use Rattle.std.specs.Prelude.{◌≡◌, ℕ, Bool, true, false, not, ◌&&◌, ◌||◌, ℤ, pos, negsuc, ◌≢◌, int_lt}

-- a side buys or sells
pub data Direction : Type 0 where
  buying : Direction
  selling : Direction

-- the first limit is the better one: of bids the higher, of asks the lower
abbrev pub better : Direction → ℤ → ℤ → Bool
better buying limit other = int_lt other limit
better selling limit other = int_lt limit other

-- the limit of a market order: none is better
abbrev pub market_figure : Direction → ℤ
market_figure buying = pos 400000
market_figure selling = negsuc 49999

-- whether the order of the first limit and serial comes before that of the second
abbrev pub Ranks : Type 0
Ranks = ℤ → ℕ → ℤ → ℕ → Bool

-- a strict total order on what has different serials, which never puts a worse limit first
pub record Lawful (direction : Direction) (first : Ranks) : Type 0 where
  pub one_way : (l : ℤ) (s : ℕ) (m : ℤ) (t : ℕ) → first l s m t ≡ true → first m t l s ≡ false
  pub chain : (l : ℤ) (s : ℕ) (m : ℤ) (t : ℕ) (n : ℤ) (u : ℕ) → first l s m t ≡ true → first m t n u ≡ true → first l s n u ≡ true
  pub total : (l : ℤ) (s : ℕ) (m : ℤ) (t : ℕ) → (s ≢ t) → first l s m t ≡ false → first m t l s ≡ true
  pub never_worse : (l : ℤ) (s : ℕ) (m : ℤ) (t : ℕ) → better direction m l ≡ true → first l s m t ≡ false

-- by limit, and at equal limits by serial
abbrev pub limit_then : Direction → (ℕ → ℕ → Bool) → Ranks
limit_then direction earlier l s m t = better direction l m || (not (better direction m l) && earlier s t)

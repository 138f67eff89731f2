-- The record that some bytes begin with. Assumes nothing.
use Rattle.std.proofs.Common.{◌≡◌, ℕ, List, [], ◌++◌, length, drop, arith, take-append-drop}
use Rattle.std.proofs.lemmas.Grind.{common_steps}
use Rattle.batch.specs.Standing.{end, a_record, standing}

-- a record that stands at a place is what the bytes from there on begin with
pub splits : (place at : ℕ) (rest bytes : List ℕ) → a_record at bytes ≡ standing place rest → (at ≡ place) × (bytes ++ drop (length bytes) rest ≡ rest)
splits place at rest bytes is = grind (arith, common_steps, take-append-drop)

-- the end stands only behind the last byte
pub at_end : (place : ℕ) (rest : List ℕ) → end ≡ standing place rest → rest ≡ []
at_end place rest is = grind arith

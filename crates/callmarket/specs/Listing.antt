-- What the program prints of a batch. Assumes nothing.
use Rattle.std.specs.Prelude.{◌≡◌, ℕ, ◌<◌, ◌≤◌, List, [], ◌∷◌, ◌++◌, map, length, Ok, Err, Result}
use Rattle.batch.specs.declared.placed.Placed.{Placed}
use Rattle.batch.specs.declared.request.Request.{Request}
use Rattle.batch.specs.declared.unread.Unread.{Unread}
use Rattle.batch.specs.declared.unread.Unread.TheVariants.{Unreadable as Stopped, NoMemory}
use Rattle.batch.specs.Whole.{Reads}
use Rattle.callmarket.specs.declared.line.Line.{Line}
use Rattle.callmarket.specs.declared.line.Line.TheVariants.{Call, Listed, Unreadable, TooLong}

-- what follows the lines of the call and the records: the refusal at which reading stopped, if it did
abbrev pub Ended : Result (Unit {0}) Unread → List Line → List Line → Type 0
Ended (Ok done) before lines = lines ≡ before
Ended (Err (Stopped refusal)) before lines = lines ≡ before ++ Unreadable refusal ∷ []
Ended (Err NoMemory) before lines = ⊥

-- the call, a line for each record that was read, and the end
pub record Lists (batch : List ℕ) (lines : List Line) : Type 0 where
  pub entries : List (Placed Request)
  pub result : Result (Unit {0}) Unread
  pub reads : Reads batch entries result
  pub ended : Ended result (Call 100 ∷ map Listed entries) lines

-- the lines for what was given: more than 32,768 bytes are no batch
pub record Says (input : List ℕ) (lines : List Line) : Type 0 where
  pub a_batch : length input ≤ 32768 → Lists input lines
  pub too_long : 32768 < length input → lines ≡ TooLong ∷ []

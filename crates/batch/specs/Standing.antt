-- What stands at a place of a batch. Assumes nothing.
use Rattle.std.specs.Prelude.{ℕ, Bool, false, cond, ◌&&◌, List, [], ◌∷◌, length, take, Some, None, Ok, Err, Option, Result, ◌==◌, nat_le}
use Rattle.figures.specs.Refusals.{refused_by}
use Rattle.figures.specs.declared.refusal.Part.TheVariants.{Reader}
use Rattle.figures.specs.declared.refusal.Reason.{Reason}
use Rattle.figures.specs.declared.refusal.Reason.TheVariants.{UnknownMark, CutShort}
use Rattle.figures.specs.declared.refusal.Refusal.{Refusal}
use Rattle.batch.specs.declared.placed.Placed.{Placed}
use Rattle.batch.specs.declared.record.Record.{Record}
use Rattle.batch.specs.Marks.{bid_mark, ask_mark, market_bid_mark, market_ask_mark, withdrawal_mark}
use Rattle.batch.specs.Records.{bytes}

-- the end of the batch, a record by its place and its bytes, or neither
pub data Standing : Type 0 where
  end : Standing
  a_record : ℕ → List ℕ → Standing
  unreadable : Refusal → Standing

-- whether two bytes are a mark
abbrev pub are_mark : List ℕ → ℕ → ℕ → Bool
are_mark [] a b = false
are_mark (m ∷ []) a b = false
are_mark (m ∷ n ∷ more) a b = a == m && b == n

-- how many bytes of fields stand behind two bytes, if they are a mark
abbrev pub field_bytes : ℕ → ℕ → Option ℕ
field_bytes a b =
    cond (are_mark bid_mark a b) (Some 13)
    (cond (are_mark ask_mark a b) (Some 13)
    (cond (are_mark market_bid_mark a b) (Some 9)
    (cond (are_mark market_ask_mark a b) (Some 9)
    (cond (are_mark withdrawal_mark a b) (Some 5) None))))

abbrev pub refuse : Reason → Standing
refuse why = unreadable (refused_by Reader why)

abbrev pub behind_mark : Option ℕ → ℕ → ℕ → ℕ → List ℕ → Standing
behind_mark None place a b rest = refuse (UnknownMark place)
behind_mark (Some n) place a b rest = cond (nat_le n (length rest)) (a_record place (a ∷ b ∷ take n rest)) (refuse (CutShort place))

-- what the bytes from a place on begin with: a single byte is cut short; then the mark is checked, then the length
abbrev pub standing : ℕ → List ℕ → Standing
standing place [] = end
standing place (a ∷ []) = refuse (CutShort place)
standing place (a ∷ b ∷ rest) = behind_mark (field_bytes a b) place a b rest

-- how far the reader moves on over it
abbrev pub step : Standing → ℕ
step end = 0
step (a_record place record_bytes) = length record_bytes
step (unreadable refusal) = 0

-- what an answer of the reader tells
abbrev pub told : Result (Option (Placed Record)) Refusal → Standing
told (Ok None) = end
told (Ok (Some found)) = a_record found.place (bytes found.item)
told (Err refusal) = unreadable refusal

-- What the reader's inner function answers. Assumes nothing.
use Rattle.std.specs.Prelude.{◌≡◌, ℕ, ◌≤◌, List, length, Ok, Err, Result}
use Rattle.figures.specs.declared.refusal.Refusal.{Refusal}
use Rattle.batch.specs.declared.record.Record.{Record}
use Rattle.batch.specs.Records.{bytes, size}
use Rattle.batch.specs.Standing.{Standing, a_record, unreadable}

-- what the answer tells, of bytes that begin at a place
abbrev pub told_front : ℕ → Result Record Refusal → Standing
told_front place (Ok front) = a_record place (bytes front)
told_front place (Err refusal) = unreadable refusal

-- the record is as long as its kind says, and no longer than the bytes
abbrev pub Measured : List ℕ → Result Record Refusal → Type 0
Measured rest (Ok front) = (length (bytes front) ≡ size front) × (size front ≤ length rest)
Measured rest (Err refusal) = Unit {0}

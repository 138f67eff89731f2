-- Where a reader stands, and what it reads there. Assumes nothing.
use Rattle.std.specs.Prelude.{ℕ, List, drop}
use Rattle.batch.specs.declared.reader.Reader.{Reader}
use Rattle.batch.specs.Standing.{Standing, standing}

-- the bytes that are not read yet
abbrev pub ahead : Reader → List ℕ
ahead r = drop r.place r.batch.now

-- what stands at the reader's place
abbrev pub here : Reader → Standing
here r = standing r.place (ahead r)

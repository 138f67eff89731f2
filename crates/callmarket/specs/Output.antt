-- What the program writes. Assumes nothing.
use Rattle.std.specs.Prelude.{◌≡◌, ℕ, List}
use Rattle.callmarket.specs.declared.line.Line.{Line}
use Rattle.callmarket.specs.Lines.{page}
use Rattle.callmarket.specs.Listing.{Says}

-- the text is the lines for what was given
pub record Output (input text : List ℕ) : Type 0 where
  pub lines : List Line
  pub says : Says input lines
  pub printed : text ≡ page lines

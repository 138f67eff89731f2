-- What each line of the listing says. Assumes nothing.
use Rattle.std.specs.Prelude.{ℕ, List, [], ◌∷◌, ◌++◌, codes, decimal}
use Rattle.std.specs.Fmt.{signed_decimal}
use Rattle.std.specs.List.{flat_map}
use Rattle.figures.specs.Refusals.{notice}
use Rattle.batch.specs.Texts.{request_text}
use Rattle.callmarket.specs.declared.line.Line.{Line}
use Rattle.callmarket.specs.declared.line.Line.TheVariants.{Call, Listed, Unreadable, TooLong}

abbrev pub line_text : Line → List ℕ
line_text (Call hour) = codes "CALL " ++ decimal hour
line_text (Listed entry) = codes "RECORD " ++ (decimal entry.place ++ (codes " " ++ request_text entry.item))
line_text (Unreadable refusal) = codes "UNREADABLE " ++ (signed_decimal (notice refusal.reason).figure ++ (codes " " ++ decimal (notice refusal.reason).number))
line_text TooLong = codes "TOO LONG"

-- lines, each with the end of the line behind it
abbrev pub page : List Line → List ℕ
page lines = flat_map (λ line. line_text line ++ (10 ∷ [])) lines

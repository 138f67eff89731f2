use Rattle.std.proofs.Common.{◌≡◌, take, string_bytes}
use Rattle.callmarket.specs.Lines.{page}
use Rattle.callmarket.proofs.page.print_page.Given as goal

abbrev pub invariant-loop-line : goal.invariant-loop-line
invariant-loop-line l = string_bytes l.text ≡ page (take l.line-index l.lines)

use Rattle.std.proofs.Common.{not}
use Rattle.book.proofs.Closing.{Keeping}
use Rattle.book.proofs.slices.remove_all.Given as goal

abbrev pub invariant-loop-i : goal.invariant-loop-i
invariant-loop-i g l =
    Keeping (λ x. not (g.C.Criterion.passes l.criterion x)) l.initial.orders l.orders l.left l.i

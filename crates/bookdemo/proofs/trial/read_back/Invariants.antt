use Rattle.std.proofs.Common.{◌≡◌, ◌≤◌, ◌++◌, length, take, drop}
use Rattle.bookdemo.proofs.trial.read_back.Given as goal

abbrev pub invariant-loop-position : goal.invariant-loop-position
invariant-loop-position g l =
    (l.table ≡ take l.position (g.B.Book.list l.book) ++ drop l.position l.initial.table) × (l.position ≤ length (g.B.Book.list l.book))

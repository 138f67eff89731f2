use Rattle.std.proofs.Common.{arith}
use Rattle.bookdemo.proofs.Reading.{read_more}
use Rattle.bookdemo.proofs.trial.read_back.Goals as goal

pub loop-position-preserved : goal.loop-position-preserved
loop-position-preserved g c =
    read_more (g.B.Book.list c.args.book.now) c.args.table.now c.loop-position.table c.loop-position.position c.in-Some.order c.loop-position.invariant.0 (omega arith) c.in-Some.ensures

use Rattle.std.proofs.Common.{◌<◌, not, length, sym, ap, ◌∙◌, arith}
use Rattle.figures.specs.Orders.{blank}
use Rattle.book.proofs.Closing.{keeping_yes, keeping_no, keeping_all}
use Rattle.book.proofs.slices.remove_all.Goals as goal
use Rattle.book.proofs.slices.remove_all.Goals.{then-not-passed_by, else-not-passed_by}

pub loop-i-preserved : goal.loop-i-preserved
loop-i-preserved g c =
    let within : c.loop-i.i < length c.args.orders.now = omega arith in
    elim c.if-not-passed_by.branch [ then-not-passed_by w ↦ rw (w.orders-is, w.left-is) (keeping_yes _ _ c.loop-i.orders _ _ blank c.loop-i.invariant within (ap not (sym c.passed_by.ensures ∙ w.if-not-passed_by.true))) | else-not-passed_by w ↦ rw (w.orders-is, w.left-is) (keeping_no _ _ c.loop-i.orders _ _ blank c.loop-i.invariant within (ap not (sym c.passed_by.ensures ∙ w.if-not-passed_by.false))) ]

pub returns : goal.returns
returns g c =
    let all = keeping_all (λ x. not (g.C.Criterion.passes c.args.criterion.now x)) c.args.orders.now c.loop-i.orders c.args.count c.loop-i.left c.loop-i.i c.loop-i.invariant (omega arith) in
    record { answer = all.0; after = all.1 }

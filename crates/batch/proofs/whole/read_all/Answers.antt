use Rattle.std.proofs.Common.{rules}
use Rattle.batch.proofs.Steps.{one_more, ended, stuck}
use Rattle.batch.proofs.whole.read_all.Goals as goal

pub returns-in_err-place-clause-reads : goal.returns-in_err-place-clause-reads
returns-in_err-place-clause-reads c = stuck c.loop-place.invariant.0 _ _ c.in_err-place.ensures.answer (search rules)

pub loop-place-preserved : goal.loop-place-preserved
loop-place-preserved c =
    let next = c.in_ok-place.ensures in
    let more = one_more c.loop-place.invariant.0 c.in-Some.field-0 c.request.result c.next.new.self _ (search rules) (search rules) c.request.ensures.fitting next.place next.batch c.in_ok-push.ensures.items in
    (more, search rules)

pub returns-clause-reads : goal.returns-clause-reads
returns-clause-reads c = ended c.loop-place.invariant.0 (search rules)

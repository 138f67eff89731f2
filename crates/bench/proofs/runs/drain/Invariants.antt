use Rattle.std.proofs.Common.{◌*◌, ◌≤◌}
use Rattle.bench.proofs.runs.drain.Given as goal

abbrev pub invariant-loop-passed : goal.invariant-loop-passed
invariant-loop-passed g l = l.removed ≤ 4096 * l.passed

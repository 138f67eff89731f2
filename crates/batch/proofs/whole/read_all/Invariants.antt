use Rattle.std.proofs.Common.{◌-◌, ◌≤◌, length, vec_items, vec_capacity}
use Rattle.batch.proofs.Steps.{Sofar}
use Rattle.batch.proofs.whole.read_all.Given as goal

abbrev pub invariant-loop-place : goal.invariant-loop-place
invariant-loop-place l = Sofar l.batch (vec_items l.entries) l.reader × (vec_capacity l.initial.entries ≤ vec_capacity l.entries)

abbrev pub decreases-loop-place : goal.decreases-loop-place
decreases-loop-place l = length l.batch - l.reader.place

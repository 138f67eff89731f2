use Rattle.std.proofs.Common.{◌≡◌, false, take}
use Rattle.sides.specs.Listing.{stands}
use Rattle.sides.proofs.slices.stands.Given as goal

abbrev pub invariant-loop-order : goal.invariant-loop-order
invariant-loop-order l = stands l.serial (take l.order-index l.orders) ≡ false

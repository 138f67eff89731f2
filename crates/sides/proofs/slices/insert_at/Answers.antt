use Rattle.std.proofs.Common.{ap, ◌∙◌, set}
use Rattle.sides.proofs.Shifting.{shifted_in}
use Rattle.sides.proofs.slices.insert_at.Goals as goal

pub returns : goal.returns
returns c =
    ap (λ xs. set xs c.args.at c.args.order) c.copy_within.ensures.after ∙ shifted_in c.args.orders.now c.args.at c.args.order c.requires

use Rattle.std.proofs.Common.{rules}
use Rattle.std.proofs.lemmas.Iterator.{YieldsList-from_map}
use Rattle.std.proofs.lemmas.Iterator.Adapters.{YieldsList-from_vec, items_from_extend}
use Rattle.callmarket.specs.declared.line.Line.TheVariants.{Listed}
use Rattle.callmarket.proofs.listing.list_batch.Goals as goal

pub returns : goal.returns
returns c =
    let entries = c.read_all-end.new.entries.items in
    let listed = items_from_extend c.extend.result c.extend.ensures.ran (YieldsList-from_map _ Listed (YieldsList-from_vec entries (search rules) (search rules)) c.map.ensures.closure (λ x r q k. search rules)) in
    record { entries = entries; result = c.read_all-end.result; reads = c.read_all-end.ensures.reads; ended = search rules }

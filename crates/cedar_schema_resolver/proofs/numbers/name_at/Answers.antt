use Rattle.std.proofs.Common.{get_or, sym, ap}
use Rattle.cedar_schema_resolver.proofs.Places.{at_map}
use Rattle.cedar_schema_resolver.proofs.numbers.name_at.Goals as goal

pub returns : goal.returns
returns g c =
    at_map (λ t. g.N.Node.seen t.0) c.args.nodes.now c.args.number (get_or c.args.nodes.now c.args.number c.index-nodes-number.result)
    (c.requires, ap (get_or c.args.nodes.now c.args.number) (sym c.index-nodes-number.is))

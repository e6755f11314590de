use Rattle.std.proofs.Common.{map, sym, subst}
use Rattle.std.specs.Bool.{Decides}
use Rattle.std.specs.Prelude.{Contains}
use Rattle.cedar_schema_assembly.proofs.Putting.{found_there}
use Rattle.cedar_schema_assembly.proofs.sets.has.Goals as goal

pub returns : goal.returns
returns g c =
    let seen = g.N.Node.seen in
    subst (λ b. Decides b (Contains (map seen c.args.set.now.keys) (seen c.args.node.now))) (sym c.contains.ensures)
    (found_there seen g.N.Ord.cmp g.met.N.Node.told c.args.node.now c.args.set.now.keys)

use Rattle.cedar_gate_accepted.proofs.Together.{typed_by_same}
use Rattle.cedar_gate_rules.specs.Policies.{policies_of}
use Rattle.cedarcheck.proofs.Broken.{as_seen_by}
use Rattle.cedarcheck.proofs.faults.add_against.Goals as goal

pub returns : goal.returns
returns g c =
    let ps = policies_of c.args.policies.now in
    let n = c.args.level in
    λ s w k h.
    let v = typed_by_same ps n s c.in_ok-asked.ensures.schema c.in_ok-asked.ensures.table w in
    c.in_ok-add_typed.ensures s v k (c.in_ok-add_named.ensures s (as_seen_by _ _ ps n s v) k h)

use Rattle.std.proofs.Common.{◌≡◌, ◌++◌}
use Rattle.std.specs.Vec.Iter.{into_iter_items}
use Rattle.cedar_store_policies.specs.PolicySets.{set_of, set_seen}
use Rattle.cedar_store_policies.proofs.Gathered.{only}
use Rattle.cedar_store_policies.proofs.Seen.{only_seen}
use Rattle.cedar_store_policies.proofs.policy_set.PolicySet.try_from_iter.Given as goal

abbrev pub invariant-loop-policy : goal.invariant-loop-policy
invariant-loop-policy l = record { goes : l.fn.policies.items ≡ l.yielded ++ into_iter_items l.policy-iterator; made : set_of l.set ≡ only l.yielded; seen : set_seen l.set ≡ only_seen l.yielded }

use Rattle.cedar_store_policies.specs.Policies.{policy_of}
use Rattle.cedar_gate_sessions.proofs.Deciding.{decided_is}
use Rattle.cedar_gate_sessions.proofs.decisions.decided.Goals as goal

pub returns : goal.returns
returns c = λ s n same.
    decided_is policy_of s n c.args.policies.now c.args.verdicts.now same _ _ _ _ _ c.any_limit-limit.ensures c.any_satisfied-permits.ensures c.any_open-open_permits.ensures c.any_satisfied-forbids.ensures c.any_open-open_forbids.ensures _ c.by_any.ensures

use Rattle.std.proofs.Common.{sym, ◌∙◌}
use Rattle.cedar_store_policies.specs.Policies.{policy_of}
use Rattle.cedar_gate_sessions.proofs.Marked.{no_bounds, bounds_are}
use Rattle.cedar_gate_sessions.proofs.bounds.bounded.Goals as goal

pub returns-then-any_limit : goal.returns-then-any_limit
returns-then-any_limit c = λ s n same distinct. no_bounds policy_of s n c.args.policies.now c.args.verdicts.now same distinct (sym c.any_limit.ensures ∙ c.if-any_limit.true)

pub returns : goal.returns
returns c = λ s n same distinct.
    bounds_are policy_of s n c.args.policies.now c.args.verdicts.now same distinct (sym c.any_limit.ensures ∙ c.if-any_limit.false) c.any_satisfied-forbids.result c.any_open-open_forbids.result c.any_satisfied-forbids.ensures c.any_open-open_forbids.ensures
    _ _ c.in_ok-must.ensures c.in_ok-may.ensures

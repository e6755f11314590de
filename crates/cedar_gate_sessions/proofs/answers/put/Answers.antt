use Rattle.std.proofs.Common.{sym, ◌∙◌}
use Rattle.cedar_store_policies.specs.Policies.{policy_of}
use Rattle.cedar_evaluator_requests.specs.Views.{error_of}
use Rattle.cedar_gate_sessions.proofs.Told.{error_put, error_is}
use Rattle.cedar_gate_sessions.proofs.answers.put.Goals as goal

pub returns : goal.returns
returns c = λ l h.
    error_put error_of c.args.errors.now.items c.push.new.self.items _ _ c.in_ok-push.ensures.items
    (error_is (policy_of c.args.policy.now) c.in_ok-id.id c.args.error l (c.in_ok-id.ensures.cases ∙ c.id.ensures) (sym c.is_out_of_memory.ensures ∙ c.if-is_out_of_memory.false) h)

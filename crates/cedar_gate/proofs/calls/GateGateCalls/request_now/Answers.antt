use Rattle.std.proofs.lemmas.Result.{IfOk-weaker}
use Rattle.cedar_gate.proofs.calls.GateGateCalls.request_now.Goals as goal

pub returns-clause-at_state : goal.returns-clause-at_state
returns-clause-at_state g c = IfOk-weaker c.request_now.result _ _ (λ r h x suits s values. h x.functions suits.agrees s values) c.request_now.ensures.at_state

pub returns-clause-fails : goal.returns-clause-fails
returns-clause-fails g c = IfOk-weaker c.request_now.result _ _ (λ r h x suits fails s values. h x.functions suits.agrees fails s values) c.request_now.ensures.fails

pub returns-clause-evaluates : goal.returns-clause-evaluates
returns-clause-evaluates g c = IfOk-weaker c.request_now.result _ _ (λ r h x suits fine s values. h x.functions suits.agrees fine s values) c.request_now.ensures.evaluates

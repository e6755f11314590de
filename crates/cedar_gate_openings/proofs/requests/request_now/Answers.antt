use Rattle.cedar_evaluator_requests.specs.Views.{request_of}
use Rattle.cedar_evaluator_restricted_exprs.specs.Answers.{AgreesWith}
use Rattle.cedar_gate_openings.specs.Names.{bound_in}
use Rattle.cedar_gate_openings.proofs.States.{at_states, all_fail, none_fails}
use Rattle.cedar_gate_openings.proofs.requests.request_now.Goals as goal

pub returns-clause-at_state : goal.returns-clause-at_state
returns-clause-at_state g c = at_states (AgreesWith c.args.table.now) (bound_in c.args.bound.now) (request_of c.args.start.now) c.request_with.result c.request_with.ensures.request

pub returns-clause-fails : goal.returns-clause-fails
returns-clause-fails g c = all_fail (AgreesWith c.args.table.now) (bound_in c.args.bound.now) (request_of c.args.start.now) c.request_with.result c.request_with.ensures.failing

pub returns-clause-evaluates : goal.returns-clause-evaluates
returns-clause-evaluates g c = none_fails (AgreesWith c.args.table.now) (bound_in c.args.bound.now) (request_of c.args.start.now) c.request_with.result c.request_with.ensures.failing

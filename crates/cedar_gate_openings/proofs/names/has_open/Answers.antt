use Rattle.cedar_evaluator_requests.specs.Views.{request_of}
use Rattle.cedar_gate_openings.specs.Names.{bound_in}
use Rattle.cedar_gate_openings.proofs.Opened.{open_where, none_where}
use Rattle.cedar_gate_openings.proofs.names.has_open.Goals as goal

pub returns-clause-open : goal.returns-clause-open
returns-clause-open c = open_where (request_of c.args.request.now) (bound_in c.args.bound.now) c.any_open.result c.any_open.ensures

pub returns-clause-none : goal.returns-clause-none
returns-clause-none c = none_where (request_of c.args.request.now) (bound_in c.args.bound.now) c.any_open.result c.any_open.ensures

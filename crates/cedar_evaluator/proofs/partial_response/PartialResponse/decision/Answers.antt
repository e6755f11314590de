use Rattle.cedar_evaluator.specs.Responses.{response_seen}
use Rattle.cedar_evaluator.proofs.Decided.{is_decision}
use Rattle.cedar_evaluator.proofs.partial_response.PartialResponse.decision.Goals as goal

pub returns-clause-laws : goal.returns-clause-laws
returns-clause-laws c = is_decision (response_seen c.args.self.now) _ c.decided.ensures

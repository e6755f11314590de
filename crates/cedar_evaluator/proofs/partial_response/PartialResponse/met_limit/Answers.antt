use Rattle.std.proofs.Common.{ap, ◌∙◌}
use Rattle.std.specs.List.{list_any}
use Rattle.cedar_evaluator_model.specs.Members.{is_limit}
use Rattle.cedar_evaluator_requests.specs.Views.{error_of}
use Rattle.cedar_evaluator_requests.proofs.Listed.{any_seen}
use Rattle.cedar_evaluator.proofs.partial_response.PartialResponse.met_limit.Goals as goal

pub returns : goal.returns
returns c = c.met_limit.ensures ∙ ap (list_any (λ e. is_limit (error_of e).cause)) c.deref.ensures.value ∙ any_seen error_of (λ e. is_limit e.cause) c.args.self.now.errors.items

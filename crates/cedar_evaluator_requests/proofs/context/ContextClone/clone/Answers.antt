use Rattle.std.proofs.Common.{sym, ap, ◌∙◌}
use Rattle.cedar_expr_values.specs.Extensions.{extension_of}
use Rattle.cedar_evaluator_model.specs.Scope.{closed}
use Rattle.cedar_evaluator_requests.specs.Views.{context_of}
use Rattle.cedar_evaluator_requests.proofs.context.ContextClone.clone.Goals as goal

pub returns-in_ok-clone-in-Value : goal.returns-in_ok-clone-in-Value
returns-in_ok-clone-in-Value c = record { cases = ap closed (c.in_ok-clone-in-Value.ensures.cases extension_of) ∙ sym (ap context_of c.in-Value.is) }

-- What holds of the kind holds of the value of that kind.
use Rattle.std.proofs.Common.{ap, ◌∙◌}
use Rattle.cedar_expr_model.specs.Made.{bare}
use Rattle.cedar_expr_values.proofs.value.Value.set.Goals as goal

pub returns-clause-members : goal.returns-clause-members
returns-clause-members g c = ap bare c.new.ensures.value ∙ c.in_ok-kind.ensures.members

pub returns-clause-as_made : goal.returns-clause-as_made
returns-clause-as_made g c = c.new.ensures.value ∙ c.in_ok-kind.ensures.as_made

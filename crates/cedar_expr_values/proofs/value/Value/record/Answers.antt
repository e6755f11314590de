-- What holds of the kind holds of the value of that kind.
use Rattle.std.proofs.Common.{ap, ◌∙◌}
use Rattle.cedar_expr_model.specs.Made.{bare}
use Rattle.cedar_expr_values.proofs.value.Value.record.Goals as goal

pub returns-clause-fields : goal.returns-clause-fields
returns-clause-fields g c = ap bare c.new.ensures.value ∙ c.in_ok-kind.ensures.fields

pub returns-clause-as_made : goal.returns-clause-as_made
returns-clause-as_made g c = c.new.ensures.value ∙ c.in_ok-kind.ensures.as_made

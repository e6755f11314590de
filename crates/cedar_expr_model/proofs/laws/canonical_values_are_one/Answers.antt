use Rattle.cedar_expr_model.proofs.Sameness.{sameness, field_found}
use Rattle.cedar_expr_model.proofs.laws.canonical_values_are_one.Goals as goal

pub returns-clause-same : goal.returns-clause-same
returns-clause-same c = sameness

pub returns-clause-fields : goal.returns-clause-fields
returns-clause-fields c = field_found

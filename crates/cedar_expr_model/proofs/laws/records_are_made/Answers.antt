use Rattle.cedar_expr_model.proofs.Ordering.{record_canonical, record_has_last}
use Rattle.cedar_expr_model.proofs.laws.records_are_made.Goals as goal

pub returns-clause-canonical : goal.returns-clause-canonical
returns-clause-canonical c = record_canonical

pub returns-clause-last : goal.returns-clause-last
returns-clause-last c = record_has_last

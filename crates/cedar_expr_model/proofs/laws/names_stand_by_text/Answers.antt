use Rattle.cedar_expr_model.proofs.WellFormed.{names_by_text, uids_by_text}
use Rattle.cedar_expr_model.proofs.laws.names_stand_by_text.Goals as goal

pub returns-clause-names : goal.returns-clause-names
returns-clause-names c = names_by_text

pub returns-clause-uids : goal.returns-clause-uids
returns-clause-uids c = uids_by_text

use Rattle.cedar_gate_model.proofs.Gate.Computed.{has_quote, is_variable}
use Rattle.cedar_gate_model.proofs.worked.worked_openings.Goals as goal

pub returns-clause-quoted_name : goal.returns-clause-quoted_name
returns-clause-quoted_name c = has_quote

pub returns-clause-variable : goal.returns-clause-variable
returns-clause-variable c = is_variable

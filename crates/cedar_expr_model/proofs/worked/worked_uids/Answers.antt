use Rattle.cedar_expr_model.proofs.UidComputed.{awkward_is_text, no_text}
use Rattle.cedar_expr_model.proofs.worked.worked_uids.Goals as goal

pub returns-clause-awkward : goal.returns-clause-awkward
returns-clause-awkward c = awkward_is_text

pub returns-clause-no_text : goal.returns-clause-no_text
returns-clause-no_text c = no_text

use Rattle.cedar_expr_model.proofs.UidText.{name_text_apart, uid_text_apart}
use Rattle.cedar_expr_model.proofs.name_laws.texts_tell_apart.Goals as goal

pub returns-clause-names : goal.returns-clause-names
returns-clause-names c = name_text_apart

pub returns-clause-uids : goal.returns-clause-uids
returns-clause-uids c = uid_text_apart

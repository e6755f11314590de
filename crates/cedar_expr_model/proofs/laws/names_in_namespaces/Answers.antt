use Rattle.cedar_expr_model.proofs.SideBySide.{namespace_kept, qualified_stays, qualified_once}
use Rattle.cedar_expr_model.proofs.laws.names_in_namespaces.Goals as goal

pub returns-clause-kept : goal.returns-clause-kept
returns-clause-kept c = namespace_kept

pub returns-clause-stays : goal.returns-clause-stays
returns-clause-stays c = qualified_stays

pub returns-clause-once : goal.returns-clause-once
returns-clause-once c = qualified_once

use Rattle.cedar_typechecker_model.proofs.Judged.{typed_is}
use Rattle.cedar_typechecker_model.proofs.Same.{same_tree}
use Rattle.cedar_typechecker_model.proofs.typed_laws.typed_as_judged.Goals as goal

pub returns-clause-judged : goal.returns-clause-judged
returns-clause-judged c = typed_is

pub returns-clause-same : goal.returns-clause-same
returns-clause-same c = same_tree

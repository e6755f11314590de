use Rattle.std.proofs.Common.{◌||◌}
use Rattle.cedar_typechecker_model.proofs.Seen.Asked.{type_asked, action_asked, others_asked, kind_asked, kinds_asked, environments_asked}
use Rattle.cedar_typechecker_model.proofs.alike_laws.what_is_kept_is_asked.Goals as goal

pub returns-clause-types : goal.returns-clause-types
returns-clause-types c = λ k h o m n i. type_asked k h o m n i || kinds_asked k h m n i

pub returns-clause-actions : goal.returns-clause-actions
returns-clause-actions c = action_asked

pub returns-clause-others : goal.returns-clause-others
returns-clause-others c = others_asked

pub returns-clause-kinds : goal.returns-clause-kinds
returns-clause-kinds c = kind_asked

pub returns-clause-environments : goal.returns-clause-environments
returns-clause-environments c = environments_asked

use Rattle.cedar_schema_model.specs.Descent.{HasParent}
use Rattle.cedar_schema_model.proofs.Decls.Descent.{descends-Decides, action_descends-Decides, action_type_descends-Decides, type_descends-Decides, reaches_on}
use Rattle.cedar_schema_model.proofs.decl_laws.descent_is_decided.Goals as goal

pub returns-clause-types : goal.returns-clause-types
returns-clause-types c = descends-Decides

pub returns-clause-actions : goal.returns-clause-actions
returns-clause-actions c = action_descends-Decides

pub returns-clause-action_types : goal.returns-clause-action_types
returns-clause-action_types c = action_type_descends-Decides

pub returns-clause-either : goal.returns-clause-either
returns-clause-either c = type_descends-Decides

pub returns-clause-transitive : goal.returns-clause-transitive
returns-clause-transitive c = λ s l m n. reaches_on (HasParent s) l m n

use Rattle.std.proofs.Common.{⊎_elim}
use Rattle.cedar_schema_model.proofs.Decls.Named.{ancestors_named, action_ancestors_named, principals_named, resources_named, parents_kept, principals_kept, resources_kept, action_parents_kept}
use Rattle.cedar_schema_model.proofs.decl_laws.schemas_name_what_is_declared.Goals as goal

pub returns-clause-ancestors : goal.returns-clause-ancestors
returns-clause-ancestors c = ancestors_named

pub returns-clause-action_ancestors : goal.returns-clause-action_ancestors
returns-clause-action_ancestors c = action_ancestors_named

pub returns-clause-listed : goal.returns-clause-listed
returns-clause-listed c = λ d a h n k. ⊎_elim (principals_named d a h n) (resources_named d a h n) k

pub returns-clause-parents : goal.returns-clause-parents
returns-clause-parents c = parents_kept

pub returns-clause-of_actions : goal.returns-clause-of_actions
returns-clause-of_actions c = λ x d w a h. (action_parents_kept x d w a h, principals_kept x d w a h, resources_kept x d w a h)

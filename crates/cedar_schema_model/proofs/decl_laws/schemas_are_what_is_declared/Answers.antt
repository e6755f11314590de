use Rattle.cedar_schema_model.proofs.Decls.Schema.{same_types, same_actions, parents_meant, action_parents_meant, not_its_ancestor, types_apart}
use Rattle.cedar_schema_model.proofs.decl_laws.schemas_are_what_is_declared.Goals as goal

pub returns-clause-types : goal.returns-clause-types
returns-clause-types c = same_types

pub returns-clause-actions : goal.returns-clause-actions
returns-clause-actions c = same_actions

pub returns-clause-parents : goal.returns-clause-parents
returns-clause-parents c = parents_meant

pub returns-clause-action_parents : goal.returns-clause-action_parents
returns-clause-action_parents c = action_parents_meant

pub returns-clause-no_cycle : goal.returns-clause-no_cycle
returns-clause-no_cycle c = not_its_ancestor

pub returns-clause-apart : goal.returns-clause-apart
returns-clause-apart c = types_apart

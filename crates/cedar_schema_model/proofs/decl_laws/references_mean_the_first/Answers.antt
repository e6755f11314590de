use Rattle.cedar_schema_model.proofs.Decls.Faults.{meant_is_first, parent_is_first}
use Rattle.cedar_schema_model.proofs.decl_laws.references_mean_the_first.Goals as goal

pub returns-clause-types : goal.returns-clause-types
returns-clause-types c = meant_is_first

pub returns-clause-actions : goal.returns-clause-actions
returns-clause-actions c = parent_is_first

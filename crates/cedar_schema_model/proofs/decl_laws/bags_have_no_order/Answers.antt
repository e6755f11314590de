use Rattle.cedar_schema_model.proofs.Decls.SameSchema.{same_types_found, same_actions_found}
use Rattle.cedar_schema_model.proofs.Decls.Reordered.{same_faults, splitting_free, fragments_move, reordered_on}
use Rattle.cedar_schema_model.proofs.decl_laws.bags_have_no_order.Goals as goal

pub returns-clause-faults : goal.returns-clause-faults
returns-clause-faults c = same_faults

pub returns-clause-split : goal.returns-clause-split
returns-clause-split c = splitting_free

pub returns-clause-moved : goal.returns-clause-moved
returns-clause-moved c = fragments_move

pub returns-clause-transitive : goal.returns-clause-transitive
returns-clause-transitive c = reordered_on

pub returns-clause-types : goal.returns-clause-types
returns-clause-types c = same_types_found

pub returns-clause-actions : goal.returns-clause-actions
returns-clause-actions c = same_actions_found

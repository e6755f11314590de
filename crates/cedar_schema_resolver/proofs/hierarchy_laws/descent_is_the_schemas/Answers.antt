use Rattle.cedar_schema_resolver.proofs.Chains.{types_so, actions_so}
use Rattle.cedar_schema_resolver.proofs.hierarchy_laws.descent_is_the_schemas.Goals as goal

pub returns-clause-types : goal.returns-clause-types
returns-clause-types c = types_so

pub returns-clause-actions : goal.returns-clause-actions
returns-clause-actions c = actions_so

use Rattle.cedar_schema_resolver.proofs.Stored.{type_found, type_kept}
use Rattle.cedar_schema_resolver.proofs.common_types.CommonTypes.get.Goals as goal

pub returns-clause-seen : goal.returns-clause-seen
returns-clause-seen c = type_found c.args.name.now c.args.self.now.types.entries c.get.result c.get.ensures.value

pub returns-clause-kept : goal.returns-clause-kept
returns-clause-kept c = type_kept c.args.name.now c.args.self.now.types.entries c.get.result c.get.ensures.value

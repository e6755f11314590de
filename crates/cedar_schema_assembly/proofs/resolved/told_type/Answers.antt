use Rattle.cedar_schema_resolver.specs.Meanings.{setting_of}
use Rattle.cedar_schema_assembly.proofs.Telling.{untold_tells}
use Rattle.cedar_schema_assembly.proofs.resolved.told_type.Goals as goal

pub returns-in-Err-clause-refused : goal.returns-in-Err-clause-refused
returns-in-Err-clause-refused c = untold_tells (setting_of c.args.resolver.now) _ c.in-Err.error c.of_type.result c.in-Err.ensures.refused c.of_type.ensures

use Rattle.cedar_schema_decl.specs.Defined.{defined_of}
use Rattle.cedar_schema_resolver.specs.Meanings.{extensions_seen}
use Rattle.cedar_schema_resolver.specs.Uses.{common_forms}
use Rattle.cedar_schema_resolver.proofs.Solving.{unordered_tells}
use Rattle.cedar_schema_resolver.proofs.resolve.resolve_common_types.Goals as goal

pub returns-in-Err-clause-refused : goal.returns-in-Err-clause-refused
returns-in-Err-clause-refused c = unordered_tells (defined_of c.args.all_defs.now) (extensions_seen c.args.extension_types.now) (common_forms c.args.commons.now) c.in-Err.error c.in-Err.ensures.refused

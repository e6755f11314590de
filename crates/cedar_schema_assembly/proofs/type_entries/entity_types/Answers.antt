use Rattle.std.proofs.Common.{map}
use Rattle.cedar_expr_names.specs.Views.{name_of}
use Rattle.cedar_schema_entries.specs.Views.{entity_type_seen}
use Rattle.cedar_schema_resolver.specs.Meanings.{setting_of}
use Rattle.cedar_schema_assembly.specs.Lists.{sets_seen}
use Rattle.cedar_schema_assembly.specs.Seen.{types_seen}
use Rattle.cedar_schema_assembly.proofs.Assembling.{types_known, types_told}
use Rattle.cedar_schema_assembly.proofs.Telling.{twice_tells}
use Rattle.cedar_schema_assembly.proofs.type_entries.entity_types.Goals as goal

pub returns-in-Err-clause-refused : goal.returns-in-Err-clause-refused
returns-in-Err-clause-refused c = twice_tells (setting_of c.args.resolver.now) (types_seen c.args.declared.now) c.in-Err.error c.in-Err.ensures.refused

pub returns-in-Ok-assembled-clause-told : goal.returns-in-Ok-assembled-clause-told
returns-in-Ok-assembled-clause-told c =
    types_told (setting_of c.args.resolver.now) (types_seen c.args.declared.now) (sets_seen name_of c.in-Ok.below.items) (map entity_type_seen c.in-Ok-assembled.entity_types.items)
    c.in-Ok-assembled.ensures.made c.descent_is_the_schemas.ensures.types c.in-Ok.ensures.descendants c.in-Ok.ensures.once

pub returns-in-Ok-assembled-clause-known : goal.returns-in-Ok-assembled-clause-known
returns-in-Ok-assembled-clause-known c =
    types_known (setting_of c.args.resolver.now) (types_seen c.args.declared.now) (sets_seen name_of c.in-Ok.below.items) (map entity_type_seen c.in-Ok-assembled.entity_types.items) c.in-Ok-assembled.ensures.made

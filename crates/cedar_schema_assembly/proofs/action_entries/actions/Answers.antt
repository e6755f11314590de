use Rattle.std.proofs.Common.{map}
use Rattle.cedar_expr_names.specs.Views.{uid_of}
use Rattle.cedar_schema_entries.specs.Views.{action_seen}
use Rattle.cedar_schema_resolver.specs.Meanings.{setting_of}
use Rattle.cedar_schema_assembly.specs.Lists.{sets_seen}
use Rattle.cedar_schema_assembly.specs.Seen.{actions_seen}
use Rattle.cedar_schema_assembly.proofs.Assembling.{contexts_known, contexts_records, actions_told, actions_apart}
use Rattle.cedar_schema_assembly.proofs.Telling.{lines_tell}
use Rattle.cedar_schema_assembly.proofs.action_entries.actions.Goals as goal

pub returns-in-Err-clause-refused : goal.returns-in-Err-clause-refused
returns-in-Err-clause-refused c = lines_tell (actions_seen c.args.declared.now) (setting_of c.args.resolver.now) c.in-Err.error c.in-Err.ensures.refused

pub returns-in-Ok-assembled-clause-told : goal.returns-in-Ok-assembled-clause-told
returns-in-Ok-assembled-clause-told c =
    actions_told (setting_of c.args.resolver.now) (actions_seen c.args.declared.now) (sets_seen uid_of c.in-Ok.below.items) (map action_seen c.in-Ok-assembled.actions.items)
    c.in-Ok-assembled.ensures.made c.descent_is_the_schemas.ensures.actions c.in-Ok.ensures.descendants c.in-Ok.ensures.once

pub returns-in-Ok-assembled-clause-known : goal.returns-in-Ok-assembled-clause-known
returns-in-Ok-assembled-clause-known c =
    contexts_known (setting_of c.args.resolver.now) (actions_seen c.args.declared.now) (sets_seen uid_of c.in-Ok.below.items) (map action_seen c.in-Ok-assembled.actions.items) c.in-Ok-assembled.ensures.made

pub returns-in-Ok-assembled-clause-records : goal.returns-in-Ok-assembled-clause-records
returns-in-Ok-assembled-clause-records c =
    contexts_records (setting_of c.args.resolver.now) (actions_seen c.args.declared.now) (sets_seen uid_of c.in-Ok.below.items) (map action_seen c.in-Ok-assembled.actions.items) c.in-Ok-assembled.ensures.made

pub returns-in-Ok-assembled-clause-apart : goal.returns-in-Ok-assembled-clause-apart
returns-in-Ok-assembled-clause-apart c =
    actions_apart (setting_of c.args.resolver.now) (actions_seen c.args.declared.now) (sets_seen uid_of c.in-Ok.below.items) (map action_seen c.in-Ok-assembled.actions.items)
    c.in-Ok-assembled.ensures.made c.descent_is_the_schemas.ensures.actions c.in-Ok.ensures.descendants

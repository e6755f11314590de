use Rattle.std.proofs.Common.{◌≡◌}
use Rattle.cedar_schema_built.specs.Entries.{actions_in, action_keys, action_names}
use Rattle.cedar_schema_built.proofs.Named.{all_actions}
use Rattle.cedar_schema_built.proofs.schema.actions_by_uid.Given as goal

abbrev pub invariant-loop-action : goal.invariant-loop-action
invariant-loop-action l = record {
  kept : actions_in l.by_uid.entries ≡ all_actions l.yielded;
  named : action_keys l.by_uid.entries ≡ action_names l.by_uid.entries;
}

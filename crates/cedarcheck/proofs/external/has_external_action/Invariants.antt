use Rattle.std.proofs.Common.{◌≡◌}
use Rattle.std.specs.BTreeMap.{values}
use Rattle.std.specs.List.{list_any}
use Rattle.cedarcheck.specs.External.{is_external_action}
use Rattle.cedarcheck.proofs.external.has_external_action.Given as goal

abbrev pub invariant-loop-declared : goal.invariant-loop-declared
invariant-loop-declared l = list_any is_external_action l.declared-iterator ≡ list_any is_external_action (values l.space.actions)

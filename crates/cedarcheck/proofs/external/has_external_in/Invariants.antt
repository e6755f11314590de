use Rattle.std.proofs.Common.{◌≡◌}
use Rattle.std.specs.BTreeMap.{values}
use Rattle.std.specs.List.{list_any}
use Rattle.cedarcheck.specs.External.{has_external}
use Rattle.cedarcheck.proofs.external.has_external_in.Given as goal

abbrev pub invariant-loop-space : goal.invariant-loop-space
invariant-loop-space l = list_any has_external l.space-iterator ≡ list_any has_external (values l.fragment.0)

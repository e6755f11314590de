use Rattle.std.proofs.Common.{◌≡◌, false, take}
use Rattle.std.specs.List.{list_any}
use Rattle.cedarcheck.specs.External.{has_external_in}
use Rattle.cedarcheck.proofs.external.one_has_external.Given as goal

abbrev pub invariant-loop-fragment : goal.invariant-loop-fragment
invariant-loop-fragment l = list_any has_external_in (take l.fragment-index l.fragments) ≡ false

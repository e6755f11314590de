use Rattle.std.proofs.Common.{◌∙◌}
use Rattle.cedarcheck.proofs.Elsewhere.{external_in_all}
use Rattle.cedarcheck.proofs.external.declare_external.Goals as goal

pub returns : goal.returns
returns c = λ x. c.one_has_external.ensures ∙ external_in_all c.args.fragments.now x

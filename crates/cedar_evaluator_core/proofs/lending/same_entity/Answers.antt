use Rattle.std.proofs.Common.{◌∙◌}
use Rattle.cedar_evaluator_core.proofs.Lent.{same_uid}
use Rattle.cedar_evaluator_core.proofs.lending.same_entity.Goals as goal

pub returns : goal.returns
returns c = c.same.ensures ∙ same_uid c.args.u.now c.args.v.now

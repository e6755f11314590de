use Rattle.std.proofs.Common.{◌∙◌}
use Rattle.cedar_gate_conforming.proofs.Placed.{or_false}
use Rattle.cedar_gate_conforming.proofs.ancestors.ancestors_are_wrong.Goals as goal

pub returns : goal.returns
returns c = c.has_wrong_ancestor.ensures ∙ or_false _

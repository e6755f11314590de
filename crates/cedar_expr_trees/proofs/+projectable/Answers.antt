use Rattle.std.proofs.lemmas.Grind.{common_steps}
use Rattle.std.proofs.Common.{arith}
use Rattle.cedar_expr_trees.proofs.+projectable.Goals as goal

pub contents::are_projectable-returns-then-not-is_projectable : goal.contents::are_projectable-returns-then-not-is_projectable
contents::are_projectable-returns-then-not-is_projectable g t c = let h = c.if-not-is_projectable.ensures in grind (arith, common_steps)

pub contents::are_projectable-loop-e-preserved : goal.contents::are_projectable-loop-e-preserved
contents::are_projectable-loop-e-preserved g t c = let h = c.if-not-is_projectable.ensures in grind (arith, common_steps)

pub contents::are_projectable-returns : goal.contents::are_projectable-returns
contents::are_projectable-returns g t c = grind (arith, common_steps)

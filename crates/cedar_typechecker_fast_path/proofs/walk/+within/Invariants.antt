use Rattle.std.proofs.Common.{map, take, ◌+◌, ◌*◌}
use Rattle.std.specs.Prelude.{max}
use Rattle.cedar_expr_trees.specs.Trees.{tree_of}
use Rattle.cedar_expr_trees.specs.declared.expr.Expr.{size-Expr}
use Rattle.cedar_typechecker_environments.specs.Facts.{facts_of}
use Rattle.cedar_typechecker_environments.specs.Settings.{setting_of}
use Rattle.cedar_typechecker_fast_path.specs.Within.{StayWithin}
use Rattle.cedar_typechecker_fast_path.proofs.walk.+within.Given as goal

abbrev pub decreases-typed_within : goal.decreases-typed_within
decreases-typed_within g l = 3 * goal.size-typed_within g l

abbrev pub decreases-if_within : goal.decreases-if_within
decreases-if_within g l = 3 * max (size-Expr Unit l.test.now) (max (size-Expr Unit l.first.now) (size-Expr Unit l.second.now)) + 2

abbrev pub decreases-and_within : goal.decreases-and_within
decreases-and_within g l = 3 * max (size-Expr Unit l.left.now) (size-Expr Unit l.right.now) + 2

abbrev pub decreases-or_within : goal.decreases-or_within
decreases-or_within g l = 3 * max (size-Expr Unit l.left.now) (size-Expr Unit l.right.now) + 2

abbrev pub decreases-binary_within : goal.decreases-binary_within
decreases-binary_within g l = 3 * max (size-Expr Unit l.arg1.now) (size-Expr Unit l.arg2.now) + 2

abbrev pub decreases-unary_within : goal.decreases-unary_within
decreases-unary_within g l = 3 * goal.size-unary_within g l + 2

abbrev pub decreases-get_within : goal.decreases-get_within
decreases-get_within g l = 3 * goal.size-get_within g l + 2

abbrev pub decreases-has_within : goal.decreases-has_within
decreases-has_within g l = 3 * goal.size-has_within g l + 2

abbrev pub decreases-like_within : goal.decreases-like_within
decreases-like_within g l = 3 * goal.size-like_within g l + 2

abbrev pub decreases-is_within : goal.decreases-is_within
decreases-is_within g l = 3 * goal.size-is_within g l + 2

abbrev pub decreases-set_within : goal.decreases-set_within
decreases-set_within g l = 3 * goal.size-set_within g l + 2

abbrev pub decreases-all_within : goal.decreases-all_within
decreases-all_within g l = 3 * goal.size-all_within g l + 1

abbrev pub invariant-all_within-loop-e : goal.invariant-all_within-loop-e
invariant-all_within-loop-e g l = StayWithin l.level (setting_of g.S.DeclaredAttributes.schema g.S.TypingSchema.table l.world) (facts_of l.known) (map tree_of (take l.e-index l.exprs)) l.types.items

use Rattle.std.proofs.Common.{◌≡◌, map, drop}
use Rattle.cedar_expr_model.specs.Builder.{trees}
use Rattle.cedar_expr_model.specs.Lists.{all_given}
use Rattle.cedar_expr_model.specs.Parts.{listed}
use Rattle.cedar_expr_names.specs.Views.{uid_of}
use Rattle.cedar_expr_trees.specs.Trees.{tree_of}
use Rattle.cedar_typechecker_model.specs.Rules.{action_literal}
use Rattle.cedar_typechecker_rules.specs.Decided.{within_some}
use Rattle.cedar_typechecker_environments.specs.Settings.{setting_of}
use Rattle.cedar_typechecker_rules.proofs.Included.{left_to_find}
use Rattle.cedar_typechecker_rules.proofs.inclusion.is_within_listed.Given as goal

abbrev pub invariant-loop-e : goal.invariant-loop-e
invariant-loop-e g l =
    let s = setting_of g.S.DeclaredAttributes.schema g.S.TypingSchema.table l.world in
    left_to_find s (uid_of l.uid) l.is_found (map tree_of (drop l.e-index l.members)) ≡ within_some s (uid_of l.uid) (all_given (action_literal s) (listed (trees (map tree_of l.members))))

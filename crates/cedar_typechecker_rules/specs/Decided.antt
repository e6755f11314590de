-- Membership that is decided where the policy is written: of an action that it names in those that it names.
-- Rule: typing (docs/RULES.md).
use Rattle.std.specs.Prelude.{◌||◌, Bool, List, Option, option_map, option_and_then, map}
use Rattle.std.specs.List.{list_any}
use Rattle.cedar_expr_model.specs.Builder.{trees}
use Rattle.cedar_expr_model.specs.Lists.{all_given}
use Rattle.cedar_expr_model.specs.Parts.{listed}
use Rattle.cedar_expr_model.specs.Uid.{Uid, uid_eq}
use Rattle.cedar_expr_model.specs.Tree.{Tree}
use Rattle.cedar_expr_trees.specs.Trees.{tree_of}
use Rattle.cedar_expr_trees.specs.declared.expr.Expr.{Expr}
use Rattle.cedar_schema_model.specs.Descent.{action_descends}
use Rattle.cedar_typechecker_model.specs.Rules.{Setting, written_action, written_actions, action_literal}

-- the action is this one, or in it
abbrev pub is_within : Setting → Uid → Uid → Bool
is_within s u v = uid_eq u v || action_descends s.schema u v

-- the action is one of these, or in one
abbrev pub within_some : Setting → Uid → Option (List Uid) → Option Bool
within_some s u us = option_map (λ vs. list_any (is_within s u) vs) us

abbrev pub decided_in : Setting → Tree → Tree → Option Bool
decided_in s a b = option_and_then (λ u. within_some s u (written_actions s b)) (written_action s a)

-- the actions that these expressions write, if each writes one
abbrev pub actions_listed : {T : Type 0} → Setting → List (Expr T) → Option (List Uid)
actions_listed s es = all_given (action_literal s) (listed (trees (map tree_of es)))

-- What an expression is as a whole: the variable of the action, a set, a literal text.
-- Rule: typing (docs/RULES.md).
use Rattle.std.specs.Prelude.{Bool, true, false, Option, Some, None, option_map}
use Rattle.std.specs.Borrow.{Bor}
use Rattle.cedar_expr_model.specs.Value.{text}
use Rattle.cedar_expr_model.specs.Tree.{Tree, lit, var, action, set_literal, Trees}
use Rattle.cedar_expr_names.specs.Views.{uid_of}
use Rattle.cedar_expr_names.specs.declared.entity.EntityUID.{EntityUID}
use Rattle.cedar_schema_model.specs.Types.{Ty}
use Rattle.cedar_schema_types.specs.Types.{type_of}
use Rattle.cedar_schema_types.specs.declared.types.Type.{«Type» as CodeType}
use Rattle.cedar_typechecker_model.specs.Rules.{Setting, written_equal}

abbrev pub is_action_variable : Tree → Bool
is_action_variable (var action) = true
is_action_variable t = false

abbrev pub set_here : Tree → Option Trees
set_here (set_literal ts) = Some ts
set_here t = None

abbrev pub is_text : Tree → Bool
is_text (lit (text s)) = true
is_text t = false

-- the type of an equality of expressions of these types that write these uids, where they write any
abbrev pub equal_written : Setting → Option (Bor EntityUID) → Option (Bor EntityUID) → CodeType → CodeType → Option Ty
equal_written s first second t u = written_equal s (option_map (λ v. uid_of v.now) first) (option_map (λ v. uid_of v.now) second) (type_of t) (type_of u)

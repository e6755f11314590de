-- What variables are, as the model's.
-- Rule: expressions (docs/RULES.md).
use Rattle.cedar_expr_model.specs.Tree as model
use Rattle.cedar_expr_model.specs.Tree.{principal, action, resource, context}
use Rattle.cedar_expr_leaves.specs.declared.var.Var.{Var}
use Rattle.cedar_expr_leaves.specs.declared.var.Var.TheVariants.{Principal, Action, Resource, Context}

-- the variable that a code variable is
abbrev pub var_of : Var → model.Var
var_of Principal = principal
var_of Action = action
var_of Resource = resource
var_of Context = context

-- The form of the expressions that a lawful builder makes.
-- Rule: expressions (docs/RULES.md).
use Rattle.std.specs.Prelude.{◌&&◌, [], Bool, true, false, not, is_some}
use Rattle.std.specs.List.{list_all}
use Rattle.cedar_expr_model.specs.Tree.{Tree, both, either, has_path}
use Rattle.cedar_expr_model.specs.Builder.{written_truth}
use Rattle.cedar_expr_model.specs.Parts.{subexpressions}

-- two written truth values
abbrev pub is_foldable : Tree → Tree → Bool
is_foldable a b = is_some (written_truth a) && is_some (written_truth b)

-- no `and` or `or` of two written truth values, and no path of one attribute
abbrev pub is_kept : Tree → Bool
is_kept (both a b) = not (is_foldable a b)
is_kept (either a b) = not (is_foldable a b)
is_kept (has_path t a []) = false
is_kept t = true

-- The form of what a lawful builder makes: each subexpression is such a one.
abbrev pub is_built : Tree → Bool
is_built t = list_all is_kept (subexpressions t)

-- What is left of an operator of one operand, of a pattern match and of a type test, of whose operand this is left.
-- Rule: partial evaluation (docs/RULES.md).
use Rattle.std.specs.Option.{option_map_or}
use Rattle.cedar_expr_model.specs.Name.{Name, name_eq}
use Rattle.cedar_expr_model.specs.Made.{bare}
use Rattle.cedar_expr_model.specs.Pattern.{Pattern}
use Rattle.cedar_expr_model.specs.Tree.{UnaryOp, unary, like, is_type}
use Rattle.cedar_store_model.specs.Operators.{applied, like_pattern, of_type}
use Rattle.cedar_evaluator_model.specs.Scope.{Left, residual}
use Rattle.cedar_evaluator_model.specs.Steps.{on_value, left_of, truth_left, kind_of_unknown}

abbrev pub unary_left : UnaryOp → Left → Left
unary_left o l = on_value l (λ m. left_of (applied o (bare m))) (λ r. residual (unary o r))

abbrev pub like_left : Pattern → Left → Left
like_left p l = on_value l (λ m. left_of (like_pattern p (bare m))) (λ r. residual (like r p))

-- an unknown annotated with an entity type is decided by that type
abbrev pub is_left : Name → Left → Left
is_left n l = on_value l (λ m. left_of (of_type n (bare m))) (λ r. option_map_or (λ k. truth_left (name_eq k n)) (kind_of_unknown r) (residual (is_type r n)))

-- Restricted expressions: literals, unknowns, calls, sets and records alone.
-- Rule: restricted expressions (docs/RULES.md).
use Rattle.std.specs.Prelude.{Bool, Option, Some, None, is_none}
use Rattle.cedar_expr_model.specs.Lists.{first_found}
use Rattle.cedar_expr_model.specs.Parts.{subexpressions}
use Rattle.cedar_expr_model.specs.Tree.{UnaryOp, BinaryOp, Tree, var, slot, choice, both, either, unary, binary, get_attr, has_attr, has_path, like, is_type}

-- what a restricted expression has not
pub data Feature : Type 0 where
  variables template_slots if_then_else and_operator or_operator : Feature
  unary_operator : UnaryOp → Feature
  binary_operator : BinaryOp → Feature
  attribute_accesses has_test like_test is_test : Feature

-- the feature that an expression has by itself
abbrev pub feature_here : Tree → Option Feature
feature_here (var x) = Some variables
feature_here (slot s) = Some template_slots
feature_here (choice t a b) = Some if_then_else
feature_here (both a b) = Some and_operator
feature_here (either a b) = Some or_operator
feature_here (unary o a) = Some (unary_operator o)
feature_here (binary o a b) = Some (binary_operator o)
feature_here (get_attr t a) = Some attribute_accesses
feature_here (has_attr t a) = Some has_test
feature_here (has_path t a bs) = Some has_test
feature_here (like t p) = Some like_test
feature_here (is_type t n) = Some is_test
feature_here t = None

-- the first such feature, a node before its children, and children in order
abbrev pub offence : Tree → Option Feature
offence t = first_found feature_here (subexpressions t)

-- such an expression
abbrev pub is_restricted : Tree → Bool
is_restricted t = is_none (offence t)

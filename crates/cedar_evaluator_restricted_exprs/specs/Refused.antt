-- What is refused in an expression that isn't restricted.
-- Rule: restricted expressions (docs/RULES.md).
use Rattle.std.specs.Prelude.{◌≡◌, Option, Some, option_map, codes, false}
use Rattle.std.specs.Rc.{rc_str_bytes}
use Rattle.cedar_expr_model.specs.Name.{Text}
use Rattle.cedar_expr_model.specs.Lists.{first_found}
use Rattle.cedar_expr_model.specs.Parts.{subexpressions}
use Rattle.cedar_expr_model.specs.Restricted.{Feature, variables, template_slots, if_then_else, and_operator, or_operator, unary_operator, binary_operator, attribute_accesses, has_test, like_test, is_test, feature_here, is_restricted}
use Rattle.cedar_expr_model.specs.Texts.{unary_text, binary_text}
use Rattle.cedar_expr_model.specs.Tree.{Tree}
use Rattle.cedar_expr_trees.specs.Trees.{tree_of}
use Rattle.cedar_evaluator_errors.specs.declared.restricted.RestrictedExpressionError.{RestrictedExpressionError}
use Rattle.cedar_evaluator_errors.specs.declared.restricted.RestrictedExpressionError.TheVariants.{OutOfMemory, InvalidRestrictedExpression}
use Rattle.cedar_evaluator_errors.specs.declared.restricted.PartialValueToRestrictedExprError.{PartialValueToRestrictedExprError}
use Rattle.cedar_evaluator_errors.specs.declared.restricted.PartialValueToRestrictedExprError.TheVariants as to_restricted

-- what a feature is called
abbrev pub feature_text : Feature → Text
feature_text variables = codes "variables"
feature_text template_slots = codes "template slots"
feature_text if_then_else = codes "if-then-else"
feature_text and_operator = codes "&&"
feature_text or_operator = codes "||"
feature_text (unary_operator o) = unary_text o
feature_text (binary_operator o) = binary_text o
feature_text attribute_accesses = codes "attribute accesses"
feature_text has_test = codes "'has'"
feature_text like_test = codes "'like'"
feature_text is_test = codes "'is'"

-- what is refused of an expression by itself: what its feature is called, and the expression
abbrev pub refused_here : Tree → Option (Text × Tree)
refused_here t = option_map (λ f. (feature_text f, t)) (feature_here t)

-- the first that is refused, a node before its children, and children in order
abbrev pub refused : Tree → Option (Text × Tree)
refused t = first_found refused_here (subexpressions t)

-- The expression isn't restricted, and the refusal names the first part that is refused. Out of memory says nothing.
abbrev pub Refuses : Tree → RestrictedExpressionError → Type 0
Refuses t OutOfMemory = Unit {0}
Refuses t (InvalidRestrictedExpression e) = (is_restricted t ≡ false) × (refused t ≡ Some (rc_str_bytes e.feature, tree_of e.expr))

-- The refusal keeps the first part that is refused, whatever it is called. Out of memory says nothing.
abbrev pub RefusesResidual : Tree → PartialValueToRestrictedExprError → Type 0
RefusesResidual t to_restricted.OutOfMemory = Unit {0}
RefusesResidual t (to_restricted.NontrivialResidual e) = option_map (λ p. p.1) (refused t) ≡ Some (tree_of e)

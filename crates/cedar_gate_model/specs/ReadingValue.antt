-- Reading values and contexts: restricted expressions, evaluated when they are read. They are read in the second version of bundles. In the
-- first the same is read: the operator that the second adds stands in no restricted expression.
-- Rule: what a bundle reads as; restricted expressions (docs/RULES.md).
use Rattle.std.specs.Prelude.{[], ◌∷◌, codes, Option, Some, None}
use Rattle.serde_json.specs.Data.{Data}
use Rattle.cedar_expr_model.specs.Tree.{record_literal}
use Rattle.cedar_expr_model.specs.Made.{Made}
use Rattle.cedar_expr_model.specs.Restricted.{is_restricted}
use Rattle.cedar_evaluator_model.specs.Scope.{Context, unknown_context, Left, value_left}
use Rattle.cedar_gate_model.specs.Reading.{given}
use Rattle.cedar_evaluator_model.specs.Functions.{Functions, left_of_restricted}
use Rattle.cedar_gate_model.specs.ReadingForms.{word_of, first_form, if_passing}
use Rattle.cedar_gate_model.specs.ReadingExpression.{second, expression_read, fields_read}
use Rattle.cedar_evaluator_model.specs.Reauthorize.{context_from}

abbrev pub if_value : Left → Option Made
if_value (value_left m) = Some m
if_value l = None

-- A value: a restricted expression that has no unknown and doesn't fail.
abbrev pub value_read : Functions → Data → Option Made
value_read x d = given (given (expression_read second d) (if_passing is_restricted)) (λ t. if_value (left_of_restricted x t))

-- the record of an object of restricted expressions, evaluated
abbrev pub fields_context_read : Functions → Data → Option Context
fields_context_read x d = given (given (fields_read second d) (λ fs. if_passing is_restricted (record_literal fs))) (λ t. context_from (left_of_restricted x t))

-- A context: unknown, or an object of restricted expressions, whose evaluation doesn't fail.
abbrev pub context_read : Functions → Data → Option Context
context_read x d = first_form (word_of ((codes "unknown", unknown_context) ∷ []) ∷ fields_context_read x ∷ []) d

-- What is read by functions with which a table agrees.
-- Rule: what a bundle reads as; extension functions (docs/RULES.md).
use Rattle.std.specs.Prelude.{◌≡◌, codes, Option, Some, None}
use Rattle.serde_json.specs.View.{view}
use Rattle.serde_json.specs.declared.value.Value.{Value}
use Rattle.cedar_expr_functions.specs.declared.extensions.Extensions.{Extensions}
use Rattle.cedar_expr_model.specs.Made.{no_made_fields}
use Rattle.cedar_expr_model.specs.Tree.{Tree}
use Rattle.cedar_evaluator_model.specs.Scope.{Context, closed}
use Rattle.cedar_evaluator_restricted_exprs.specs.Answers.{AgreesWith}
use Rattle.cedar_evaluator_model.specs.Functions.{Functions, left_of_restricted}
use Rattle.cedar_gate_model.specs.Reading.{optional}
use Rattle.cedar_gate_model.specs.ReadingValue.{context_read}
use Rattle.cedar_gate_model.specs.RunsAnswer.{AnswerFairly}
use Rattle.cedar_gate_bundles.specs.Values.{IsStopped}
use Rattle.cedar_gate_expressions.specs.declared.fault.ReadFault.{ReadFault}
use Rattle.cedar_gate_expressions.specs.declared.fault.ReadFault.TheVariants.{Unreadable}

-- by each functions with which the table agrees this is read; or nothing is, where the fault isn't out of memory
abbrev pub ReadsAs : {B : _} {F : _} {g : _} {A : Type 0} → Extensions B F g → (Functions → Option A) → A → Type 0
ReadsAs t read a = (x : Functions) → AgreesWith t x → read x ≡ Some a

abbrev pub IsUnreadable : {B : _} {F : _} {g : _} {A : Type 0} → Extensions B F g → (Functions → Option A) → ReadFault → Type 0
IsUnreadable t read f = f ≡ Unreadable → (x : Functions) → AgreesWith t x → read x ≡ None

-- by each such functions the evaluation of a restricted expression stops, where the fault isn't out of memory
abbrev pub IsStoppedBy : {B : _} {F : _} {g : _} → Extensions B F g → Tree → ReadFault → Type 0
IsStoppedBy t e f = f ≡ Unreadable → (x : Functions) → AgreesWith t x → IsStopped (left_of_restricted x e)

-- by each such functions that answer fairly
abbrev pub ByFairFunctions : {B : _} {F : _} {g : _} → Extensions B F g → (Functions → Type 0) → Type 0
ByFairFunctions t holds = (x : Functions) → AgreesWith t x → AnswerFairly x → holds x

-- the context of a request, an empty one where it is missing
abbrev pub context_at : Functions → Value → Option Context
context_at x value = optional (codes "context") (context_read x) (closed no_made_fields) (view value)

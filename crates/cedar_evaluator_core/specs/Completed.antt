-- What an evaluation answers in the completions of what is known, and which outcome it owes.
-- Rule: partial evaluation; completions (docs/RULES.md).
use Rattle.std.specs.Prelude.{◌≡◌, ◌≤◌, ℕ, true, false, Result, Ok, Err}
use Rattle.cedar_expr_model.specs.Tree.{Tree, nesting}
use Rattle.cedar_expr_model.specs.Value.{V}
use Rattle.cedar_expr_values.specs.Extensions.{extension_of}
use Rattle.cedar_expr_values.specs.Values.{bare}
use Rattle.cedar_expr_values.specs.declared.extension.ExtValue.{ExtValue}
use Rattle.cedar_expr_trees.specs.Trees.{tree_of}
use Rattle.cedar_expr_partial.specs.declared.partial_value.PartialValue.{PartialValue}
use Rattle.cedar_expr_partial.specs.declared.partial_value.PartialValue.TheVariants as partial
use Rattle.cedar_store_model.specs.Meaning.{Means}
use Rattle.cedar_store_model.specs.Outcome.{Res, val, err}
use Rattle.cedar_store_model.specs.World.{World}
use Rattle.cedar_evaluator_model.specs.Completion.{FitsAnnotations}
use Rattle.cedar_evaluator_model.specs.Known.{known_world}
use Rattle.cedar_evaluator_model.specs.OfLaws.Calls.{Agrees}
use Rattle.cedar_evaluator_model.specs.OfLaws.Completing.{Completes}
use Rattle.cedar_evaluator_model.specs.OfLaws.Standing.{Errs, LeavesUnbound, MeansLike}
use Rattle.cedar_evaluator_model.specs.OfLaws.WellMade.{AllRepresented}
use Rattle.cedar_evaluator_model.specs.Scope.{Scope, Stop, fault}
use Rattle.cedar_evaluator_errors.specs.Outcomes.{is_memory, stop_or}
use Rattle.cedar_evaluator_errors.specs.declared.err.EvaluationError.{EvaluationError}
use Rattle.cedar_evaluator_core.specs.Evaluators.{is_limit_error}

-- In this world everything is known, and it is as the scope says; the expression's unknowns fit their annotations there. The scope's
-- calls answer as its table does, and of its extension values each is what its call gives.
pub record IsCompletion (w : World) (s : Scope) (t : Tree) : Type 0 where
  pub agrees : Agrees s
  pub represented : AllRepresented s
  pub completes : Completes w s
  pub fits : FitsAnnotations w t

-- What is answered stands for the expression in this world. A value is what the expression means. A residual means an equal value where
-- the expression means a value, and errs where it errs; its unknowns fit too. With an error the expression errs, perhaps otherwise; but
-- out of memory and the limit on the depth say nothing.
abbrev pub StandsIn : World → Tree → Result (PartialValue ExtValue) EvaluationError → Type 0
StandsIn w t (Ok (partial.Value v)) = Means w t (val (bare extension_of v))
StandsIn w t (Ok (partial.Residual e)) = ((o : Res V) → Means w t o → MeansLike w (tree_of e) o) × FitsAnnotations w (tree_of e)
StandsIn w t (Err e) = is_memory e ≡ false → is_limit_error e ≡ false → Errs w t

-- The expression nests within the limit, and the unknowns of it that have values fit their annotations. The scope's calls answer as its
-- table does, and an unknown that a call leaves has no value.
pub record IsWithin (s : Scope) (n : ℕ) (t : Tree) : Type 0 where
  pub agrees : Agrees s
  pub unbound : LeavesUnbound s
  pub fits : FitsAnnotations (known_world s) t
  pub within : nesting t ≤ n

-- This outcome is answered. Out of memory says nothing.
abbrev pub IsOutcomeIn : Res V → Result (PartialValue ExtValue) EvaluationError → Type 0
IsOutcomeIn (val v) (Ok (partial.Value w)) = bare extension_of w ≡ v
IsOutcomeIn (val v) (Ok (partial.Residual e)) = ⊥
IsOutcomeIn (val v) (Err e) = is_memory e ≡ true
IsOutcomeIn (err f) (Ok p) = ⊥
IsOutcomeIn (err f) (Err e) = (other : Stop) → is_memory e ≡ false → fault f ≡ stop_or other e

-- What the expression means, of what is known in the scope, is answered.
abbrev pub AnswersMeaning : Scope → Tree → Result (PartialValue ExtValue) EvaluationError → Type 0
AnswersMeaning s t r = (o : Res V) → Means (known_world s) t o → IsOutcomeIn o r

-- What it is for the outcome of a partial evaluation to stand for an expression.
-- Rule: partial evaluation; completions (docs/RULES.md).
use Rattle.std.specs.Prelude.{◌≡◌, ◌≤◌, ℕ, List, map, None}
use Rattle.cedar_expr_model.specs.Name.{Text, Name}
use Rattle.cedar_expr_model.specs.Value.{V}
use Rattle.cedar_expr_model.specs.Tree.{Tree, nesting}
use Rattle.cedar_expr_model.specs.Made.{Made, bare}
use Rattle.cedar_store_model.specs.Outcome.{Fault, Res, val, err}
use Rattle.cedar_store_model.specs.World.{World}
use Rattle.cedar_store_model.specs.Meaning.{Means}
use Rattle.cedar_expr_model.specs.OfLaws.Fair.{IsTaken}
use Rattle.cedar_evaluator_model.specs.Scope.{Scope, leaves_unknown, fault, limit, Left, value_left, residual, stopped}
use Rattle.cedar_evaluator_model.specs.Evaluation.{evaluated}
use Rattle.cedar_evaluator_model.specs.Known.{known_world}
use Rattle.cedar_evaluator_model.specs.Completion.{FitsAnnotations}
use Rattle.cedar_evaluator_model.specs.OfLaws.Completing.{Completes}

-- the expression errs, with this kind of error or another
abbrev pub Errs : World → Tree → Type 0
Errs w t = (f : Fault) × Means w t (err f)

-- the expression means this value, or errs where this is an error
abbrev pub MeansLike : World → Tree → Res V → Type 0
MeansLike w t (val v) = Means w t (val v)
MeansLike w t (err f) = Errs w t

-- What is left stands for the expression in the world: a value is what the expression means; where it stopped with an error the
-- expression errs, perhaps otherwise; a residual means an equal value where the expression means a value, and errs where it errs.
-- Of an expression that met the limit nothing is said.
abbrev pub StandsFor : World → Tree → Left → Type 0
StandsFor w t (value_left m) = Means w t (val (bare m))
StandsFor w t (residual r) = (o : Res V) → Means w t o → MeansLike w r o
StandsFor w t (stopped (fault f)) = Errs w t
StandsFor w t (stopped limit) = Unit {0}

-- it stands for the expression in every completion that fits the annotations
abbrev pub StandsInAll : Scope → Tree → Left → Type 0
StandsInAll s t l = (w : World) → Completes w s → FitsAnnotations w t → StandsFor w t l

-- what is left is this outcome: a value with this bare value, or this error
abbrev pub IsOutcome : Res V → Left → Type 0
IsOutcome (val v) l = (m : Made) × (l ≡ value_left m) × (bare m ≡ v)
IsOutcome (err f) l = l ≡ stopped (fault f)

-- an unknown that a call leaves is bound to no value
abbrev pub LeavesUnbound : Scope → Type 0
LeavesUnbound s = (f : Name) (ms : List Made) (n : Text) → IsTaken s.table f (map bare ms) → s.calls f ms ≡ leaves_unknown n → s.values n ≡ None

-- What is owed: where what is known gives the expression an outcome, and its nesting is within the limit, that outcome is left.
abbrev pub Owed : Scope → ℕ → Tree → Type 0
Owed s n t = nesting t ≤ n → (r : Res V) → Means (known_world s) t r → IsOutcome r (evaluated s n t)

-- the limit isn't met
abbrev pub NoLimit : Scope → ℕ → Tree → Type 0
NoLimit s n t = evaluated s n t ≡ stopped limit → ⊥

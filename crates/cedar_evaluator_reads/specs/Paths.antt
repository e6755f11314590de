-- A path of attributes, and a step along it.
-- Rule: partial evaluation (docs/RULES.md).
use Rattle.std.specs.Prelude.{◌≡◌, ◌∷◌, List, map, Option, false, Result, Ok, Err}
use Rattle.std.specs.Rc.{rc_str_bytes}
use Rattle.std.specs.declared.alloc.Global.{Global}
use Rattle.std.specs.declared.rc.RcStr.{RcStr}
use Rattle.cedar_expr_leaves.specs.declared.non_empty.NonEmpty.{NonEmpty}
use Rattle.cedar_expr_model.specs.Name.{Text}
use Rattle.cedar_expr_model.specs.Builder.{path_test}
use Rattle.cedar_expr_model.specs.Made.{Made}
use Rattle.cedar_expr_model.specs.ValueParts.{Part}
use Rattle.cedar_expr_values.specs.Extensions.{extension_of}
use Rattle.cedar_expr_values.specs.Values.{made}
use Rattle.cedar_evaluator_model.specs.Scope.{Scope, Stop, Left, residual, stopped}
use Rattle.cedar_evaluator_model.specs.Steps.{on_value, path_of, path_step}
use Rattle.cedar_evaluator_errors.specs.Outcomes.{left_seen, is_memory, stop_or}
use Rattle.cedar_evaluator_errors.specs.declared.err.EvaluationError.{EvaluationError}
use Rattle.cedar_evaluator_reads.specs.Scopes.{scope_seen}
use Rattle.cedar_evaluator_reads.specs.declared.knowledge.Knowledge.{Knowledge}
use Rattle.cedar_evaluator_reads.specs.declared.paths.Step.{Step}
use Rattle.cedar_evaluator_reads.specs.declared.paths.Step.TheVariants as step

-- the first name of a path, and those after it
abbrev pub first_name : NonEmpty (RcStr Global) → Text
first_name p = rc_str_bytes p.head

abbrev pub other_names : NonEmpty (RcStr Global) → List Text
other_names p = map rc_str_bytes p.tail.items

-- whether the path is there, in what is left of an expression
abbrev pub path_left : Scope → NonEmpty (RcStr Global) → Left → Left
path_left s p l = on_value l (path_of s (first_name p) (other_names p)) (λ r. residual (path_test r (first_name p) (other_names p)))

-- whether a path is there of this name, and those after it
abbrev pub path_from : {T : Type 0} → Knowledge T → RcStr Global → List (RcStr Global) → Made → Left
path_from k a bs = path_of (scope_seen k) (rc_str_bytes a) (map rc_str_bytes bs)

-- whether a path is there that goes on: of this name, the next, and those after it
abbrev pub path_through : {T : Type 0} → Knowledge T → RcStr Global → RcStr Global → List (RcStr Global) → Made → Left
path_through k a b cs = path_of (scope_seen k) (rc_str_bytes a) (rc_str_bytes b ∷ map rc_str_bytes cs)

-- whether the rest of a path is there in what an attribute of an entity holds
abbrev pub path_in_part : {T : Type 0} → Knowledge T → RcStr Global → List (RcStr Global) → Option (Part Made) → Left
path_in_part k b cs p = path_step (path_from k b cs) (rc_str_bytes b) (map rc_str_bytes cs) p

-- What is left comes of the value that the step found, or is this, or it stopped so. Out of memory says nothing.
abbrev pub Goes : Left → (Made → Left) → Result Step EvaluationError → Type 0
Goes l next (Ok (step.On v)) = l ≡ next (made extension_of v.now)
Goes l next (Ok (step.Done d)) = l ≡ left_seen d
Goes l next (Err e) = (other : Stop) → is_memory e ≡ false → l ≡ stopped (stop_or other e)

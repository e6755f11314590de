-- A course that is admitted is proper, and functions that answer fairly make values fairly: by the types of the values.
use Rattle.std.proofs.Common.{◌≡◌, true, List, [], ◌∷◌, sym, subst}
use Rattle.std.specs.Prelude.{Contains}
use Rattle.std.specs.Rc.{rc_str_bytes}
use Rattle.cedar_expr_model.proofs.Lists.{contains_cases, contains_none}
use Rattle.cedar_expr_model.specs.Canonical.{is_canonical}
use Rattle.cedar_expr_model.specs.Made.{Made, bare}
use Rattle.cedar_expr_model.specs.Name.{Text}
use Rattle.cedar_expr_values.specs.Extensions.{extension_of}
use Rattle.cedar_expr_values.specs.Members.{value_kept}
use Rattle.cedar_expr_values.specs.Values.{made}
use Rattle.cedar_evaluator_model.specs.OfLaws.WellMade.{MakeValues}
use Rattle.cedar_evaluator_model.proofs.Represented.{well_of_represented}
use Rattle.cedar_evaluator_model.specs.Functions.{Functions}
use Rattle.cedar_gate_model.specs.RunLaws.{bindings_in}
use Rattle.cedar_gate_model.specs.RunsAnswer.{Course, IsAdmitted, IsProper, AnswerFairly, MakeFairly}
use Rattle.cedar_gate_model.specs.Session.{State}
use Rattle.cedar_gate_runs.specs.Courses.{IsOf}
use Rattle.cedar_gate_runs.specs.Steps.{steps_of}
use Rattle.cedar_gate_runs.specs.declared.steps.Step.{Step}
use Rattle.cedar_gate_runs.specs.declared.steps.Step.TheVariants.{Load, Bind, Decide}

-- what steps bind is canonical
bound_kept : (given : List Step) (b : Text × Made) → Contains (bindings_in (steps_of given)) b → is_canonical (bare b.1) ≡ true
bound_kept [] b k = absurd (contains_none b k)
bound_kept (Load ∷ ss) b k = bound_kept ss b k
bound_kept (Bind n v ∷ ss) b k =
    contains_cases (is_canonical (bare b.1) ≡ true) (rc_str_bytes n, made extension_of v) (bindings_in (steps_of ss)) b k (λ e. subst (λ (z : Text × Made). is_canonical (bare z.1) ≡ true) e (value_kept extension_of v)) (bound_kept ss b)
bound_kept (Decide ∷ ss) b k = bound_kept ss b k

pub proper_of : {E : Type 0} (Stands : Course → State → E → Type 0) (c : Course) (e : E) (given : List Step) → IsOf Stands c e given → IsAdmitted c → IsProper c
proper_of Stands c e given o h = record {
  admitted = h;
  values = λ b k. well_of_represented c.functions.table b.1 (bound_kept given b (subst (λ zs. Contains (bindings_in zs) b) (sym o.steps) k)) (o.bound b k);
}

pub fairly_of : (x : Functions) → MakeValues x.calls → AnswerFairly x → MakeFairly x
fairly_of x h fair = record { answers = fair; values = h }

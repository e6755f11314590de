-- What a gate is asked over: the request, the store and the values that are known at a state.
-- Rule: sessions; partial evaluation (docs/RULES.md).
use Rattle.std.specs.Prelude.{◌≡◌, ℕ, List}
use Rattle.std.specs.HashMap.{HashMap}
use Rattle.std.specs.declared.alloc.Global.{Global}
use Rattle.std.specs.declared.rc.RcStr.{RcStr}
use Rattle.cedar_expr_model.specs.ListLaws.{AreDistinct}
use Rattle.cedar_expr_model.specs.Made.{Made}
use Rattle.cedar_expr_model.specs.Uid.{Uid}
use Rattle.cedar_expr_values.specs.declared.extension.ExtValue.{ExtValue}
use Rattle.cedar_expr_values.specs.declared.value.Value.{Value}
use Rattle.cedar_store_entities.specs.declared.entities.Entities.{Entities}
use Rattle.cedar_store_model.specs.Answer.{ids}
use Rattle.cedar_store_model.specs.Policy.{Policy}
use Rattle.cedar_store_model.specs.World.{Found}
use Rattle.cedar_evaluator_model.specs.Scope.{Scope}
use Rattle.cedar_evaluator_reads.specs.Scopes.{store_of}
use Rattle.cedar_evaluator_requests.specs.Views.{answer_of, request_of}
use Rattle.cedar_evaluator_requests.specs.declared.request.Request.{Request}
use Rattle.cedar_evaluator_requests.specs.declared.response.Response.{Response}
use Rattle.cedar_gate_model.specs.Session.{Setup, State, scope_now}
use Rattle.cedar_gate_openings.specs.Names.{bound_in}
use Rattle.cedar_gate_openings.specs.Requests.{request_at, AreValuesOf}
use Rattle.cedar_gate_sessions.specs.Answers.{answered}

-- The request is that of the state, the store has what is found there, and names are bound to the state's values.
pub record IsKnown {S : Type 0} (x : Setup) (s : State) (found : Uid → Found Made) (q : Request) (z : Entities) (values : HashMap (RcStr Global) (Value ExtValue) S) : Type 0 where
  pub request : request_of q ≡ request_at x.functions s x.start
  pub store : (u : Uid) → store_of z u ≡ found u
  pub bound : AreValuesOf s (bound_in values)

-- for each setup of the gate
abbrev pub ForEachSetup : {G : Type 0} → (G → Setup → Type 0) → G → (Setup → Type 0) → Type 0
ForEachSetup suits g holds = (x : Setup) → suits g x → holds x

-- In the scope of what is known at each state of a setup of the gate, within its limit.
abbrev pub WhereKnown : {G S : Type 0} → (G → Setup → Type 0) → G → Request → Entities → HashMap (RcStr Global) (Value ExtValue) S → (Scope → ℕ → Type 0) → Type 0
WhereKnown suits g q z values holds = (x : Setup) (s : State) (found : Uid → Found Made) → suits g x → IsKnown x s found q z values → holds (scope_now x s found) x.limit

-- the response is the answer that evaluations leave, where the policies have distinct ids
abbrev pub AnswersDistinct : Scope → ℕ → List Policy → Response → Type 0
AnswersDistinct s n ps r = AreDistinct (ids ps) → answer_of r ≡ answered s n ps

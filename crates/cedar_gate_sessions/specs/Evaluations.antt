-- What evaluating policies of the code leaves, and what is decided and answered by it.
-- Rule: partial evaluation; partial responses; the answer (docs/RULES.md).
use Rattle.std.specs.Prelude.{◌≡◌, ◌++◌, [], ℕ, All, List, map, Option, option_map}
use Rattle.std.specs.List.{cons_option}
use Rattle.cedar_expr_model.specs.ListLaws.{AreDistinct}
use Rattle.cedar_expr_model.specs.Made.{Made}
use Rattle.cedar_expr_model.specs.Name.{Name}
use Rattle.cedar_expr_model.specs.Table.{Table, Called}
use Rattle.cedar_expr_model.specs.Value.{V}
use Rattle.cedar_store_model.specs.Answer as answer
use Rattle.cedar_store_model.specs.Answer.{ids}
use Rattle.cedar_store_model.specs.Policy as model
use Rattle.cedar_store_model.specs.Policy.{no_bindings}
use Rattle.cedar_store_policies.specs.Policies.{policy_of}
use Rattle.cedar_store_policies.specs.declared.policy.Policy.{Policy}
use Rattle.cedar_evaluator_model.specs.Known.{known_world}
use Rattle.cedar_evaluator_model.specs.Laws.{WithinLimit, as_concrete}
use Rattle.cedar_evaluator_model.specs.Members.{bounds_in_session, decision_in_session}
use Rattle.cedar_evaluator_model.specs.OfLaws.Calls.{Agrees}
use Rattle.cedar_evaluator_model.specs.OfLaws.Whole.{NothingUnknown, AllLoaded}
use Rattle.cedar_evaluator_model.specs.Response.{response_of, verdict}
use Rattle.cedar_evaluator_model.specs.Scope.{Scope, Left, MadeCalled}
use Rattle.cedar_evaluator_errors.specs.Calls.{Functions}
use Rattle.cedar_evaluator_core.specs.Evaluators.{limit_of, scope_in, table_in}
use Rattle.cedar_evaluator_core.specs.declared.evaluator.Evaluator.{Evaluator}
use Rattle.cedar_evaluator_requests.specs.Views.{answer_of, error_of}
use Rattle.cedar_evaluator_requests.specs.declared.response.Response.{Response}
use Rattle.cedar_evaluator_requests.specs.declared.response.AuthorizationError.{AuthorizationError}
use Rattle.cedar_gate_sessions.specs.Answers.{answered, asked, errors_left, if_erring}
use Rattle.cedar_gate_sessions.specs.Bounds.{bounds_of}
use Rattle.cedar_gate_sessions.specs.Verdicts.{kind_of, verdicts_of}
use Rattle.cedar_gate_sessions.specs.declared.bounds.Bounds.{Bounds}
use Rattle.cedar_gate_sessions.specs.declared.kinds.Verdict.{Verdict}

-- the policies in the model, and that they have distinct ids
abbrev pub policies_of : List Policy → List model.Policy
policies_of ps = map policy_of ps

abbrev pub HaveDistinctIds : List Policy → Type 0
HaveDistinctIds ps = AreDistinct (ids (policies_of ps))

-- the verdicts on the policies, and on one
abbrev pub verdicts_over : Scope → ℕ → List Policy → List Verdict
verdicts_over s n ps = verdicts_of s n (policies_of ps)

abbrev pub verdict_on : Scope → ℕ → Policy → Verdict
verdict_on s n p = kind_of (verdict s n (policy_of p))

-- In each scope of the evaluator, within its limit: whatever the functions by which its table answers, where no slot is bound.
abbrev pub InEachScope : {T : Type 0} → (T → (Name → List Made → MadeCalled) → Type 0) → (T → (Name → List V → Called) → Table) → Evaluator T → (Scope → ℕ → Type 0) → Type 0
InEachScope answers_as table e holds = (fs : Functions) → answers_as (table_in e) fs.calls → holds (scope_in table fs e no_bindings) (limit_of e)

-- in each scope and within each limit in which these are the verdicts on the policies
abbrev pub ByVerdicts : List Policy → List Verdict → (Scope → ℕ → Type 0) → Type 0
ByVerdicts ps vs holds = (s : Scope) (n : ℕ) → vs ≡ verdicts_over s n ps → holds s n

-- the decision by the policies in part; these are the bounds of what determines it
abbrev pub decision_over : Scope → ℕ → List Policy → Option answer.Decision
decision_over s n ps = decision_in_session (response_of s n (policies_of ps))

abbrev pub AreBounds : Scope → ℕ → List Policy → Option Bounds → Type 0
AreBounds s n ps b = option_map bounds_of b ≡ bounds_in_session (policies_of ps) (response_of s n (policies_of ps))

-- these are the errors of the policies, in their order
abbrev pub AreErrors : Scope → ℕ → List Policy → List AuthorizationError → Type 0
AreErrors s n ps es = map error_of es ≡ errors_left s n (policies_of ps)

-- the error of a policy of which this is left is appended, or that of a policy in a scope, if it has one
abbrev pub AppendsError : Policy → Left → List AuthorizationError → List AuthorizationError → Type 0
AppendsError p l old new = map error_of new ≡ map error_of old ++ cons_option (if_erring (policy_of p) l) []

abbrev pub AppendsErrorOf : Scope → ℕ → Policy → List AuthorizationError → List AuthorizationError → Type 0
AppendsErrorOf s n p old new = AppendsError p (asked s n (policy_of p)) old new

-- in each scope and within each limit in which these are the verdicts on the policies and their errors, where they have distinct ids
abbrev pub ByVerdictsAndErrors : List Policy → List Verdict → List AuthorizationError → (Scope → ℕ → Type 0) → Type 0
ByVerdictsAndErrors ps vs es holds = ByVerdicts ps vs (λ s n. AreErrors s n ps es → HaveDistinctIds ps → holds s n)

-- the response is the answer that evaluations leave
abbrev pub IsAnswered : Scope → ℕ → List Policy → Response → Type 0
IsAnswered s n ps r = answer_of r ≡ answered s n (policies_of ps)

-- the response is the answer by what the policies mean
abbrev pub IsMeant : Scope → List Policy → Response → Type 0
IsMeant s ps r = answer_of r ≡ as_concrete (answer.answer_of (known_world s) (policies_of ps))

-- where nothing is unknown, everything is loaded and the policies are within the limit and have distinct ids
abbrev pub WhereAllIsKnown : Scope → ℕ → List Policy → Type 0 → Type 0
WhereAllIsKnown s n ps holds = HaveDistinctIds ps → Agrees s → NothingUnknown s → AllLoaded s → All (WithinLimit s n) (policies_of ps) → holds

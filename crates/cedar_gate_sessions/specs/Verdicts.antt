-- What is left of policies, as verdicts, and the decision by them.
-- Rule: partial responses; owed decisions (docs/RULES.md).
use Rattle.std.specs.Prelude.{◌&&◌, ◌||◌, Bool, true, false, not, ℕ, List, map, Option, Some, None, if◌then◌else◌}
use Rattle.cedar_expr_model.specs.Made.{made_prim}
use Rattle.cedar_expr_model.specs.Value.{truth}
use Rattle.cedar_store_model.specs.Answer.{Decision, allow, deny}
use Rattle.cedar_store_model.specs.Policy as model
use Rattle.cedar_evaluator_model.specs.Scope.{Scope, Left, value_left, residual, stopped, limit}
use Rattle.cedar_evaluator_model.specs.Response.{verdict}
use Rattle.cedar_store_parts.specs.declared.policy_id.Effect.{Effect}
use Rattle.cedar_store_parts.specs.declared.policy_id.Effect.TheVariants.{Permit, Forbid}
use Rattle.cedar_gate_sessions.specs.declared.kinds.Verdict.{Verdict}
use Rattle.cedar_gate_sessions.specs.declared.kinds.Verdict.TheVariants.{Satisfied, Open, Not, Limit}

-- the verdict that this is
abbrev pub kind_of : Left → Verdict
kind_of (value_left (made_prim (truth true))) = Satisfied
kind_of (residual r) = Open
kind_of (stopped limit) = Limit
kind_of l = Not

-- the verdicts on policies, within the limit
abbrev pub verdicts_of : Scope → ℕ → List model.Policy → List Verdict
verdicts_of s n ps = map (λ p. kind_of (verdict s n p)) ps

abbrev pub is_satisfied : Verdict → Bool
is_satisfied Satisfied = true
is_satisfied v = false

abbrev pub is_open : Verdict → Bool
is_open Open = true
is_open v = false

abbrev pub is_limit : Verdict → Bool
is_limit Limit = true
is_limit v = false

-- whether an effect is this one
abbrev pub has_effect : Effect → model.Effect → Bool
has_effect Permit model.permit = true
has_effect Permit model.forbid = false
has_effect Forbid model.permit = false
has_effect Forbid model.forbid = true

-- The decision by whether there are satisfied permits, residual ones, satisfied forbids, residual ones.
abbrev pub decided_by_any : Bool → Bool → Bool → Bool → Option Decision
decided_by_any permits open_permits true open_forbids = Some deny
decided_by_any true open_permits false true = None
decided_by_any true open_permits false false = Some allow
decided_by_any false true false open_forbids = None
decided_by_any false false false open_forbids = Some deny

-- Whether a policy must determine the decision, where this is known: some forbid is satisfied, some forbid is residual.
abbrev pub must_by : Bool → Bool → model.Effect → Verdict → Bool
must_by forbids open_forbids e v = is_satisfied v && (if forbids then has_effect Forbid e else (not open_forbids && has_effect Permit e))

-- Whether it may, where this is known: some forbid is satisfied.
abbrev pub may_by : Bool → model.Effect → Verdict → Bool
may_by forbids e v = (is_satisfied v || is_open v) && (if forbids then has_effect Forbid e else (is_open v || has_effect Permit e))

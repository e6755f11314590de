-- What a partial response answers: decisions, policies that may or must determine them, residual policies.
-- Rule: partial responses (docs/RULES.md).
use Rattle.std.specs.Prelude.{List, [], ◌∷◌, ◌++◌, map, Bool, true, false, Option, Some, None, if◌then◌else◌, find}
use Rattle.std.specs.List.{filter, filter_map, list_any}
use Rattle.std.specs.Str.{bytes_eq}
use Rattle.cedar_expr_model.specs.Name.{Text}
use Rattle.cedar_expr_model.specs.Value.{truth}
use Rattle.cedar_expr_model.specs.Tree.{Tree, lit}
use Rattle.cedar_store_model.specs.Policy.{Policy, Effect, permit, forbid, any, any_action, no_bindings}
use Rattle.cedar_store_model.specs.Answer.{Decision, allow, deny, ids, decided}
use Rattle.cedar_evaluator_model.specs.Scope.{limit}
use Rattle.cedar_evaluator_model.specs.Response.{Noted, ErrorState, no_error, with_error, Cause, stops, no_value, ResponseError, Response}

-- a policy of what is left: its scope is any, and its body is the residual
abbrev pub left_policy : Effect → Noted → Tree → Policy
left_policy e n t = record { id = n.id; effect = e; annotations = n.annotations; principal = any; action = any_action; resource = any; body = Some t; bindings = no_bindings }

-- the groups as policies: with the body true, with the body false, and with their residual
abbrev pub of_true : Effect → List Noted → List Policy
of_true e ns = map (λ n. left_policy e n (lit (truth true))) ns

abbrev pub of_false : Effect → List (Noted × ErrorState) → List Policy
of_false e ns = map (λ n. left_policy e n.0 (lit (truth false))) ns

abbrev pub of_residual : Effect → List (Noted × Tree) → List Policy
of_residual e ns = map (λ n. left_policy e n.0 n.1) ns

-- The decision, where the residuals can't change it: a satisfied forbid denies; so does it that no permit is satisfied or residual;
-- else nothing is decided while a forbid is residual, or while no permit is satisfied; else it is Allow.
abbrev pub decided_by : {A B C D : Type 0} → List A → List B → List C → List D → Option Decision
decided_by permits left_permits (f ∷ fs) left_forbids = Some deny
decided_by [] [] [] left_forbids = Some deny
decided_by (p ∷ ps) left_permits [] [] = Some allow
decided_by permits left_permits forbids left_forbids = None

abbrev pub decision : Response → Option Decision
decision r = decided_by r.true_permits r.residual_permits r.true_forbids r.residual_forbids

-- the first, where the list has nothing; else the second
abbrev pub if_none : {A B : Type 0} → List A → B → B → B
if_none [] x y = x
if_none (a ∷ as_) x y = y

abbrev pub satisfied_permits : Response → List Policy
satisfied_permits r = of_true permit r.true_permits

abbrev pub satisfied_forbids : Response → List Policy
satisfied_forbids r = of_true forbid r.true_forbids

-- The policies that determine the decision whatever the unknowns are: without satisfied and residual forbids the satisfied
-- permits, else the satisfied forbids.
abbrev pub must_be_determining : Response → List Policy
must_be_determining r = if_none r.true_forbids (if_none r.residual_forbids (satisfied_permits r) (satisfied_forbids r)) (satisfied_forbids r)

-- The residual policies, permits first.
abbrev pub nontrivial_forbids : Response → List Policy
nontrivial_forbids r = of_residual forbid r.residual_forbids

abbrev pub nontrivial_residuals : Response → List Policy
nontrivial_residuals r = of_residual permit r.residual_permits ++ nontrivial_forbids r

abbrev pub nontrivial_residual_ids : Response → List Text
nontrivial_residual_ids r = ids (nontrivial_residuals r)

-- The policies that may determine it: without satisfied forbids the satisfied permits and all residual policies, else the satisfied
-- and the residual forbids.
abbrev pub may_be_determining : Response → List Policy
may_be_determining r = if_none r.true_forbids (satisfied_permits r ++ nontrivial_residuals r) (satisfied_forbids r ++ nontrivial_forbids r)

-- the satisfied policies, permits first
abbrev pub definitely_satisfied : Response → List Policy
definitely_satisfied r = satisfied_permits r ++ satisfied_forbids r

abbrev pub id_if_erred : Noted × ErrorState → Option Text
id_if_erred (n, no_error) = None
id_if_erred (n, with_error) = Some n.id

-- the ids of the policies that erred, permits first
abbrev pub definitely_errored : Response → List Text
definitely_errored r = filter_map id_if_erred (r.false_permits ++ r.false_forbids)

-- All policies by what is left of them: permits true, false and residual, then forbids so.
abbrev pub all_residuals : Response → List Policy
all_residuals r =
    (of_true permit r.true_permits ++ (of_false permit r.false_permits ++ of_residual permit r.residual_permits))
    ++ (of_true forbid r.true_forbids ++ (of_false forbid r.false_forbids ++ of_residual forbid r.residual_forbids))

-- The policy of an id: permits first, and of each effect the residual ones, then the true, then the false.
abbrev pub get : Response → Text → Option Policy
get r i = find (λ p. bytes_eq i p.id)
    ((of_residual permit r.residual_permits ++ (of_true permit r.true_permits ++ of_false permit r.false_permits))
    ++ (of_residual forbid r.residual_forbids ++ (of_true forbid r.true_forbids ++ of_false forbid r.false_forbids)))

-- the error of a residual policy where a value is wanted
abbrev pub without_value : Noted × Tree → ResponseError
without_value n = record { id = (n.0).id; cause = no_value n.1 }

-- a response where every residual counts as an error
pub record Concrete : Type 0 where
  pub decision : Decision
  pub reasons : List Text
  pub errors : List ResponseError

-- Allow exactly with a satisfied permit and no satisfied forbid; the reasons are those that must determine it; the residual
-- forbids and then permits are errors, before the errors listed.
abbrev pub concretize : Response → Concrete
concretize r =
    record { decision = decided r.true_permits r.true_forbids; reasons = ids (must_be_determining r); errors = map without_value (r.residual_forbids ++ r.residual_permits) ++ r.errors }

-- Sessions. A policy that met the limit on the depth counts as open.
abbrev pub is_limit : Cause → Bool
is_limit (stops limit) = true
is_limit c = false

abbrev pub met_limit : Response → Bool
met_limit r = list_any (λ e. is_limit e.cause) r.errors

-- nothing where a policy met the limit
abbrev pub unless_limit : {A : Type 0} → Response → Option A → Option A
unless_limit r o = if met_limit r then None else o

abbrev pub decision_in_session : Response → Option Decision
decision_in_session r = unless_limit r (decision r)

-- what must determine a decision and what may, in policy order
pub record Bounds : Type 0 where
  pub must : List Text
  pub may : List Text

-- these ids, in the order of the policies
abbrev pub in_order : List Policy → List Text → List Text
in_order ps is = filter (λ i. list_any (bytes_eq i) is) (ids ps)

abbrev pub bounds_in_session : List Policy → Response → Option Bounds
bounds_in_session ps r = unless_limit r (Some (record { must = in_order ps (ids (must_be_determining r)); may = in_order ps (ids (may_be_determining r)) }))

-- Partial responses: policies evaluated one after the other, in groups by effect and by what was left of their conditions.
-- Rule: partial responses (docs/RULES.md).
use Rattle.std.specs.Prelude.{ℕ, List, true, false, Option, Some, None}
use Rattle.std.specs.List.{filter_map}
use Rattle.std.specs.Option.{option_map_or}
use Rattle.cedar_expr_model.specs.Name.{Text}
use Rattle.cedar_expr_model.specs.Uid.{Uid}
use Rattle.cedar_expr_model.specs.Value.{truth, entity}
use Rattle.cedar_expr_model.specs.Tree.{SlotId, Tree, lit, slot}
use Rattle.cedar_expr_model.specs.Builder.{built, tree_builder}
use Rattle.cedar_expr_model.specs.Made.{made_prim}
use Rattle.cedar_store_model.specs.Policy.{Policy, Effect, permit, forbid, SlotBindings, binding_of, condition}
use Rattle.cedar_evaluator_model.specs.Scope.{Scope, Entry, Context, Stop, Left, value_left, residual, stopped}
use Rattle.cedar_evaluator_model.specs.Steps.{on_value, truth_wanted}
use Rattle.cedar_evaluator_model.specs.Evaluation.{evaluated}

-- a request of which parts may be unknown
pub record PartialRequest : Type 0 where
  pub principal : Entry
  pub action : Entry
  pub resource : Entry
  pub context : Context

-- what a response keeps of a policy
pub record Noted : Type 0 where
  pub id : Text
  pub annotations : List (Text × Text)

-- whether a policy that isn't satisfied erred
pub data ErrorState : Type 0 where
  no_error with_error : ErrorState

-- why a policy erred: its evaluation stopped, or a residual stood where a value was wanted
pub data Cause : Type 0 where
  stops : Stop → Cause
  no_value : Tree → Cause

pub record ResponseError : Type 0 where
  pub id : Text
  pub cause : Cause

-- A partial response: for each effect the policies that are satisfied, that are false, and that are residual, then the errors and
-- the request.
pub record Response : Type 0 where
  pub true_permits : List Noted
  pub false_permits : List (Noted × ErrorState)
  pub residual_permits : List (Noted × Tree)
  pub true_forbids : List Noted
  pub false_forbids : List (Noted × ErrorState)
  pub residual_forbids : List (Noted × Tree)
  pub errors : List ResponseError
  pub request : PartialRequest

abbrev pub request_of : Scope → PartialRequest
request_of s = record { principal = s.principal; action = s.action; resource = s.resource; context = s.context }

-- the scope with the slots of a policy
abbrev pub with_bindings : Scope → SlotBindings → Scope
with_bindings s b = record s { slots = binding_of b }

-- the expression with the uids that slots are bound to in their places; a slot that isn't bound stays
abbrev pub slots_bound : (SlotId → Option Uid) → Tree → Tree
slots_bound bound t = built (record tree_builder { of_slot = λ x. option_map_or (λ u. lit (entity u)) (bound x) (slot x) }) t

-- What is left of a policy's condition: a truth value, a residual with the policy's slots bound in it, or why it stopped. Any other
-- value is a type error.
abbrev pub verdict : Scope → ℕ → Policy → Left
verdict s n p = on_value (evaluated (with_bindings s p.bindings) n (condition p)) truth_wanted (λ r. residual (slots_bound (binding_of p.bindings) r))

abbrev pub noted : Policy → Noted
noted p = record { id = p.id; annotations = p.annotations }

-- a policy of the effect, of which something is asked
abbrev pub of_effect : {A : Type 0} → Effect → Effect → Option A → Option A
of_effect permit permit o = o
of_effect forbid forbid o = o
of_effect e f o = None

-- what each group takes of a policy with this verdict
abbrev pub if_true : Policy → Left → Option Noted
if_true p (value_left (made_prim (truth true))) = Some (noted p)
if_true p l = None

abbrev pub if_false : Policy → Left → Option (Noted × ErrorState)
if_false p (value_left (made_prim (truth false))) = Some (noted p, no_error)
if_false p (stopped s) = Some (noted p, with_error)
if_false p l = None

abbrev pub if_residual : Policy → Left → Option (Noted × Tree)
if_residual p (residual r) = Some (noted p, r)
if_residual p l = None

abbrev pub if_stopped : Policy → Left → Option ResponseError
if_stopped p (stopped s) = Some (record { id = p.id; cause = stops s })
if_stopped p l = None

-- the policies of an effect that a group takes, in policy order
abbrev pub group : {A : Type 0} → Effect → (Policy → Option A) → List Policy → List A
group e takes ps = filter_map (λ p. of_effect e p.effect (takes p)) ps

-- The response to a list of policies, each evaluated within the limit.
abbrev pub response_of : Scope → ℕ → List Policy → Response
response_of s n ps = record {
  true_permits = group permit (λ p. if_true p (verdict s n p)) ps;
  false_permits = group permit (λ p. if_false p (verdict s n p)) ps;
  residual_permits = group permit (λ p. if_residual p (verdict s n p)) ps;
  true_forbids = group forbid (λ p. if_true p (verdict s n p)) ps;
  false_forbids = group forbid (λ p. if_false p (verdict s n p)) ps;
  residual_forbids = group forbid (λ p. if_residual p (verdict s n p)) ps;
  errors = filter_map (λ p. if_stopped p (verdict s n p)) ps;
  request = request_of s;
}

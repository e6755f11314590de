-- The answer of a list of policies: decision, reasons and errors.
-- Rule: the answer (docs/RULES.md).
use Rattle.std.specs.Prelude.{List, [], ◌∷◌, ◌&&◌, map, filter, not, Bool, true, false, Option, Some}
use Rattle.std.specs.List.{flat_map}
use Rattle.cedar_expr_model.specs.Name.{Text}
use Rattle.cedar_expr_model.specs.Value.{V, prim, truth, truth_value}
use Rattle.cedar_store_model.specs.Outcome.{Res, val, err, Fault, Then, Is, bind}
use Rattle.cedar_store_model.specs.World.{World}
use Rattle.cedar_store_model.specs.Meaning.{Means, outcome_of, truth_asked}
use Rattle.cedar_store_model.specs.Policy.{Policy, Effect, permit, forbid, SlotBindings, binding_of, condition}

pub data Decision : Type 0 where
  allow deny : Decision

-- an error of a policy
pub record PolicyError : Type 0 where
  pub id : Text
  pub fault : Fault

pub record Answer : Type 0 where
  pub decision : Decision
  pub reasons : List Text
  pub errors : List PolicyError

-- the world in which the slots are bound so
abbrev pub with_slots : World → SlotBindings → World
with_slots w b = record w { slots = binding_of b }

-- What a policy means, in the world with its slots: its condition's truth value or error; any other value is a type error.
abbrev pub PolicyMeans : World → Policy → Res V → Type 0
PolicyMeans w p = Then (Means (with_slots w p.bindings) (condition p)) (λ v. Is (truth_asked v))

-- the outcome of a policy, in the world with its slots: its condition's truth value or error, a type error of any other value
abbrev pub policy_outcome : World → Policy → Option (Res V)
policy_outcome w p = bind (outcome_of (with_slots w p.bindings) (condition p)) (λ v. Some (truth_asked v))

-- a policy is satisfied where its condition means true
abbrev pub IsSatisfied : World → Policy → Type 0
IsSatisfied w p = Means (with_slots w p.bindings) (condition p) (val (truth_value true))

-- the outcome that satisfies a policy
abbrev pub is_true : Option (Res V) → Bool
is_true (Some (val (prim (truth b)))) = b
is_true o = false

-- whether a policy is satisfied
abbrev pub satisfied : World → Policy → Bool
satisfied w p = is_true (policy_outcome w p)

abbrev pub permits : Effect → Bool
permits permit = true
permits forbid = false

-- the policies of one effect that are satisfied, in their order
abbrev pub satisfied_permits : World → List Policy → List Policy
satisfied_permits w ps = filter (λ p. permits p.effect && satisfied w p) ps

abbrev pub satisfied_forbids : World → List Policy → List Policy
satisfied_forbids w ps = filter (λ p. not (permits p.effect) && satisfied w p) ps

abbrev pub ids : List Policy → List Text
ids ps = map (λ p. p.id) ps

-- Allow if some permit and no forbid is satisfied, else Deny
abbrev pub decided : {A B : Type 0} → List A → List B → Decision
decided [] [] = deny
decided (p ∷ ps) [] = allow
decided ps (f ∷ fs) = deny

-- the satisfied forbids if there is one, else the satisfied permits
abbrev pub determining : List Policy → List Policy → List Policy
determining ps [] = ps
determining ps (f ∷ fs) = f ∷ fs

-- the error of a policy that errs
abbrev pub error_of : Text → Option (Res V) → List PolicyError
error_of id (Some (err f)) = record { id = id; fault = f } ∷ []
error_of id o = []

abbrev pub errors_of : World → List Policy → List PolicyError
errors_of w ps = flat_map (λ p. error_of p.id (policy_outcome w p)) ps

abbrev pub decision_of : World → List Policy → Decision
decision_of w ps = decided (satisfied_permits w ps) (satisfied_forbids w ps)

abbrev pub reasons_of : World → List Policy → List Text
reasons_of w ps = ids (determining (satisfied_permits w ps) (satisfied_forbids w ps))

-- The answer. Reasons and errors stand in policy order.
abbrev pub answer_of : World → List Policy → Answer
answer_of w ps = record { decision = decision_of w ps; reasons = reasons_of w ps; errors = errors_of w ps }

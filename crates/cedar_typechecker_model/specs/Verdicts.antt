-- What typing and levels say of a policy over its environments.
-- Rule: the acceptance rules; impossible policies; levels (docs/RULES.md).
use Rattle.std.specs.Prelude.{◌≡◌, ◌&&◌, ℕ, List, [], Contains, Bool, true, false, Option, Some, None}
use Rattle.std.specs.Option.{option_map_or}
use Rattle.std.specs.List.{list_all, flat_map, filter}
use Rattle.cedar_expr_model.specs.Name.{Name, name_eq}
use Rattle.cedar_expr_model.specs.Uid.{Uid, uid_eq}
use Rattle.cedar_expr_model.specs.Table.{Table}
use Rattle.cedar_expr_model.specs.Tree.{Tree}
use Rattle.cedar_store_model.specs.Policy.{Policy, Target, named, own_slot, Scope, any, exactly, inside, of_kind, of_kind_inside, condition}
use Rattle.cedar_schema_model.specs.Types.{BoolType, only_false, Ty, bool_type, Mode, strict}
use Rattle.cedar_schema_model.specs.Schema.{Schema}
use Rattle.cedar_schema_model.specs.Environment.{Environment, SlotUse, no_slot, equal_slot, in_slot, environments_for}
use Rattle.cedar_typechecker_model.specs.Facts.{Facts, no_facts}
use Rattle.cedar_typechecker_model.specs.Rules.{Setting}
use Rattle.cedar_typechecker_model.specs.Typing.{Types, type_of}
use Rattle.cedar_typechecker_model.specs.Levels.{Violation, violations}

-- how a part of a scope uses its slot
abbrev pub target_use : SlotUse → Target → SlotUse
target_use use_ (named u) = no_slot
target_use use_ own_slot = use_

abbrev pub scope_use : Scope → SlotUse
scope_use any = no_slot
scope_use (exactly t) = target_use equal_slot t
scope_use (inside t) = target_use in_slot t
scope_use (of_kind n) = no_slot
scope_use (of_kind_inside n t) = target_use in_slot t

-- the environments of a policy
abbrev pub policy_environments : Schema → Policy → List Environment
policy_environments s p = environments_for s (scope_use p.principal) (scope_use p.resource)

-- what a condition is typed in, and what it is typed in at the gate
abbrev pub in_mode : Mode → Schema → Table → Environment → Setting
in_mode m s x e = record { schema = s; table = x; mode = m; env = e }

abbrev pub strictly : Schema → Table → Environment → Setting
strictly s x e = in_mode strict s x e

-- the expression has a type of truth values, and the type False
abbrev pub HasBool : Setting → Tree → Type 0
HasBool s t = (b : BoolType) × (f : Facts) × Types s no_facts t (bool_type b) f

abbrev pub HasFalse : Setting → Tree → Type 0
HasFalse s t = (f : Facts) × Types s no_facts t (bool_type only_false) f

-- In each environment the condition has a type of truth values; in one of the two ways of typing, and at the gate.
abbrev pub PassesIn : Mode → Schema → Table → Policy → Type 0
PassesIn m s x p = (e : Environment) → Contains (policy_environments s p) e → HasBool (in_mode m s x e) (condition p)

abbrev pub Passes : Schema → Table → Policy → Type 0
Passes s x p = PassesIn strict s x p

-- In each environment the condition has the type False, or there is none: what is warned of where no bindings are seen.
abbrev pub IsWarned : Mode → Schema → Table → Policy → Type 0
IsWarned m s x p = (e : Environment) → Contains (policy_environments s p) e → HasFalse (in_mode m s x e) (condition p)

-- the slot of the environment, if it has one, has the type of the uid that is bound to it
abbrev pub fits_slot : Option Name → Option Uid → Bool
fits_slot None b = true
fits_slot (Some n) b = option_map_or (λ u. name_eq n u.kind) b false

-- the environment fits the bindings of the policy
abbrev pub fits : Policy → Environment → Bool
fits p e = fits_slot e.principal_slot p.bindings.principal && fits_slot e.resource_slot p.bindings.resource

-- Each environment that fits gives the type False, or none fits.
abbrev pub IsImpossible : Schema → Table → Policy → Type 0
IsImpossible s x p = (e : Environment) → Contains (policy_environments s p) e → fits p e ≡ true → HasFalse (strictly s x e) (condition p)

-- a principal type, an action and a resource type
pub record RequestType : Type 0 where
  pub principal : Name
  pub action : Uid
  pub resource : Name

abbrev pub is_of_request : RequestType → Environment → Bool
is_of_request r e = name_eq r.principal e.principal && (uid_eq r.action e.action && name_eq r.resource e.resource)

-- Each environment of a request's types that fits gives the type False, or none fits: the policy is irrelevant for the request's types.
abbrev pub IsIrrelevant : Schema → Table → RequestType → Policy → Type 0
IsIrrelevant s x r p = (e : Environment) → Contains (policy_environments s p) e → fits p e ≡ true → is_of_request r e ≡ true → HasFalse (strictly s x e) (condition p)

-- What the check of a policy in one environment says.
pub data Verdict : Type 0 where
  success irrelevant fail : Verdict

abbrev pub HasVerdict : Setting → Tree → Verdict → Type 0
HasVerdict s t success = (b : BoolType) × (f : Facts) × (b ≡ only_false → ⊥) × Types s no_facts t (bool_type b) f
HasVerdict s t irrelevant = HasFalse s t
HasVerdict s t fail = HasBool s t → ⊥

abbrev pub verdict_of : Option Ty → Verdict
verdict_of (Some (bool_type only_false)) = irrelevant
verdict_of (Some (bool_type b)) = success
verdict_of t = fail

-- whether a type, if there is one, is of truth values, and whether it is that of false alone
abbrev pub is_bool : Option Ty → Bool
is_bool (Some (bool_type b)) = true
is_bool t = false

abbrev pub is_false : Option Ty → Bool
is_false (Some (bool_type only_false)) = true
is_false t = false

abbrev pub condition_type : Schema → Table → Policy → Environment → Option Ty
condition_type s x p e = type_of (strictly s x e) (condition p)

abbrev pub passes_in : Mode → Schema → Table → Policy → Bool
passes_in m s x p = list_all (λ e. is_bool (type_of (in_mode m s x e) (condition p))) (policy_environments s p)

abbrev pub passes : Schema → Table → Policy → Bool
passes s x p = passes_in strict s x p

abbrev pub is_warned : Mode → Schema → Table → Policy → Bool
is_warned m s x p = list_all (λ e. is_false (type_of (in_mode m s x e) (condition p))) (policy_environments s p)

abbrev pub impossible : Schema → Table → Policy → Bool
impossible s x p = list_all (λ e. is_false (condition_type s x p e)) (filter (fits p) (policy_environments s p))

abbrev pub irrelevant_for : Schema → Table → RequestType → Policy → Bool
irrelevant_for s x r p = list_all (λ e. is_false (condition_type s x p e)) (filter (is_of_request r) (filter (fits p) (policy_environments s p)))

-- the violations of a policy at a level, in the environments in which its condition has a type; in one of the two ways of
-- typing, and at the gate
abbrev pub violations_in : Mode → ℕ → Schema → Table → Policy → Environment → List Violation
violations_in m n s x p e = option_map_or (λ _. violations n (in_mode m s x e) no_facts (condition p)) (type_of (in_mode m s x e) (condition p)) []

abbrev pub policy_violations_in : Mode → ℕ → Schema → Table → Policy → List Violation
policy_violations_in m n s x p = flat_map (violations_in m n s x p) (policy_environments s p)

abbrev pub policy_violations : ℕ → Schema → Table → Policy → List Violation
policy_violations n s x p = policy_violations_in strict n s x p

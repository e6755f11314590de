-- The environments of a schema: each declared action with each of its principal and resource types.
-- Rule: environments (docs/RULES.md).
use Rattle.std.specs.Prelude.{◌&&◌, List, [], ◌∷◌, map, not, Option, Some, None}
use Rattle.std.specs.List.{flat_map, filter}
use Rattle.cedar_expr_model.specs.Name.{Name, name_eq}
use Rattle.cedar_expr_model.specs.Uid.{Uid}
use Rattle.cedar_schema_model.specs.Types.{Attributes}
use Rattle.cedar_schema_model.specs.Schema.{Action, Schema}
use Rattle.cedar_schema_model.specs.Descent.{type_names, descends}

-- The types of the parts of a request; those of the slots are none where there is no slot.
pub record Environment : Type 0 where
  pub principal : Name
  pub action : Uid
  pub resource : Name
  pub context : Attributes
  pub principal_slot : Option Name
  pub resource_slot : Option Name

abbrev pub environment_at : Action → Name → Name → Environment
environment_at a p r = record { principal = p; action = a.uid; resource = r; context = a.context; principal_slot = None; resource_slot = None }

abbrev pub environments : Schema → List Environment
environments s = flat_map (λ a. flat_map (λ p. map (environment_at a p) a.resources) a.principals) s.actions

-- How a policy's scope uses the slot of a variable: not at all, in an equality, or after `in`.
pub data SlotUse : Type 0 where
  no_slot equal_slot in_slot : SlotUse

-- the other types that this one descends from
abbrev pub types_above : Schema → Name → List Name
types_above s n = filter (λ m. descends s n m && not (name_eq m n)) (type_names s)

-- The types that a slot takes, by its variable's type: that type where it is compared; after `in` each type above too.
abbrev pub slot_types : Schema → SlotUse → Name → List (Option Name)
slot_types s no_slot n = None ∷ []
slot_types s equal_slot n = Some n ∷ []
slot_types s in_slot n = map (λ m. Some m) (n ∷ types_above s n)

-- the environment with these types of the slots
abbrev pub with_slots : Environment → Option Name → Option Name → Environment
with_slots e p r = record e { principal_slot = p; resource_slot = r }

-- the environments of a policy that uses the two slots so
abbrev pub environments_for : Schema → SlotUse → SlotUse → List Environment
environments_for s p r = flat_map (λ e. flat_map (λ m. map (with_slots e m) (slot_types s r e.resource)) (slot_types s p e.principal)) (environments s)

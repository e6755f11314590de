-- How a part of a scope uses its slot, as the model's.
-- Rule: environments (docs/RULES.md).
use Rattle.std.specs.Prelude.{List, map, Option, option_map}
use Rattle.std.specs.List.{flat_map}
use Rattle.cedar_expr_model.specs.Name.{Name}
use Rattle.cedar_expr_names.specs.Views.{type_name_of}
use Rattle.cedar_expr_names.specs.declared.entity.EntityType.{EntityType}
use Rattle.cedar_schema_model.specs.Environment as model
use Rattle.cedar_schema_model.specs.Environment.{Environment, slot_types, with_slots}
use Rattle.cedar_schema_model.specs.Schema.{Schema}
use Rattle.cedar_typechecker_environments.specs.Settings.{environment_of}
use Rattle.cedar_typechecker_environments.specs.declared.request_env.RequestEnv.{RequestEnv}
use Rattle.cedar_typechecker_scopes.specs.declared.slot_use.SlotUse.{SlotUse}
use Rattle.cedar_typechecker_scopes.specs.declared.slot_use.SlotUse.TheVariants.{NoSlot, Equal, Inside}

abbrev pub use_of : SlotUse → model.SlotUse
use_of NoSlot = model.no_slot
use_of Equal = model.equal_slot
use_of Inside = model.in_slot

-- an environment with each type that its slots may take
abbrev pub linked_environments : Schema → model.SlotUse → model.SlotUse → Environment → List Environment
linked_environments s p r e = flat_map (λ m. map (with_slots e m) (slot_types s r e.resource)) (slot_types s p e.principal)

-- the types that a slot may take
abbrev pub slots_seen : List (Option EntityType) → List (Option Name)
slots_seen ts = map (λ t. option_map type_name_of t) ts

-- the environment with each of these types of the principal's slot and each of these of the resource's
abbrev pub with_each : Environment → List (Option Name) → List (Option Name) → List Environment
with_each e ps rs = flat_map (λ m. map (with_slots e m) rs) ps

-- each of these environments with each type that its slots may take
abbrev pub each_linked : Schema → model.SlotUse → model.SlotUse → List RequestEnv → List Environment
each_linked s p r es = flat_map (linked_environments s p r) (map environment_of es)

-- Environments, and what typing stands in, as the model's.
-- Rule: environments; typing (docs/RULES.md).
use Rattle.std.specs.Prelude.{◌≡◌, ◌++◌, List, map, Option, Some, None, option_map, if◌then◌else◌}
use Rattle.std.specs.Borrow.{Bor}
use Rattle.std.specs.declared.alloc.Global.{Global}
use Rattle.std.specs.declared.vec.Vec.{Vec}
use Rattle.cedar_expr_model.specs.Name.{Name}
use Rattle.cedar_expr_names.specs.Views.{type_name_of, uid_of}
use Rattle.cedar_expr_names.specs.declared.entity.EntityType.{EntityType}
use Rattle.cedar_expr_model.specs.Table.{Table}
use Rattle.cedar_store_model.specs.Policy.{SlotBindings}
use Rattle.cedar_store_parts.specs.Views.{KindSeen}
use Rattle.cedar_schema_model.specs.Schema.{Schema, declares_action}
use Rattle.cedar_schema_model.specs.Environment.{Environment, with_slots}
use Rattle.cedar_schema_model.specs.Types.{Ty, Attributes, entity_type}
use Rattle.cedar_schema_types.specs.Types.{attributes_of}
use Rattle.cedar_schema_joins.specs.Modes.{mode_of}
use Rattle.cedar_typechecker_model.specs.Rules.{Setting}
use Rattle.cedar_typechecker_environments.specs.declared.request_env.RequestEnv.{RequestEnv}
use Rattle.cedar_typechecker_environments.specs.declared.setting.World.{World}

abbrev pub environment_of : RequestEnv → Environment
environment_of e = record { principal = type_name_of e.principal; action = uid_of e.action; resource = type_name_of e.resource; context = attributes_of e.context; principal_slot = option_map type_name_of e.principal_slot; resource_slot = option_map type_name_of e.resource_slot }

abbrev pub setting_of : {S : Type 0} → (S → Schema) → (S → Table) → World S → Setting
setting_of schema table w = record { schema = schema w.schema.now; table = table w.schema.now; mode = mode_of w.mode; env = environment_of w.env.now }

-- the environment of a request of these types, whose context has these attributes, without slots
abbrev pub environment_without_slots : KindSeen → Attributes → Environment
environment_without_slots k as_ = record { principal = k.principal; action = k.action; resource = k.resource; context = as_; principal_slot = None; resource_slot = None }

-- the types of principal and resource, and the action
abbrev pub request_kind : Environment → KindSeen
request_kind e = record { principal = e.principal; action = e.action; resource = e.resource }

-- the environment whose slots have the types of what they are bound to
abbrev pub with_bound_types : Environment → SlotBindings → Environment
with_bound_types e b = with_slots e (option_map (λ u. u.kind) b.principal) (option_map (λ u. u.kind) b.resource)

-- the type of a slot, if it has one
abbrev pub slot_type_seen : Option (Bor EntityType) → Option Name
slot_type_seen t = option_map (λ n. type_name_of n.now) t

-- the type of the action, where the schema declares the action
abbrev pub action_type : Schema → Environment → Option Ty
action_type s e = if declares_action s e.action then Some (entity_type e.action.kind) else None

-- To the environments these are appended.
abbrev pub AddsEnvironments : Vec RequestEnv Global → Vec RequestEnv Global → List Environment → Type 0
AddsEnvironments old new es = map environment_of new.items ≡ map environment_of old.items ++ es

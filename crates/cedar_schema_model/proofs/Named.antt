-- Names for parts of the definitions that proofs take apart.
use Rattle.std.proofs.Common.{Bool, not, ◌&&◌, List, map, Option}
use Rattle.std.specs.Prelude.{option_and_then, if◌then◌else◌}
use Rattle.std.specs.Option.{option_map_or}
use Rattle.std.specs.List.{list_any, fold, flat_map}
use Rattle.cedar_expr_model.specs.Name.{Text, Name, name_eq}
use Rattle.cedar_expr_model.specs.Uid.{Uid}
use Rattle.cedar_expr_model.specs.Lists.{all_given}
use Rattle.cedar_expr_model.specs.Names.{is_unqualified}
use Rattle.cedar_schema_model.specs.Types.{Ty, never, Declared, Mode, Openness, is_open, is_closed}
use Rattle.cedar_schema_model.specs.Schema.{Schema, Action}
use Rattle.cedar_schema_model.specs.Descent.{action_uids, action_descends}
use Rattle.cedar_schema_model.specs.Environment.{Environment, environment_at, SlotUse, slot_types, with_slots}
use Rattle.cedar_schema_model.specs.Declarations.{Declarations, CommonDeclaration}
use Rattle.cedar_schema_model.specs.Resolved.{resolved_by}
use Rattle.cedar_schema_model.specs.Join.{join}
use Rattle.cedar_schema_model.specs.Lookup.{declared_of}

-- the environments of an action, and of an environment with a policy's slots
abbrev pub environments_of : Action → List Environment
environments_of a = flat_map (λ p. map (environment_at a p) a.resources) a.principals

abbrev pub linked : Schema → SlotUse → SlotUse → Environment → List Environment
linked s p r e = flat_map (λ m. map (with_slots e m) (slot_types s r e.resource)) (slot_types s p e.principal)

-- the action has a declared ancestor of the type
abbrev pub has_ancestor_of : Schema → Name → Uid → Bool
has_ancestor_of s n u = list_any (λ v. action_descends s u v && name_eq n v.kind) (action_uids s)

-- the type that a declaration of a common type defines
abbrev pub defined_by : (Name → Ty) → Declarations → Option CommonDeclaration → Ty
defined_by commons d o = option_map_or (λ c. resolved_by commons d c.namespace c.definition) o never

-- what each of these entity types declares of the attribute, if all do
abbrev pub all_declared : Schema → Text → List Name → Option (List Declared)
all_declared s a ns = all_given (declared_of s a) ns

-- the join of a type with these, one after the other
abbrev pub join_all : Mode → Option Ty → List Ty → Option Ty
join_all m o ts = fold (λ joined t. option_and_then (λ j. join m j t) joined) o ts

-- the name stands in a namespace that isn't the empty one
abbrev pub is_qualified : Name → Bool
is_qualified n = not (is_unqualified n)

-- a join of records is closed where all of this holds
abbrev pub openness_of_join : Bool → Openness
openness_of_join all_closed = if all_closed then is_closed else is_open

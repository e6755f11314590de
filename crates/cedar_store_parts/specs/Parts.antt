-- What the parts of code policies are as the model's: ids, effects, annotations, scopes and bindings.
-- Rule: policies and templates (docs/RULES.md).
use Rattle.std.specs.Prelude.{List, [], ◌∷◌, map, Option, Some, None, option_map}
use Rattle.std.specs.Rc.{rc_str_bytes}
use Rattle.cedar_expr_names.specs.Views.{any_id_text, type_name_of, type_loc, uid_of, uid_loc}
use Rattle.cedar_expr_names.specs.declared.any_id.AnyId.{AnyId}
use Rattle.cedar_expr_names.specs.declared.loc.Loc.{Loc}
use Rattle.cedar_expr_model.specs.Name.{Text}
use Rattle.cedar_expr_model.specs.Uid.{Uid}
use Rattle.cedar_expr_model.specs.Tree.{Var, principal, resource, SlotId, principal_slot, resource_slot}
use Rattle.cedar_store_model.specs.Policy as model
use Rattle.cedar_store_model.specs.Policy.{Target, named, own_slot, Scope, any, exactly, inside, of_kind, of_kind_inside, ActionScope, any_action, exactly_action, inside_actions, SlotBindings}
use Rattle.cedar_store_parts.specs.declared.policy_id.PolicyID.{PolicyID}
use Rattle.cedar_store_parts.specs.declared.policy_id.Effect.{Effect}
use Rattle.cedar_store_parts.specs.declared.policy_id.Effect.TheVariants.{Permit, Forbid}
use Rattle.cedar_store_parts.specs.declared.annotation.Annotation.{Annotation}
use Rattle.cedar_store_parts.specs.declared.annotation.Annotations.{Annotations}
use Rattle.cedar_store_parts.specs.declared.constraint.PrincipalOrResource.{PrincipalOrResource}
use Rattle.cedar_store_parts.specs.declared.constraint.PrincipalOrResource.TheVariants.{Principal, Resource}
use Rattle.cedar_store_parts.specs.declared.constraint.EntityReference.{EntityReference}
use Rattle.cedar_store_parts.specs.declared.constraint.EntityReference.TheVariants.{EUID, Slot}
use Rattle.cedar_store_parts.specs.declared.constraint.PrincipalOrResourceConstraint.{PrincipalOrResourceConstraint}
use Rattle.cedar_store_parts.specs.declared.constraint.PrincipalOrResourceConstraint.TheVariants as asked
use Rattle.cedar_store_parts.specs.declared.constraint.ActionConstraint.{ActionConstraint}
use Rattle.cedar_store_parts.specs.declared.constraint.ActionConstraint.TheVariants as asked_action
use Rattle.cedar_store_parts.specs.declared.slot_env.SlotEnv.{SlotEnv}

-- the text of an id
abbrev pub id_text : PolicyID → Text
id_text id = rc_str_bytes id.0

abbrev pub effect_of : Effect → model.Effect
effect_of Permit = model.permit
effect_of Forbid = model.forbid

-- the text of an annotation
abbrev pub annotation_text : Annotation → Text
annotation_text a = rc_str_bytes a.val

-- an annotation with its name
abbrev pub annotation_pair : AnyId × Annotation → Text × Text
annotation_pair e = (any_id_text e.0, annotation_text e.1)

abbrev pub annotations_of : Annotations → List (Text × Text)
annotations_of a = map annotation_pair a.0.entries

-- the text of an annotation and its place, and the annotation with its name
abbrev pub annotation_seen : Annotation → Text × Option Loc
annotation_seen a = (annotation_text a, a.loc)

abbrev pub seen_pair : AnyId × Annotation → Text × (Text × Option Loc)
seen_pair e = (any_id_text e.0, annotation_seen e.1)

abbrev pub annotations_seen : Annotations → List (Text × (Text × Option Loc))
annotations_seen a = map seen_pair a.0.entries

-- the variable and the slot of a part of a scope
abbrev pub part_var : PrincipalOrResource → Var
part_var Principal = principal
part_var Resource = resource

abbrev pub part_slot : PrincipalOrResource → SlotId
part_slot Principal = principal_slot
part_slot Resource = resource_slot

-- what a part of a scope names
abbrev pub target_of : EntityReference → Target
target_of (EUID u) = named (uid_of u.value)
target_of (Slot l) = own_slot

-- what it asks
abbrev pub scope_of : PrincipalOrResourceConstraint → Scope
scope_of asked.Any = any
scope_of (asked.In t) = inside (target_of t)
scope_of (asked.Eq t) = exactly (target_of t)
scope_of (asked.Is n) = of_kind (type_name_of n.value)
scope_of (asked.IsIn n t) = of_kind_inside (type_name_of n.value) (target_of t)

abbrev pub action_scope_of : ActionConstraint → ActionScope
action_scope_of asked_action.Any = any_action
action_scope_of (asked_action.In us) = inside_actions (map (λ u. uid_of u.value) us.items)
action_scope_of (asked_action.Eq u) = exactly_action (uid_of u.value)

-- the place of what a part of a scope names: that of its slot, and none of a uid
abbrev pub target_place : EntityReference → Option Loc
target_place (EUID u) = None
target_place (Slot l) = l

-- the place of the slot that stands there, where one does
abbrev pub target_places : EntityReference → List (Option Loc)
target_places (EUID u) = []
target_places (Slot l) = l ∷ []

abbrev pub scope_places : PrincipalOrResourceConstraint → List (Option Loc)
scope_places asked.Any = []
scope_places (asked.In t) = target_places t
scope_places (asked.Eq t) = target_places t
scope_places (asked.Is n) = []
scope_places (asked.IsIn n t) = target_places t

-- the place of the uid that a part of a scope names, where it names one
abbrev pub named_places : EntityReference → List (Option Loc)
named_places (EUID u) = uid_loc u.value ∷ []
named_places (Slot l) = []

-- the places of the entity type and of the uid that it asks for
abbrev pub scope_named_places : PrincipalOrResourceConstraint → List (Option Loc)
scope_named_places asked.Any = []
scope_named_places (asked.In t) = named_places t
scope_named_places (asked.Eq t) = named_places t
scope_named_places (asked.Is n) = type_loc n.value ∷ []
scope_named_places (asked.IsIn n t) = type_loc n.value ∷ named_places t

-- the places of the actions that a scope asks for
abbrev pub action_places : ActionConstraint → List (Option Loc)
action_places asked_action.Any = []
action_places (asked_action.In us) = map (λ u. uid_loc u.value) us.items
action_places (asked_action.Eq u) = uid_loc u.value ∷ []

-- the place of the uid that takes the place of a slot, where a slot stands and is bound
abbrev pub places_bound : List (Option Loc) → Option (Option Loc) → List (Option Loc)
places_bound [] bound = []
places_bound (l ∷ ls) None = []
places_bound (l ∷ ls) (Some m) = m ∷ []

-- the places that are left where the slot may be bound
abbrev pub places_left : {A : Type 0} → Option A → List (Option Loc) → List (Option Loc)
places_left (Some u) ls = []
places_left None ls = ls

-- what a target names where its slot is bound so, and what is then asked
abbrev pub filled_target : Option Uid → Target → Target
filled_target bound (named u) = named u
filled_target (Some u) own_slot = named u
filled_target None own_slot = own_slot

abbrev pub filled : Option Uid → Scope → Scope
filled bound any = any
filled bound (exactly t) = exactly (filled_target bound t)
filled bound (inside t) = inside (filled_target bound t)
filled bound (of_kind n) = of_kind n
filled bound (of_kind_inside n t) = of_kind_inside n (filled_target bound t)

-- what the slots are bound to
abbrev pub bindings_of : SlotEnv → SlotBindings
bindings_of b = record { principal = option_map (λ u. uid_of u.value) b.principal; resource = option_map (λ u. uid_of u.value) b.resource }

-- the bindings with one slot bound to the uid
abbrev pub with_binding : SlotBindings → SlotId → Uid → SlotBindings
with_binding b principal_slot u = record b { principal = Some u }
with_binding b resource_slot u = record b { resource = Some u }

-- the places of the uids that the slots are bound to
pub record BindingPlaces : Type 0 where
  pub principal : Option (Option Loc)
  pub resource : Option (Option Loc)

abbrev pub binding_places : SlotEnv → BindingPlaces
binding_places b = record { principal = option_map (λ u. uid_loc u.value) b.principal; resource = option_map (λ u. uid_loc u.value) b.resource }

-- the place of the uid that one slot is bound to
abbrev pub place_bound : BindingPlaces → SlotId → Option (Option Loc)
place_bound b principal_slot = b.principal
place_bound b resource_slot = b.resource

-- the places where one slot is bound to a uid at this place
abbrev pub with_place : BindingPlaces → SlotId → Option Loc → BindingPlaces
with_place b principal_slot l = record b { principal = Some l }
with_place b resource_slot l = record b { resource = Some l }

-- Policies, templates, and their condition.
-- Rule: conditions; policies and templates (docs/RULES.md).
use Rattle.std.specs.Prelude.{◌==◌, List, map, Bool, true, Option, None, unwrap_or, [], ◌∷◌}
use Rattle.std.specs.List.{list_any}
use Rattle.cedar_expr_model.specs.Name.{Text, Name}
use Rattle.cedar_expr_model.specs.Uid.{Uid}
use Rattle.cedar_expr_model.specs.Value.{truth, entity}
use Rattle.cedar_expr_model.specs.Tree.{Var, principal, action, resource, SlotId, principal_slot, resource_slot, equal, is_in, Tree, lit, var, slot, binary, is_type, set_literal}
use Rattle.cedar_expr_model.specs.Builder.{conjunction, trees}
use Rattle.cedar_expr_model.specs.Parts.{slots}
use Rattle.cedar_expr_model.specs.Shape.{slot_rank}

pub data Effect : Type 0 where
  permit forbid : Effect

-- what a part of a scope names: a uid, or the slot of its variable
pub data Target : Type 0 where
  named : Uid → Target
  own_slot : Target

-- The principal or resource part of a scope: any entity, the target, what is in the target, what has the type, or what has
-- the type and is in the target.
pub data Scope : Type 0 where
  any : Scope
  exactly inside : Target → Scope
  of_kind : Name → Scope
  of_kind_inside : Name → Target → Scope

-- The action part: any action, the action, or what is in one of the actions.
pub data ActionScope : Type 0 where
  any_action : ActionScope
  exactly_action : Uid → ActionScope
  inside_actions : List Uid → ActionScope

-- what the slots are bound to
pub record SlotBindings : Type 0 where
  pub principal : Option Uid
  pub resource : Option Uid

-- A policy. A template is one that binds none of its slots.
pub record Policy : Type 0 where
  pub id : Text
  pub effect : Effect
  pub annotations : List (Text × Text)
  pub principal : Scope
  pub action : ActionScope
  pub resource : Scope
  pub body : Option Tree
  pub bindings : SlotBindings

abbrev pub binding_of : SlotBindings → SlotId → Option Uid
binding_of b principal_slot = b.principal
binding_of b resource_slot = b.resource

abbrev pub no_bindings : SlotBindings
no_bindings = record { principal = None; resource = None }

-- a target as an expression
abbrev pub target_tree : SlotId → Target → Tree
target_tree s (named u) = lit (entity u)
target_tree s own_slot = slot s

-- what a part of a scope asks of its variable, whose slot this is
abbrev pub scope_tree : Var → SlotId → Scope → Tree
scope_tree x s any = lit (truth true)
scope_tree x s (exactly t) = binary equal (var x) (target_tree s t)
scope_tree x s (inside t) = binary is_in (var x) (target_tree s t)
scope_tree x s (of_kind n) = is_type (var x) n
scope_tree x s (of_kind_inside n t) = conjunction (is_type (var x) n) (binary is_in (var x) (target_tree s t))

-- what the action part asks; of several actions it asks for their set
abbrev pub action_tree : ActionScope → Tree
action_tree any_action = lit (truth true)
action_tree (exactly_action u) = binary equal (var action) (lit (entity u))
action_tree (inside_actions us) = binary is_in (var action) (set_literal (trees (map (λ u. lit (entity u)) us)))

-- a policy without a body has the body `true`
abbrev pub body_tree : Option Tree → Tree
body_tree body = unwrap_or body (lit (truth true))

-- The condition: principal, action and resource part, then the body, joined from the right.
abbrev pub condition : Policy → Tree
condition p = conjunction (scope_tree principal principal_slot p.principal) (conjunction (action_tree p.action) (conjunction (scope_tree resource resource_slot p.resource) (body_tree p.body)))

-- the slots that there are
abbrev pub all_slots : List SlotId
all_slots = principal_slot ∷ resource_slot ∷ []

-- the slot stands in the expression
abbrev pub tree_uses : Tree → SlotId → Bool
tree_uses t s = list_any (λ r. slot_rank s == slot_rank r) (slots t)

-- the slots of a policy: those of its scope and those of its body
abbrev pub has_slot : Policy → SlotId → Bool
has_slot p s = tree_uses (condition p) s

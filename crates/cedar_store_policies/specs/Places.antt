-- What the model's policy doesn't see of the parts of a template: their places.
-- Rule: policies and templates (docs/RULES.md).
use Rattle.std.specs.Prelude.{List, [], ◌++◌, map, Option, unwrap_or}
use Rattle.std.specs.List.{filter_map}
use Rattle.cedar_expr_model.specs.Name.{Text}
use Rattle.cedar_expr_model.specs.Tree.{SlotId, principal_slot, resource_slot}
use Rattle.cedar_expr_names.specs.declared.loc.Loc.{Loc}
use Rattle.cedar_expr_trees.specs.Positions.{positions, slot_at}
use Rattle.cedar_expr_trees.specs.Trees.{place_of}
use Rattle.cedar_expr_trees.specs.declared.expr.Expr.{Expr}
use Rattle.cedar_store_parts.specs.Parts.{annotations_seen, scope_places, scope_named_places, action_places}
use Rattle.cedar_store_parts.specs.declared.annotation.Annotations.{Annotations}
use Rattle.cedar_store_parts.specs.declared.constraint.PrincipalConstraint.{PrincipalConstraint}
use Rattle.cedar_store_parts.specs.declared.constraint.ResourceConstraint.{ResourceConstraint}
use Rattle.cedar_store_parts.specs.declared.constraint.ActionConstraint.{ActionConstraint}

-- The places: that of the whole, those of the annotations, those of the slots of the principal's and of the resource's part, the
-- slots of the body with theirs, those of the entity types and uids that the three parts of the scope name, and those of all
-- subexpressions of the body, in order.
pub record Places : Type 0 where
  pub own : Option Loc
  pub annotations : List (Text × (Text × Option Loc))
  pub principal : List (Option Loc)
  pub resource : List (Option Loc)
  pub body : List (SlotId × Option Loc)
  pub principal_named : List (Option Loc)
  pub action_named : List (Option Loc)
  pub resource_named : List (Option Loc)
  pub nodes : List (Option Loc)

-- the slots of an expression, each occurrence, with their places
abbrev pub slots_within : {T : Type 0} → Expr T → List (SlotId × Option Loc)
slots_within e = filter_map slot_at (positions e)

-- the places of all subexpressions of an expression
abbrev pub nodes_within : {T : Type 0} → Expr T → List (Option Loc)
nodes_within e = map place_of (positions e)

-- the places of a template of these parts, with the slots and the places of all subexpressions of its body
abbrev pub places_made : Option Loc → Annotations → PrincipalConstraint → ActionConstraint → ResourceConstraint → Option (List (SlotId × Option Loc)) → Option (List (Option Loc)) → Places
places_made loc annotations p a r body nodes = record {
  own = loc;
  annotations = annotations_seen annotations;
  principal = scope_places p.constraint;
  resource = scope_places r.constraint;
  body = unwrap_or body [];
  principal_named = scope_named_places p.constraint;
  action_named = action_places a;
  resource_named = scope_named_places r.constraint;
  nodes = unwrap_or nodes [];
}

-- a slot at each of these places
abbrev pub slots_at : SlotId → List (Option Loc) → List (SlotId × Option Loc)
slots_at s ls = map (λ l. (s, l)) ls

-- the slots of a template, each occurrence, with their places: those of the scope, and then those of the body
abbrev pub slots_placed : Places → List (SlotId × Option Loc)
slots_placed p = slots_at principal_slot p.principal ++ (slots_at resource_slot p.resource ++ p.body)

-- What the law of descent says.
-- Rule: descent (docs/RULES.md).
use Rattle.std.specs.Prelude.{◌↔◌, List, map}
use Rattle.cedar_expr_model.specs.Name.{Name}
use Rattle.cedar_expr_model.specs.Uid.{Uid}
use Rattle.cedar_schema_model.specs.Schema.{EntityType, Action, Schema}
use Rattle.cedar_schema_model.specs.Descent.{Reaches, Descends, ActionDescends}
use Rattle.cedar_schema_resolver.specs.Descent.{HasParentIn}

-- the entity types, and the actions, with their parents
abbrev pub types_with_parents : Schema → List (Name × List Name)
types_with_parents s = map (λ (t : EntityType). (t.name, t.parents)) s.types

abbrev pub actions_with_parents : Schema → List (Uid × List Uid)
actions_with_parents s = map (λ (a : Action). (a.uid, a.parents)) s.actions

-- To descend among them is to descend in the schema.
abbrev pub TypesDescendSo : Type 0
TypesDescendSo = (s : Schema) (m n : Name) → Reaches (HasParentIn (types_with_parents s)) m n ↔ Descends s m n

abbrev pub ActionsDescendSo : Type 0
ActionsDescendSo = (s : Schema) (u v : Uid) → Reaches (HasParentIn (actions_with_parents s)) u v ↔ ActionDescends s u v

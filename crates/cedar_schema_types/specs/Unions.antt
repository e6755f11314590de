-- What the code's unions and types of entities are in the model.
-- Rule: types (docs/RULES.md).
use Rattle.std.specs.Prelude.{List, [], ◌∷◌, Option, Some, None, map}
use Rattle.cedar_expr_model.specs.Name.{Name}
use Rattle.cedar_expr_names.specs.Views.{type_name_of}
use Rattle.cedar_schema_model.specs.Types.{Ty, any_entity, entity_types}
use Rattle.cedar_schema_types.specs.declared.entity_lub.EntityLUB.{EntityLUB}
use Rattle.cedar_schema_types.specs.declared.entity_kind.EntityKind.{EntityKind}
use Rattle.cedar_schema_types.specs.declared.entity_kind.EntityKind.TheVariants.{AnyEntity, Entity}

-- the names of a union, rising
abbrev pub members_of : EntityLUB → List Name
members_of u = map type_name_of u.lub_elements.value.keys

-- the name of a union of one entity type alone
abbrev pub only_member : List Name → Option Name
only_member [] = None
only_member (n ∷ []) = Some n
only_member (n ∷ m ∷ ns) = None

-- the type of some entities
abbrev pub entities_of : EntityKind → Ty
entities_of AnyEntity = any_entity
entities_of (Entity u) = entity_types (members_of u)

-- The entity types of an entity, and of what may stand on the right of `in`, as the model's.
-- Rule: typing (docs/RULES.md).
use Rattle.std.specs.Prelude.{List, [], Option, Some, None, ◌||◌, Bool}
use Rattle.std.specs.List.{list_any}
use Rattle.cedar_expr_model.specs.Name.{Name, name_eq}
use Rattle.cedar_schema_model.specs.Descent.{type_descends}
use Rattle.cedar_schema_model.specs.Schema.{Schema}
use Rattle.cedar_schema_types.specs.Unions.{members_of}
use Rattle.cedar_schema_types.specs.declared.entity_kind.EntityKind.{EntityKind}
use Rattle.cedar_schema_types.specs.declared.entity_kind.EntityKind.TheVariants.{AnyEntity, Entity}
use Rattle.cedar_typechecker_rules.specs.declared.inclusion.Holders.{Holders}
use Rattle.cedar_typechecker_rules.specs.declared.inclusion.Holders.TheVariants.{Kind, Nothing}

abbrev pub kinds_of : EntityKind → Option (List Name)
kinds_of AnyEntity = None
kinds_of (Entity u) = Some (members_of u)

abbrev pub holders_of : Holders → Option (List Name)
holders_of (Kind k) = kinds_of k.now
holders_of Nothing = Some []

-- the entity type is one of these, or descends from one
abbrev pub is_among_or_below : Schema → List Name → Name → Bool
is_among_or_below s ns m = list_any (λ n. name_eq m n || type_descends s m n) ns

-- What a built schema keeps, and what is read from it, in the model's words.
-- Rule: schemas; environments (docs/RULES.md).
use Rattle.std.specs.Prelude.{List, map}
use Rattle.std.specs.Borrow.{Bor}
use Rattle.cedar_expr_model.specs.Name.{Name}
use Rattle.cedar_expr_names.specs.Views.{type_name_of, uid_of}
use Rattle.cedar_expr_names.specs.declared.entity.EntityType.{EntityType as CodeType}
use Rattle.cedar_store_parts.specs.declared.request_type.RequestType.{RequestType}
use Rattle.cedar_schema_model.specs.Kept.{Kept, RequestKind, Elsewhere, type_elsewhere, action_elsewhere}
use Rattle.cedar_schema_built.specs.Entries.{types_in, actions_in}
use Rattle.cedar_schema_built.specs.declared.schema.ValidatorSchema.{ValidatorSchema}
use Rattle.cedar_schema_built.specs.declared.unresolved.UnresolvedDeclaration.{UnresolvedDeclaration}
use Rattle.cedar_schema_built.specs.declared.unresolved.UnresolvedDeclaration.TheVariants.{EntityType, Action}

abbrev pub schema_kept : ValidatorSchema → Kept
schema_kept s = record { types = types_in s.entity_types.entries; actions = actions_in s.action_ids.entries }

abbrev pub request_kind : RequestType → RequestKind
request_kind r = record { principal = type_name_of r.principal; action = uid_of r.action; resource = type_name_of r.resource }

abbrev pub unresolved_seen : UnresolvedDeclaration → Elsewhere
unresolved_seen (EntityType t) = type_elsewhere (type_name_of t.now)
unresolved_seen (Action u) = action_elsewhere (uid_of u.now)

-- the names of entity types
abbrev pub names_of_types : List (Bor CodeType) → List Name
names_of_types ts = map (λ t. type_name_of t.now) ts

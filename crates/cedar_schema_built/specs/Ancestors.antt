-- Which entity types each entity type descends from, and which actions each action, as they are gathered by name and by uid.
-- Rule: descent; action entities (docs/RULES.md).
use Rattle.std.specs.Prelude.{List, Option}
use Rattle.std.specs.Cmp.Lexicographic.{slice_cmp}
use Rattle.std.specs.Ordering.{nat_cmp, ordering_then}
use Rattle.std.specs.declared.cmp.Ordering.{Ordering}
use Rattle.std.specs.declared.alloc.Global.{Global}
use Rattle.std.specs.declared.vec.Vec.{Vec}
use Rattle.cedar_expr_model.specs.Name.{name_eq}
use Rattle.cedar_expr_model.specs.Uid.{uid_eq}
use Rattle.cedar_expr_names.specs.Views.{name_bytes, eid_text, type_name_of, uid_of}
use Rattle.cedar_expr_names.specs.declared.entity.EntityType.{EntityType}
use Rattle.cedar_expr_names.specs.declared.entity.EntityUID.{EntityUID}
use Rattle.cedar_schema_model.specs.Kept.{KeptType, KeptAction}
use Rattle.cedar_schema_built.specs.Above.{IsAddedBelow, AreAbove}

-- the order of entity types, and of uids, in a map
abbrev pub types_by : EntityType → EntityType → Ordering
types_by s t = slice_cmp nat_cmp (name_bytes s.0.internal) (name_bytes t.0.internal)

abbrev pub uids_by : EntityUID → EntityUID → Ordering
uids_by u v = ordering_then (slice_cmp nat_cmp (name_bytes u.entity_type.0.internal) (name_bytes v.entity_type.0.internal)) (slice_cmp nat_cmp (eid_text u.eid) (eid_text v.eid))

-- under each of those that descend from the entity type it is one more
abbrev pub TypeIsAddedBelow : KeptType → (EntityType → Option (Vec EntityType Global)) → (EntityType → Option (Vec EntityType Global)) → Type 0
TypeIsAddedBelow = IsAddedBelow name_eq (λ (t : KeptType). t.name) (λ t. t.descendants) type_name_of

-- under each name are those of the entity types that it descends from
abbrev pub TypesAreAbove : List KeptType → (EntityType → Option (Vec EntityType Global)) → Type 0
TypesAreAbove = AreAbove name_eq (λ (t : KeptType). t.name) (λ t. t.descendants) type_name_of

-- under the uid of each of those that descend from the action it is one more, and under each uid are those of the actions that it descends
-- from
abbrev pub ActionIsAddedBelow : KeptAction → (EntityUID → Option (Vec EntityUID Global)) → (EntityUID → Option (Vec EntityUID Global)) → Type 0
ActionIsAddedBelow = IsAddedBelow uid_eq (λ (a : KeptAction). a.uid) (λ a. a.descendants) uid_of

abbrev pub ActionsAreAbove : List KeptAction → (EntityUID → Option (Vec EntityUID Global)) → Type 0
ActionsAreAbove = AreAbove uid_eq (λ (a : KeptAction). a.uid) (λ a. a.descendants) uid_of

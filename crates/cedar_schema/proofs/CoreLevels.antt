-- One level of a type by which values can be read: the type of the model that it gives, and what the derived equality makes of two.
use denote.Hole.Carrier
use mathlib.Core.Bool.{Bool as Truth}
use Rattle.std.proofs.Common.{◌≡◌, ◌&&◌, true, false, sym, ap, ◌∙◌}
use Rattle.std.specs.Bool.{beq}
use Rattle.std.specs.Cmp.Lexicographic.{pointwise}
use Rattle.std.specs.Rc.{rc_str_bytes}
use Rattle.std.specs.Str.{bytes_eq}
use Rattle.std.specs.declared.alloc.Global.{Global}
use Rattle.std.specs.declared.rc.RcStr.{RcStr}
use Rattle.cedar_expr_names.specs.Views.{plain_name_of, type_name_of}
use Rattle.cedar_expr_names.specs.contracts.entity.EntityTypePartialEq.TheImpl as entity_equality
use Rattle.cedar_expr_names.specs.contracts.name.NamePartialEq.TheImpl as name_equality
use Rattle.cedar_schema_types.specs.CoreTypes as model
use Rattle.cedar_schema_types.specs.CoreTypes.{CoreType, core_bool, core_long, core_string, core_empty_set, core_set, core_record, core_entity, core_extension}
use Rattle.cedar_schema_types.specs.Views.{core_type_of, core_attributes_of, core_entries}
use Rattle.cedar_schema_types.specs.contracts.core_types.CoreAttributeTypePartialEq.TheImpl as declared_equality
use Rattle.cedar_schema_types.specs.contracts.core_types.CoreAttributeTypePartialEq.TheImpl.Laws as declared_laws
use Rattle.cedar_schema_types.specs.contracts.core_types.CoreAttributesPartialEq.TheImpl as attributes_equality
use Rattle.cedar_schema_types.specs.contracts.core_types.CoreAttributesPartialEq.TheImpl.Laws as attributes_laws
use Rattle.cedar_schema_types.specs.contracts.core_types.CoreSchemaTypePartialEq.TheImpl as core_equality
use Rattle.cedar_schema_types.specs.contracts.core_types.CoreSchemaTypePartialEq.TheImpl.Laws as core_laws
use Rattle.cedar_schema_types.specs.declared.core_types.CoreAttributeType.{CoreAttributeType}
use Rattle.cedar_schema_types.specs.declared.core_types.CoreAttributes.{CoreAttributes, CoreAttributes', out-CoreAttributes}
use Rattle.cedar_schema_types.specs.declared.core_types.CoreSchemaType.{CoreSchemaType, CoreSchemaType-F, out-CoreSchemaType, roll-CoreSchemaType, roll-out-CoreSchemaType, Bool, Long, String, Set', EmptySet, Record, Entity, Extension}
use Rattle.cedar_schema_types.specs.declared.core_types.CoreSchemaType.TheVariants.{rolls-Bool, rolls-Long, rolls-String, rolls-Set, rolls-EmptySet, rolls-Record, rolls-Entity, rolls-Extension}

-- the type of a level, by what stands in it
abbrev pub core_level : {K E A : Type 0} → (K → CoreType) → (A → model.CoreAttributes) → CoreSchemaType-F K E A → CoreType
core_level V W CoreSchemaType-F.Bool = core_bool
core_level V W CoreSchemaType-F.Long = core_long
core_level V W CoreSchemaType-F.String = core_string
core_level V W (CoreSchemaType-F.Set p) = core_set (V p.value)
core_level V W CoreSchemaType-F.EmptySet = core_empty_set
core_level V W (CoreSchemaType-F.Record as_ o) = core_record (W as_) o
core_level V W (CoreSchemaType-F.Entity t) = core_entity (type_name_of t)
core_level V W (CoreSchemaType-F.Extension n) = core_extension (plain_name_of n)

-- two levels, by equalities of the types and of the attributes in them
abbrev pub core_level_eq : {K E A : Type 0} → (K → K → Truth) → (A → A → Truth) → CoreSchemaType-F K E A → CoreSchemaType-F K E A → Truth
core_level_eq R Q CoreSchemaType-F.Bool CoreSchemaType-F.Bool = true
core_level_eq R Q CoreSchemaType-F.Long CoreSchemaType-F.Long = true
core_level_eq R Q CoreSchemaType-F.String CoreSchemaType-F.String = true
core_level_eq R Q (CoreSchemaType-F.Set p) (CoreSchemaType-F.Set q) = R p.value q.value
core_level_eq R Q CoreSchemaType-F.EmptySet CoreSchemaType-F.EmptySet = true
core_level_eq R Q (CoreSchemaType-F.Record as_ o) (CoreSchemaType-F.Record bs p) = Q as_ bs && beq o p
core_level_eq R Q (CoreSchemaType-F.Entity s) (CoreSchemaType-F.Entity t) = (entity_equality.ghosts).eq s t
core_level_eq R Q (CoreSchemaType-F.Extension m) (CoreSchemaType-F.Extension n) = (name_equality.ghosts).eq m n
core_level_eq R Q a b = false

-- the type of the model is that of the level
pub core_rolled : (x : CoreSchemaType-F CoreSchemaType CoreAttributeType CoreAttributes) → core_type_of (roll-CoreSchemaType x) ≡ core_level core_type_of core_attributes_of x
core_rolled CoreSchemaType-F.Bool = ap core_type_of rolls-Bool
core_rolled CoreSchemaType-F.Long = ap core_type_of rolls-Long
core_rolled CoreSchemaType-F.String = ap core_type_of rolls-String
core_rolled (CoreSchemaType-F.Set p) = ap core_type_of (rolls-Set p)
core_rolled CoreSchemaType-F.EmptySet = ap core_type_of rolls-EmptySet
core_rolled (CoreSchemaType-F.Record as_ o) = ap core_type_of (rolls-Record as_ o)
core_rolled (CoreSchemaType-F.Entity t) = ap core_type_of (rolls-Entity t)
core_rolled (CoreSchemaType-F.Extension n) = ap core_type_of (rolls-Extension n)

pub core_seen : (a : CoreSchemaType) → core_type_of a ≡ core_level core_type_of core_attributes_of (out-CoreSchemaType a)
core_seen a = ap core_type_of (sym (roll-out-CoreSchemaType a)) ∙ core_rolled (out-CoreSchemaType a)

-- the derived equalities
abbrev pub core_by : CoreSchemaType → CoreSchemaType → Truth
core_by = (core_equality.ghosts).eq

abbrev pub core_attributes_by : CoreAttributes → CoreAttributes → Truth
core_attributes_by = (attributes_equality.ghosts).eq

abbrev pub core_declared_by : CoreAttributeType → CoreAttributeType → Truth
core_declared_by = (declared_equality.ghosts).eq

-- types, attributes and what is declared of one are compared level by level
pub core_is : (a b : CoreSchemaType) → core_by a b ≡ core_level_eq core_by core_attributes_by (out-CoreSchemaType a) (out-CoreSchemaType b)
unfolding out-CoreSchemaType Carrier.out
core_is Bool Bool = core_laws.is Bool Bool
core_is Long Long = core_laws.is Long Long
core_is String String = core_laws.is String String
core_is (Set' p t) (Set' q u) = core_laws.is (Set' p t) (Set' q u)
core_is EmptySet EmptySet = core_laws.is EmptySet EmptySet
core_is (Record as_ o) (Record bs p) = core_laws.is (Record as_ o) (Record bs p)
core_is (Entity s) (Entity t) = core_laws.is (Entity s) (Entity t)
core_is (Extension m) (Extension n) = core_laws.is (Extension m) (Extension n)
core_is a b = core_laws.is a b

-- names and then what is declared
abbrev pub core_entry_by : (CoreAttributeType → CoreAttributeType → Truth) → RcStr Global × CoreAttributeType → RcStr Global × CoreAttributeType → Truth
core_entry_by E p q = bytes_eq (rc_str_bytes p.0) (rc_str_bytes q.0) && E p.1 q.1

pub core_attributes_is : (as_ bs : CoreAttributes) → core_attributes_by as_ bs ≡ pointwise (core_entry_by core_declared_by) (core_entries as_) (core_entries bs)
unfolding out-CoreAttributes Carrier.out
core_attributes_is (CoreAttributes' p s r) (CoreAttributes' q t w) = attributes_laws.is (CoreAttributes' p s r) (CoreAttributes' q t w)

pub core_declared_is : (d e : CoreAttributeType) → core_declared_by d e ≡ (core_by d.attr_type e.attr_type && beq d.required e.required)
core_declared_is d e = declared_laws.is d e

-- One level of a type: the model's type that it gives, and what the derived equality makes of two.
use denote.Hole.Carrier
use mathlib.Core.Bool.{Bool as Truth}
use Rattle.std.proofs.Common.{◌≡◌, ◌&&◌, true, false, Some, None, sym, ap, ◌∙◌}
use Rattle.std.specs.Bool.{beq}
use Rattle.std.specs.Cmp.Lexicographic.{pointwise}
use Rattle.std.specs.Option.{option_eq}
use Rattle.std.specs.Rc.{rc_str_bytes}
use Rattle.std.specs.Str.{bytes_eq}
use Rattle.std.specs.declared.alloc.Global.{Global}
use Rattle.std.specs.declared.rc.RcStr.{RcStr}
use Rattle.cedar_expr_names.specs.Views.{plain_name_of}
use Rattle.cedar_expr_names.specs.contracts.name.NamePartialEq.TheImpl as name_equality
use Rattle.cedar_schema_model.specs.Types as model
use Rattle.cedar_schema_model.specs.Types.{Ty, never, bool_type, long_type, string_type, any_set, set_type, record_type, extension_type}
use Rattle.cedar_schema_types.specs.Kinds.{bool_type_of, openness_of}
use Rattle.cedar_schema_types.specs.Types.{type_of, attributes_of, entries_of}
use Rattle.cedar_schema_types.specs.Unions.{entities_of}
use Rattle.cedar_schema_types.specs.contracts.entity_kind.EntityKindPartialEq.TheImpl as entities_equality
use Rattle.cedar_schema_types.specs.contracts.kinds.BoolTypePartialEq.TheImpl as bool_equality
use Rattle.cedar_schema_types.specs.contracts.kinds.OpenTagPartialEq.TheImpl as tag_equality
use Rattle.cedar_schema_types.specs.contracts.types.AttributeTypePartialEq.TheImpl as declared_equality
use Rattle.cedar_schema_types.specs.contracts.types.AttributeTypePartialEq.TheImpl.Laws as declared_laws
use Rattle.cedar_schema_types.specs.contracts.types.AttributesPartialEq.TheImpl as attributes_equality
use Rattle.cedar_schema_types.specs.contracts.types.AttributesPartialEq.TheImpl.Laws as attributes_laws
use Rattle.cedar_schema_types.specs.contracts.types.TypePartialEq.TheImpl as type_equality
use Rattle.cedar_schema_types.specs.contracts.types.TypePartialEq.TheImpl.Laws as type_laws
use Rattle.cedar_schema_types.specs.declared.types.AttributeType.{AttributeType}
use Rattle.cedar_schema_types.specs.declared.types.Attributes.{Attributes, Attributes', out-Attributes}
use Rattle.cedar_schema_types.specs.declared.types.Type.{«Type» as CodeType, Type-F, out-Type, roll-Type, roll-out-Type, Never, Bool, Long, String, Entity, Set', Record, ExtensionType, None', Some'}
use Rattle.cedar_schema_types.specs.declared.types.Type.TheVariants.{rolls-Never, rolls-Bool, rolls-Long, rolls-String, rolls-Entity, rolls-Set, rolls-Record, rolls-ExtensionType}

-- the type of a level, by what stands in it
abbrev pub level_type : {K E A : Type 0} → (K → Ty) → (A → model.Attributes) → Type-F K E A → Ty
level_type V W Type-F.Never = never
level_type V W (Type-F.Bool b) = bool_type (bool_type_of b)
level_type V W Type-F.Long = long_type
level_type V W Type-F.String = string_type
level_type V W (Type-F.Entity k) = entities_of k
level_type V W (Type-F.Set None) = any_set
level_type V W (Type-F.Set (Some p)) = set_type (V p.value)
level_type V W (Type-F.Record as_ o) = record_type (W as_) (openness_of o)
level_type V W (Type-F.ExtensionType n) = extension_type (plain_name_of n)

-- two levels, by equalities of the types and of the attributes in them
abbrev pub level_eq : {K E A : Type 0} → (K → K → Truth) → (A → A → Truth) → Type-F K E A → Type-F K E A → Truth
level_eq R Q Type-F.Never Type-F.Never = true
level_eq R Q (Type-F.Bool b) (Type-F.Bool c) = (bool_equality.ghosts).eq b c
level_eq R Q Type-F.Long Type-F.Long = true
level_eq R Q Type-F.String Type-F.String = true
level_eq R Q (Type-F.Entity k) (Type-F.Entity l) = (entities_equality.ghosts).eq k l
level_eq R Q (Type-F.Set p) (Type-F.Set q) = option_eq (λ t u. R t.value u.value) p q
level_eq R Q (Type-F.Record as_ o) (Type-F.Record bs p) = Q as_ bs && (tag_equality.ghosts).eq o p
level_eq R Q (Type-F.ExtensionType n) (Type-F.ExtensionType m) = (name_equality.ghosts).eq n m
level_eq R Q a b = false

-- the type of the model is that of the level
pub type_rolled : (x : Type-F CodeType AttributeType Attributes) → type_of (roll-Type x) ≡ level_type type_of attributes_of x
type_rolled Type-F.Never = ap type_of rolls-Never
type_rolled (Type-F.Bool b) = ap type_of (rolls-Bool b)
type_rolled Type-F.Long = ap type_of rolls-Long
type_rolled Type-F.String = ap type_of rolls-String
type_rolled (Type-F.Entity k) = ap type_of (rolls-Entity k)
type_rolled (Type-F.Set None) = ap type_of (rolls-Set None)
type_rolled (Type-F.Set (Some p)) = ap type_of (rolls-Set (Some p))
type_rolled (Type-F.Record as_ o) = ap type_of (rolls-Record as_ o)
type_rolled (Type-F.ExtensionType n) = ap type_of (rolls-ExtensionType n)

pub type_seen : (a : CodeType) → type_of a ≡ level_type type_of attributes_of (out-Type a)
type_seen a = ap type_of (sym (roll-out-Type a)) ∙ type_rolled (out-Type a)

-- the derived equalities
abbrev pub type_by : CodeType → CodeType → Truth
type_by = (type_equality.ghosts).eq

abbrev pub attributes_by : Attributes → Attributes → Truth
attributes_by = (attributes_equality.ghosts).eq

abbrev pub declared_by : AttributeType → AttributeType → Truth
declared_by = (declared_equality.ghosts).eq

-- types, attributes and what is declared of one are compared level by level
pub type_is : (a b : CodeType) → type_by a b ≡ level_eq type_by attributes_by (out-Type a) (out-Type b)
unfolding out-Type Carrier.out
type_is Never Never = type_laws.is Never Never
type_is (Bool b) (Bool c) = type_laws.is (Bool b) (Bool c)
type_is Long Long = type_laws.is Long Long
type_is String String = type_laws.is String String
type_is (Entity k) (Entity l) = type_laws.is (Entity k) (Entity l)
type_is (Set' None') (Set' None') = type_laws.is (Set' None') (Set' None')
type_is (Set' None') (Set' (Some' q u)) = type_laws.is (Set' None') (Set' (Some' q u))
type_is (Set' (Some' p t)) (Set' None') = type_laws.is (Set' (Some' p t)) (Set' None')
type_is (Set' (Some' p t)) (Set' (Some' q u)) = type_laws.is (Set' (Some' p t)) (Set' (Some' q u))
type_is (Record as_ o) (Record bs p) = type_laws.is (Record as_ o) (Record bs p)
type_is (ExtensionType n) (ExtensionType m) = type_laws.is (ExtensionType n) (ExtensionType m)
type_is a b = type_laws.is a b

-- names and then what is declared
abbrev pub entry_by : (AttributeType → AttributeType → Truth) → RcStr Global × AttributeType → RcStr Global × AttributeType → Truth
entry_by E p q = bytes_eq (rc_str_bytes p.0) (rc_str_bytes q.0) && E p.1 q.1

pub attributes_is : (as_ bs : Attributes) → attributes_by as_ bs ≡ pointwise (entry_by declared_by) (entries_of as_) (entries_of bs)
unfolding out-Attributes Carrier.out
attributes_is (Attributes' p s r) (Attributes' q t w) = attributes_laws.is (Attributes' p s r) (Attributes' q t w)

pub declared_is : (d e : AttributeType) → declared_by d e ≡ (type_by d.attr_type e.attr_type && beq d.is_required e.is_required)
declared_is d e = declared_laws.is d e

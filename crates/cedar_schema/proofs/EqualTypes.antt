-- The derived equality of types is that of the model's types.
use denote.Hole.Carrier
use mathlib.Core.Bool.{Bool as Truth}
use Rattle.std.proofs.Common.{◌≡◌, ◌&&◌, List, [], ◌∷◌, Some, None, map, refl, sym, ap, ◌∙◌}
use Rattle.std.specs.Bool.{beq}
use Rattle.std.specs.Cmp.Lexicographic.{pointwise}
use Rattle.std.specs.Rc.{rc_str_bytes}
use Rattle.std.specs.Str.{bytes_eq}
use Rattle.std.specs.declared.alloc.Global.{Global}
use Rattle.std.specs.declared.rc.RcStr.{RcStr}
use Rattle.cedar_expr_model.specs.Name.{name_eq}
use Rattle.cedar_expr_names.specs.Views.{type_name_of}
use Rattle.cedar_expr_names.proofs.Equality.{names_eq_is}
use Rattle.cedar_schema_types.specs.AttributeLists.{attributes_from, declared_pairs}
use Rattle.cedar_schema_types.specs.Kinds.{bool_type_of, openness_of}
use Rattle.cedar_schema_types.specs.Types.{type_of, attributes_of, entries_of}
use Rattle.cedar_schema_types.specs.Unions.{members_of, entities_of}
use Rattle.cedar_schema_types.specs.contracts.entity_kind.EntityKindPartialEq.TheImpl as entities_equality
use Rattle.cedar_schema_types.specs.contracts.entity_lub.EntityLUBPartialEq.TheImpl as unions_equality
use Rattle.cedar_schema_types.specs.contracts.kinds.BoolTypePartialEq.TheImpl as bool_equality
use Rattle.cedar_schema_types.specs.contracts.kinds.OpenTagPartialEq.TheImpl as tag_equality
use Rattle.cedar_schema_types.specs.declared.entity_kind.EntityKind.{EntityKind}
use Rattle.cedar_schema_types.specs.declared.entity_kind.EntityKind.TheVariants.{AnyEntity, Entity}
use Rattle.cedar_schema_types.specs.declared.entity_lub.EntityLUB.{EntityLUB}
use Rattle.cedar_schema_types.specs.declared.kinds.BoolType.{BoolType}
use Rattle.cedar_schema_types.specs.declared.kinds.BoolType.TheVariants.{AnyBool, True, False}
use Rattle.cedar_schema_types.specs.declared.kinds.OpenTag.{OpenTag}
use Rattle.cedar_schema_types.specs.declared.kinds.OpenTag.TheVariants.{OpenAttributes, ClosedAttributes}
use Rattle.cedar_schema_types.specs.declared.types.AttributeType.{AttributeType, AttributeType-F, map-AttributeType, roll-AttributeType}
use Rattle.cedar_schema_types.specs.declared.types.Attributes.{Attributes, Attributes-F, map-Attributes, roll-Attributes, out-roll-Attributes, ind-Attributes}
use Rattle.cedar_schema_types.specs.declared.types.Type.{«Type» as CodeType, Type-F, map-Type, out-Type, roll-Type, out-roll-Type, ind-Type}
use Rattle.cedar_schema_types.proofs.Entries.{attributes_are}
use Rattle.cedar_schema.proofs.SameTypes.{same_bool, same_openness, same_type, same_attributes}
use Rattle.cedar_schema.proofs.TypeLevels.{level_type, level_eq, type_rolled, type_seen, type_by, attributes_by, declared_by, type_is, attributes_is, declared_is, entry_by}

-- equalities of both
both_same : (a b c d : Truth) → a ≡ c → b ≡ d → (a && b) ≡ (c && d)
both_same a b c d e f = ap (λ x. x && b) e ∙ ap (λ x. c && x) f

pub bools_are : (b c : BoolType) → (bool_equality.ghosts).eq b c ≡ same_bool (bool_type_of b) (bool_type_of c)
bools_are AnyBool AnyBool = refl
bools_are True True = refl
bools_are False False = refl
bools_are b c = refl

pub tags_are : (o p : OpenTag) → (tag_equality.ghosts).eq o p ≡ same_openness (openness_of o) (openness_of p)
tags_are OpenAttributes OpenAttributes = refl
tags_are ClosedAttributes ClosedAttributes = refl
tags_are o p = refl

-- lists of names
lists_by : {X Y : Type 0} (E : X → X → Truth) (F : Y → Y → Truth) (view : X → Y) → ((a b : X) → E a b ≡ F (view a) (view b)) → (xs ys : List X) → pointwise E xs ys ≡ pointwise F (map view xs) (map view ys)
lists_by E F view h [] [] = refl
lists_by E F view h [] (y ∷ ys) = refl
lists_by E F view h (x ∷ xs) [] = refl
lists_by E F view h (x ∷ xs) (y ∷ ys) = both_same (E x y) (pointwise E xs ys) _ _ (h x y) (lists_by E F view h xs ys)

pub unions_are : (u v : EntityLUB) → (unions_equality.ghosts).eq u v ≡ pointwise name_eq (members_of u) (members_of v)
unions_are u v = lists_by _ name_eq type_name_of (λ s t. names_eq_is s.0.internal t.0.internal) u.lub_elements.value.keys v.lub_elements.value.keys

pub entities_are : (k l : EntityKind) → (entities_equality.ghosts).eq k l ≡ same_type (entities_of k) (entities_of l)
entities_are AnyEntity AnyEntity = refl
entities_are (Entity u) (Entity v) = unions_are u v
entities_are k l = refl

-- what the equalities compare by the model
abbrev TypeAgrees : CodeType → Type 0
TypeAgrees a = (b : CodeType) → type_by a b ≡ same_type (type_of a) (type_of b)

abbrev AttributesAgree : Attributes → Type 0
AttributesAgree as_ = (bs : Attributes) → attributes_by as_ bs ≡ same_attributes (attributes_of as_) (attributes_of bs)

abbrev DeclaredAgrees : AttributeType → Type 0
DeclaredAgrees d = (e : AttributeType) → declared_by d e ≡ (same_type (type_of d.attr_type) (type_of e.attr_type) && beq d.is_required e.is_required)

entries_agree : (xs : List (RcStr Global × ((d : AttributeType) × DeclaredAgrees d))) (es : List (RcStr Global × AttributeType))
    → pointwise (entry_by declared_by) (map (λ e. (e.0, e.1.0)) xs) es ≡ same_attributes (attributes_from (declared_pairs (map (λ e. (e.0, e.1.0)) xs))) (attributes_from (declared_pairs es))
entries_agree [] [] = refl
entries_agree [] (e ∷ es) = refl
entries_agree (x ∷ xs) [] = refl
entries_agree (x ∷ xs) (e ∷ es) =
    both_same _ _ (bytes_eq (rc_str_bytes x.0) (rc_str_bytes e.0) && (same_type (type_of x.1.0.attr_type) (type_of e.1.attr_type) && beq x.1.0.is_required e.1.is_required)) _
    (ap (λ b. bytes_eq (rc_str_bytes x.0) (rc_str_bytes e.0) && b) (x.1.1 e.1)) (entries_agree xs es)

-- a level of which each part agrees
abbrev Agreeing : Type 0
Agreeing = Type-F ((a : CodeType) × TypeAgrees a) ((d : AttributeType) × DeclaredAgrees d) ((as_ : Attributes) × AttributesAgree as_)

abbrev parts_of : Agreeing → Type-F CodeType AttributeType Attributes
parts_of y = map-Type ((a : CodeType) × TypeAgrees a) ((d : AttributeType) × DeclaredAgrees d) ((as_ : Attributes) × AttributesAgree as_) CodeType AttributeType Attributes (λ e. e.0) (λ e. e.0) (λ e. e.0) y

levels_agree : (y : Agreeing) (z : Type-F CodeType AttributeType Attributes) → level_eq type_by attributes_by (parts_of y) z ≡ same_type (level_type type_of attributes_of (parts_of y)) (level_type type_of attributes_of z)
levels_agree Type-F.Never Type-F.Never = refl
levels_agree (Type-F.Bool b) (Type-F.Bool c) = bools_are b c
levels_agree Type-F.Long Type-F.Long = refl
levels_agree Type-F.String Type-F.String = refl
levels_agree (Type-F.Entity k) (Type-F.Entity l) = entities_are k l
levels_agree (Type-F.Set None) (Type-F.Set None) = refl
levels_agree (Type-F.Set None) (Type-F.Set (Some q)) = refl
levels_agree (Type-F.Set (Some p)) (Type-F.Set None) = refl
levels_agree (Type-F.Set (Some p)) (Type-F.Set (Some q)) = p.value.1 q.value
levels_agree (Type-F.Record as_ o) (Type-F.Record bs p) = both_same _ _ (same_attributes (attributes_of as_.0) (attributes_of bs)) (same_openness (openness_of o) (openness_of p)) (as_.1 bs) (tags_are o p)
levels_agree (Type-F.ExtensionType n) (Type-F.ExtensionType m) = names_eq_is n.internal m.internal
-- entities and sets are of two shapes each
levels_agree (Type-F.Entity AnyEntity) (Type-F.Set None) = refl
levels_agree (Type-F.Entity AnyEntity) (Type-F.Set (Some q)) = refl
levels_agree (Type-F.Entity (Entity u)) (Type-F.Set None) = refl
levels_agree (Type-F.Entity (Entity u)) (Type-F.Set (Some q)) = refl
levels_agree (Type-F.Set None) (Type-F.Entity AnyEntity) = refl
levels_agree (Type-F.Set None) (Type-F.Entity (Entity v)) = refl
levels_agree (Type-F.Set (Some p)) (Type-F.Entity AnyEntity) = refl
levels_agree (Type-F.Set (Some p)) (Type-F.Entity (Entity v)) = refl
levels_agree (Type-F.Entity AnyEntity) z = refl
levels_agree (Type-F.Entity (Entity u)) z = refl
levels_agree y (Type-F.Entity AnyEntity) = refl
levels_agree y (Type-F.Entity (Entity v)) = refl
levels_agree (Type-F.Set None) z = refl
levels_agree (Type-F.Set (Some p)) z = refl
levels_agree y (Type-F.Set None) = refl
levels_agree y (Type-F.Set (Some q)) = refl
levels_agree y z = refl

types_agree : (x : Type-F CodeType AttributeType Attributes) (y : Agreeing) → parts_of y ≡ x → TypeAgrees (roll-Type x)
types_agree x y e b =
    type_is (roll-Type x) b
    ∙ ap (λ d. level_eq type_by attributes_by d (out-Type b)) (out-roll-Type x ∙ sym e)
    ∙ levels_agree y (out-Type b)
    ∙ ap (λ d. same_type (level_type type_of attributes_of d) (level_type type_of attributes_of (out-Type b))) e
    ∙ sym (ap (λ t. same_type t (level_type type_of attributes_of (out-Type b))) (type_rolled x))
    ∙ sym (ap (same_type (type_of (roll-Type x))) (type_seen b))

attributes_agree : (x : Attributes-F CodeType AttributeType Attributes) (y : Attributes-F ((a : CodeType) × TypeAgrees a) ((d : AttributeType) × DeclaredAgrees d) ((as_ : Attributes) × AttributesAgree as_))
    → map-Attributes ((a : CodeType) × TypeAgrees a) ((d : AttributeType) × DeclaredAgrees d) ((as_ : Attributes) × AttributesAgree as_) CodeType AttributeType Attributes (λ e. e.0) (λ e. e.0) (λ e. e.0) y ≡ x → AttributesAgree (roll-Attributes x)
attributes_agree x y e bs =
    let entries : map (λ e. (e.0, e.1.0)) y.attrs.value.entries ≡ entries_of (roll-Attributes x) = ap (λ (d : Attributes-F CodeType AttributeType Attributes). d.attrs.value.entries)
    (e ∙ sym (out-roll-Attributes x)) in
    attributes_is (roll-Attributes x) bs
    ∙ ap (λ es. pointwise (entry_by declared_by) es (entries_of bs)) (sym entries)
    ∙ entries_agree y.attrs.value.entries (entries_of bs)
    ∙ ap (λ es. same_attributes (attributes_from (declared_pairs es)) (attributes_from (declared_pairs (entries_of bs)))) entries
    ∙ sym (ap (λ as_. same_attributes as_ (attributes_from (declared_pairs (entries_of bs)))) (attributes_are (roll-Attributes x)))
    ∙ sym (ap (same_attributes (attributes_of (roll-Attributes x))) (attributes_are bs))

declared_agrees : (x : AttributeType-F CodeType AttributeType Attributes) (y : AttributeType-F ((a : CodeType) × TypeAgrees a) ((d : AttributeType) × DeclaredAgrees d) ((as_ : Attributes) × AttributesAgree as_))
    → map-AttributeType ((a : CodeType) × TypeAgrees a) ((d : AttributeType) × DeclaredAgrees d) ((as_ : Attributes) × AttributesAgree as_) CodeType AttributeType Attributes (λ e. e.0) (λ e. e.0) (λ e. e.0) y ≡ x → DeclaredAgrees (roll-AttributeType x)
unfolding Carrier.roll
declared_agrees x y e d =
    let kind : y.attr_type.0 ≡ x.attr_type = ap (λ (d : AttributeType-F CodeType AttributeType Attributes). d.attr_type) e in
    declared_is (roll-AttributeType x) d
    ∙ ap (λ t. type_by t d.attr_type && beq x.is_required d.is_required) (sym kind)
    ∙ ap (λ b. b && beq x.is_required d.is_required) (y.attr_type.1 d.attr_type)
    ∙ ap (λ t. same_type (type_of t) (type_of d.attr_type) && beq x.is_required d.is_required) kind

-- types are equal where the model's are
pub equal_types : (a b : CodeType) → type_by a b ≡ same_type (type_of a) (type_of b)
equal_types = ind-Type TypeAgrees DeclaredAgrees AttributesAgree types_agree declared_agrees attributes_agree

-- and so are attributes, and what is declared of one
pub equal_attributes : (as_ bs : Attributes) → attributes_by as_ bs ≡ same_attributes (attributes_of as_) (attributes_of bs)
equal_attributes = ind-Attributes TypeAgrees DeclaredAgrees AttributesAgree types_agree declared_agrees attributes_agree

pub equal_declared : (d e : AttributeType) → declared_by d e ≡ (same_type (type_of d.attr_type) (type_of e.attr_type) && beq d.is_required e.is_required)
equal_declared d e = declared_is d e ∙ ap (λ b. b && beq d.is_required e.is_required) (equal_types d.attr_type e.attr_type)

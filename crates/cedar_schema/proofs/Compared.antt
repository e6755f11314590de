-- The derived equalities of what stands in a type decide whether it is the same of the model.
use mathlib.Core.Bool.{Bool as Truth}
use Rattle.std.proofs.Common.{◌≡◌, true, refl, sym, ap, subst, Decides}
use Rattle.std.proofs.lemmas.Bool.Decides.{Decides-and, Decides-like}
use Rattle.std.specs.Cmp.{booleans_Decides}
use Rattle.std.specs.Ordering.{is_eq}
use Rattle.std.specs.declared.cmp.Ordering.{Ordering}
use Rattle.std.specs.declared.cmp.Ordering.TheVariants.{Less, Equal, Greater}
use Rattle.cedar_schema_types.specs.Kinds.{bool_type_of, openness_of}
use Rattle.cedar_schema_types.specs.Types.{type_of, attributes_of, attribute_of}
use Rattle.cedar_schema_types.specs.Unions.{members_of, entities_of}
use Rattle.cedar_schema_types.specs.contracts.entity_kind.EntityKindPartialEq.TheImpl as entities_equality
use Rattle.cedar_schema_types.specs.contracts.entity_lub.EntityLUBPartialEq.TheImpl as unions_equality
use Rattle.cedar_schema_types.specs.contracts.kinds.BoolTypePartialEq.TheImpl as bool_equality
use Rattle.cedar_schema_types.specs.contracts.kinds.OpenTagPartialEq.TheImpl as tag_equality
use Rattle.cedar_schema_types.specs.declared.entity_kind.EntityKind.{EntityKind}
use Rattle.cedar_schema_types.specs.declared.entity_lub.EntityLUB.{EntityLUB}
use Rattle.cedar_schema_types.specs.declared.kinds.BoolType.{BoolType}
use Rattle.cedar_schema_types.specs.declared.kinds.OpenTag.{OpenTag}
use Rattle.cedar_schema_types.specs.declared.types.AttributeType.{AttributeType}
use Rattle.cedar_schema_types.specs.declared.types.Attributes.{Attributes}
use Rattle.cedar_schema.proofs.EqualTypes.{bools_are, tags_are, unions_are, entities_are, equal_attributes, equal_declared}
use Rattle.cedar_schema.proofs.SameTypes.{same_bool-Decides, same_openness-Decides, names_decide, same_type-Decides, same_attributes-Decides}
use Rattle.cedar_schema.proofs.TypeLevels.{attributes_by, declared_by}

-- a test that is another decides what the other does
as_other : (P : Type 0) (a b : Truth) → a ≡ b → Decides b P → Decides a P
as_other P a b e d = subst (λ c. Decides c P) (sym e) d

pub bools_decide : (a b : BoolType) → Decides ((bool_equality.ghosts).eq a b) (bool_type_of a ≡ bool_type_of b)
bools_decide a b = as_other _ _ _ (bools_are a b) (same_bool-Decides (bool_type_of a) (bool_type_of b))

pub tags_decide : (a b : OpenTag) → Decides ((tag_equality.ghosts).eq a b) (openness_of a ≡ openness_of b)
tags_decide a b = as_other _ _ _ (tags_are a b) (same_openness-Decides (openness_of a) (openness_of b))

pub unions_decide : (a b : EntityLUB) → Decides ((unions_equality.ghosts).eq a b) (members_of a ≡ members_of b)
unions_decide a b = as_other _ _ _ (unions_are a b) (names_decide (members_of a) (members_of b))

pub entities_decide : (a b : EntityKind) → Decides ((entities_equality.ghosts).eq a b) (entities_of a ≡ entities_of b)
entities_decide a b = as_other _ _ _ (entities_are a b) (same_type-Decides (entities_of a) (entities_of b))

pub attributes_decide : (a b : Attributes) → Decides (attributes_by a b) (attributes_of a ≡ attributes_of b)
attributes_decide a b = as_other _ _ _ (equal_attributes a b) (same_attributes-Decides (attributes_of a) (attributes_of b))

pub declared_decide : (a b : AttributeType) → Decides (declared_by a b) (attribute_of a ≡ attribute_of b)
declared_decide a b =
    as_other _ _ _ (equal_declared a b)
    (Decides-like _ (λ h i. record { type = h.0 i; is_required = h.1 i }) (λ h. (ap (λ c. c.type) h, ap (λ c. c.is_required) h))
    (Decides-and _ _ (same_type-Decides (type_of a.attr_type) (type_of b.attr_type)) (booleans_Decides a.is_required b.is_required)))

-- where there is no difference
pub no_difference : (o : Ordering) → is_eq o ≡ true → o ≡ Equal
no_difference Equal h = refl
no_difference Less h = absurd (cc)
no_difference Greater h = absurd (cc)

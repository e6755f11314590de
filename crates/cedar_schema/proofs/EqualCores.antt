-- Types by which values can be read are equal exactly where they are the same type.
use denote.Hole.Carrier
use Rattle.std.proofs.Common.{◌≡◌, List, [], ◌∷◌, map, refl, sym, ap, ◌∙◌, subst, Decides}
use Rattle.std.proofs.lemmas.Bool.Decides.{Decides-and, Decides-like}
use Rattle.std.proofs.lemmas.Slice.Eq.{bytes_eq-Decides}
use Rattle.std.specs.Cmp.{booleans_Decides}
use Rattle.std.specs.Cmp.Lexicographic.{pointwise}
use Rattle.std.specs.Rc.{rc_str_bytes}
use Rattle.std.specs.declared.alloc.Global.{Global}
use Rattle.std.specs.declared.rc.RcStr.{RcStr}
use Rattle.cedar_schema_types.specs.CoreTypes.{core_set, core_record, core_entity, core_extension, core_attribute, core_attributes_from}
use Rattle.cedar_schema_types.specs.Views.{core_type_of, core_attributes_of, core_declared_of, core_pairs, core_entries}
use Rattle.cedar_schema_types.specs.declared.core_types.CoreAttributeType.{CoreAttributeType, CoreAttributeType-F, map-CoreAttributeType, roll-CoreAttributeType}
use Rattle.cedar_schema_types.specs.declared.core_types.CoreAttributes.{CoreAttributes, CoreAttributes-F, map-CoreAttributes, roll-CoreAttributes, out-roll-CoreAttributes, ind-CoreAttributes}
use Rattle.cedar_schema_types.specs.declared.core_types.CoreSchemaType.{CoreSchemaType, CoreSchemaType-F, map-CoreSchemaType, out-CoreSchemaType, roll-CoreSchemaType, out-roll-CoreSchemaType, ind-CoreSchemaType}
use Rattle.cedar_schema_types.proofs.CoreEntries.{attributes_are}
use Rattle.cedar_schema.proofs.EqualNames.{names_decide, types_decide}
use Rattle.cedar_schema.proofs.CoreLevels.{core_level, core_level_eq, core_rolled, core_seen, core_by, core_attributes_by, core_declared_by, core_is, core_attributes_is, core_declared_is, core_entry_by}

-- what the equalities decide
abbrev TypeDecided : CoreSchemaType → Type 0
TypeDecided a = (b : CoreSchemaType) → Decides (core_by a b) (core_type_of a ≡ core_type_of b)

abbrev AttributesDecided : CoreAttributes → Type 0
AttributesDecided as_ = (bs : CoreAttributes) → Decides (core_attributes_by as_ bs) (core_attributes_of as_ ≡ core_attributes_of bs)

abbrev DeclaredDecided : CoreAttributeType → Type 0
DeclaredDecided d = (e : CoreAttributeType) → Decides (core_declared_by d e) ((core_type_of d.attr_type ≡ core_type_of e.attr_type) × (d.required ≡ e.required))

entries_decided : (xs : List (RcStr Global × ((d : CoreAttributeType) × DeclaredDecided d))) (es : List (RcStr Global × CoreAttributeType))
    → Decides (pointwise (core_entry_by core_declared_by) (map (λ e. (e.0, e.1.0)) xs) es) (core_attributes_from (core_pairs (map (λ e. (e.0, e.1.0)) xs)) ≡ core_attributes_from (core_pairs es))
entries_decided [] [] = (λ _. refl, λ _. refl)
entries_decided [] (e ∷ es) = (λ h. cc, λ h. cc)
entries_decided (x ∷ xs) [] = (λ h. cc, λ h. cc)
entries_decided (x ∷ xs) (e ∷ es) =
    Decides-like _ (λ p i. core_attribute (p.0.0 i) (p.0.1.0 i) (p.0.1.1 i) (p.1 i)) (λ h. ((cc, (cc, cc)), cc))
    (Decides-and _ _ (Decides-and _ _ (bytes_eq-Decides (rc_str_bytes x.0) (rc_str_bytes e.0)) (x.1.1 e.1)) (entries_decided xs es))

-- a level of which each part is decided
abbrev Deciding : Type 0
Deciding = CoreSchemaType-F ((a : CoreSchemaType) × TypeDecided a) ((d : CoreAttributeType) × DeclaredDecided d) ((as_ : CoreAttributes) × AttributesDecided as_)

abbrev parts_of : Deciding → CoreSchemaType-F CoreSchemaType CoreAttributeType CoreAttributes
parts_of y = map-CoreSchemaType ((a : CoreSchemaType) × TypeDecided a) ((d : CoreAttributeType) × DeclaredDecided d) ((as_ : CoreAttributes) × AttributesDecided as_) CoreSchemaType CoreAttributeType CoreAttributes (λ e. e.0) (λ e. e.0) (λ e. e.0) y

levels_decided : (y : Deciding) (z : CoreSchemaType-F CoreSchemaType CoreAttributeType CoreAttributes)
    → Decides (core_level_eq core_by core_attributes_by (parts_of y) z) (core_level core_type_of core_attributes_of (parts_of y) ≡ core_level core_type_of core_attributes_of z)
levels_decided CoreSchemaType-F.Bool CoreSchemaType-F.Bool = (λ _. refl, λ _. refl)
levels_decided CoreSchemaType-F.Long CoreSchemaType-F.Long = (λ _. refl, λ _. refl)
levels_decided CoreSchemaType-F.String CoreSchemaType-F.String = (λ _. refl, λ _. refl)
levels_decided (CoreSchemaType-F.Set p) (CoreSchemaType-F.Set q) = Decides-like _ (λ e. ap core_set e) (λ e. cc) (p.value.1 q.value)
levels_decided CoreSchemaType-F.EmptySet CoreSchemaType-F.EmptySet = (λ _. refl, λ _. refl)
levels_decided (CoreSchemaType-F.Record as_ o) (CoreSchemaType-F.Record bs p) = Decides-like _ (λ h i. core_record (h.0 i) (h.1 i)) (λ e. (cc, cc)) (Decides-and _ _ (as_.1 bs) (booleans_Decides o p))
levels_decided (CoreSchemaType-F.Entity s) (CoreSchemaType-F.Entity t) = Decides-like _ (λ e. ap core_entity e) (λ e. cc) (types_decide s t)
levels_decided (CoreSchemaType-F.Extension m) (CoreSchemaType-F.Extension n) = Decides-like _ (λ e. ap core_extension e) (λ e. cc) (names_decide m n)
levels_decided y z = (λ h. cc, λ h. cc)

types_decided : (x : CoreSchemaType-F CoreSchemaType CoreAttributeType CoreAttributes) (y : Deciding) → parts_of y ≡ x → TypeDecided (roll-CoreSchemaType x)
types_decided x y e b =
    let compared : core_by (roll-CoreSchemaType x) b ≡ core_level_eq core_by core_attributes_by (parts_of y) (out-CoreSchemaType b) =
    core_is (roll-CoreSchemaType x) b ∙ ap (λ d. core_level_eq core_by core_attributes_by d (out-CoreSchemaType b)) (out-roll-CoreSchemaType x ∙ sym e) in
    let first : core_type_of (roll-CoreSchemaType x) ≡ core_level core_type_of core_attributes_of (parts_of y) = core_rolled x ∙ ap (core_level core_type_of core_attributes_of) (sym e) in
    let second = core_seen b in
    let decided = levels_decided y (out-CoreSchemaType b) in
    (λ h. first ∙ decided.0 (sym compared ∙ h) ∙ sym second, λ h. compared ∙ decided.1 (sym first ∙ h ∙ second))

attributes_decided : (x : CoreAttributes-F CoreSchemaType CoreAttributeType CoreAttributes) (y : CoreAttributes-F ((a : CoreSchemaType) × TypeDecided a) ((d : CoreAttributeType) × DeclaredDecided d) ((as_ : CoreAttributes) × AttributesDecided as_))
    → map-CoreAttributes ((a : CoreSchemaType) × TypeDecided a) ((d : CoreAttributeType) × DeclaredDecided d) ((as_ : CoreAttributes) × AttributesDecided as_) CoreSchemaType CoreAttributeType CoreAttributes (λ e. e.0) (λ e. e.0) (λ e. e.0) y ≡ x → AttributesDecided (roll-CoreAttributes x)
attributes_decided x y e bs =
    let entries : map (λ e. (e.0, e.1.0)) y.attrs.value.entries ≡ core_entries (roll-CoreAttributes x) = ap (λ (d : CoreAttributes-F CoreSchemaType CoreAttributeType CoreAttributes). d.attrs.value.entries)
    (e ∙ sym (out-roll-CoreAttributes x)) in
    let compared = core_attributes_is (roll-CoreAttributes x) bs ∙ ap (λ es. pointwise (core_entry_by core_declared_by) es (core_entries bs)) (sym entries) in
    let first = attributes_are (roll-CoreAttributes x) ∙ ap (λ es. core_attributes_from (core_pairs es)) (sym entries) in
    let second = attributes_are bs in
    let decided = entries_decided y.attrs.value.entries (core_entries bs) in
    (λ h. first ∙ decided.0 (sym compared ∙ h) ∙ sym second, λ h. compared ∙ decided.1 (sym first ∙ h ∙ second))

declared_decided : (x : CoreAttributeType-F CoreSchemaType CoreAttributeType CoreAttributes) (y : CoreAttributeType-F ((a : CoreSchemaType) × TypeDecided a) ((d : CoreAttributeType) × DeclaredDecided d) ((as_ : CoreAttributes) × AttributesDecided as_))
    → map-CoreAttributeType ((a : CoreSchemaType) × TypeDecided a) ((d : CoreAttributeType) × DeclaredDecided d) ((as_ : CoreAttributes) × AttributesDecided as_) CoreSchemaType CoreAttributeType CoreAttributes (λ e. e.0) (λ e. e.0) (λ e. e.0) y ≡ x → DeclaredDecided (roll-CoreAttributeType x)
unfolding Carrier.roll
declared_decided x y e d =
    let kind : y.attr_type.0 ≡ x.attr_type = ap (λ (d : CoreAttributeType-F CoreSchemaType CoreAttributeType CoreAttributes). d.attr_type) e in
    let of_type = subst TypeDecided kind y.attr_type.1 in
    let both = Decides-and _ _ (of_type d.attr_type) (booleans_Decides x.required d.required) in
    let compared = core_declared_is (roll-CoreAttributeType x) d in
    (λ h. both.0 (sym compared ∙ h), λ h. compared ∙ both.1 h)

-- types are equal exactly where the model's are
pub cores_decide : (a b : CoreSchemaType) → Decides (core_by a b) (core_type_of a ≡ core_type_of b)
cores_decide = ind-CoreSchemaType TypeDecided DeclaredDecided AttributesDecided types_decided declared_decided attributes_decided

-- and so are attributes, and what is declared of one
pub core_attributes_decide : (as_ bs : CoreAttributes) → Decides (core_attributes_by as_ bs) (core_attributes_of as_ ≡ core_attributes_of bs)
core_attributes_decide = ind-CoreAttributes TypeDecided DeclaredDecided AttributesDecided types_decided declared_decided attributes_decided

pub core_declared_decide : (d e : CoreAttributeType) → Decides (core_declared_by d e) (core_declared_of d ≡ core_declared_of e)
core_declared_decide d e =
    Decides-like _ (λ h i. record { type = h.0 i; required = h.1 i }) (λ h. (ap (λ c. c.type) h, ap (λ c. c.required) h))
    (subst (λ b. Decides b ((core_type_of d.attr_type ≡ core_type_of e.attr_type) × (d.required ≡ e.required))) (sym (core_declared_is d e))
    (Decides-and _ _ (cores_decide d.attr_type e.attr_type) (booleans_Decides d.required e.required)))

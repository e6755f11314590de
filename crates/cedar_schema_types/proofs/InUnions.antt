-- A union of entity types is well-formed.
use Rattle.std.proofs.Common.{◌≡◌, true, false, not, List, [], ◌∷◌, map, refl, sym, ap, ◌∙◌}
use Rattle.std.specs.List.{list_all}
use Rattle.std.specs.List.Sorted.{IsStrictlySortedBy}
use Rattle.cedar_expr_model.specs.Name.{is_well_formed}
use Rattle.cedar_expr_model.specs.UidOrder.{name_cmp}
use Rattle.cedar_expr_model.specs.Lists.{is_nil, rises}
use Rattle.cedar_expr_model.proofs.Lists.{hold_both}
use Rattle.cedar_expr_model.proofs.Rising.{is_less}
use Rattle.cedar_expr_names.specs.Views.{type_name_of}
use Rattle.cedar_expr_names.specs.declared.entity.EntityType.{EntityType}
use Rattle.cedar_expr_names.proofs.Equality.{names_cmp_is, well_formed}
use Rattle.cedar_schema_model.specs.OfLaws.Formed.{is_union}
use Rattle.cedar_schema_types.specs.Unions.{members_of}
use Rattle.cedar_schema_types.specs.declared.entity_lub.EntityLUB.{EntityLUB}
use Rattle.cedar_schema_types.proofs.Unions.{types_by, mapped_is_some}

names_are_formed : (ks : List EntityType) → list_all is_well_formed (map type_name_of ks) ≡ true
names_are_formed [] = refl
names_are_formed (k ∷ ks) = hold_both _ _ (well_formed k.0.internal) (names_are_formed ks)

names_ascend : (ks : List EntityType) → IsStrictlySortedBy types_by ks → rises name_cmp (map type_name_of ks) ≡ true
unfolding IsStrictlySortedBy
names_ascend [] s = refl
names_ascend (k ∷ []) s = refl
names_ascend (k ∷ j ∷ ks) s = hold_both _ _ (is_less (name_cmp (type_name_of k) (type_name_of j)) (sym (names_cmp_is k.0.internal j.0.internal) ∙ (s.0).0)) (names_ascend (j ∷ ks) s.1)

pub union_is_formed : (u : EntityLUB) → IsStrictlySortedBy types_by u.lub_elements.value.keys → is_union (members_of u) ≡ true
union_is_formed u s =
    let ks = u.lub_elements.value.keys in
    hold_both _ _ (ap not (sym (mapped_is_some ks) ∙ u.inhabited)) (hold_both _ _ (names_are_formed ks) (names_ascend ks s))

-- Keys that stand in order are in order as they are seen.
use Rattle.std.proofs.Common.{◌≡◌, true, List, [], ◌∷◌, map, refl, sym, ap, ◌∙◌}
use Rattle.std.specs.List.Sorted.{IsStrictlySortedBy}
use Rattle.std.specs.Rc.{rc_str_bytes}
use Rattle.std.specs.declared.alloc.Global.{Global}
use Rattle.std.specs.declared.cmp.Ordering.{Ordering}
use Rattle.std.specs.declared.rc.RcStr.{RcStr}
use Rattle.cedar_expr_model.specs.UidOrder.{name_cmp, uid_cmp}
use Rattle.cedar_expr_model.specs.Lists.{rises}
use Rattle.cedar_expr_model.specs.Order.{text_cmp}
use Rattle.cedar_expr_model.proofs.Lists.{hold_both}
use Rattle.cedar_expr_model.proofs.Rising.{is_less}
use Rattle.cedar_expr_names.specs.Views.{type_name_of, uid_of}
use Rattle.cedar_expr_names.specs.declared.entity.EntityType.{EntityType}
use Rattle.cedar_expr_names.specs.declared.entity.EntityUID.{EntityUID}
use Rattle.cedar_expr_names.proofs.Equality.{names_cmp_is, uids_cmp_is}
use Rattle.cedar_schema_types.specs.Types.{attributes_of}
use Rattle.cedar_schema_types.proofs.Unions.{types_by}
use Rattle.cedar_schema_entries.specs.InOrder.{kind_in_order, type_in_order, action_in_order}
use Rattle.cedar_schema_entries.specs.Kinds.{kind_with}
use Rattle.cedar_schema_entries.specs.Views.{entity_type_seen, action_seen}
use Rattle.cedar_schema_entries.specs.declared.entity_kinds.ValidatorEntityTypeKind.{ValidatorEntityTypeKind}
use Rattle.cedar_schema_entries.specs.declared.entity_type.ValidatorEntityType.{ValidatorEntityType}
use Rattle.cedar_schema_entries.specs.declared.action.ValidatorActionId.{ValidatorActionId}
use Rattle.cedar_schema_entries.proofs.Among.{uids_by}

module _ {K S : Type 0} (seen : K → S) (cmp : K → K → Ordering) (by : S → S → Ordering) (same : (k l : K) → cmp k l ≡ by (seen k) (seen l)) where
  rising : (ks : List K) → IsStrictlySortedBy cmp ks → rises by (map seen ks) ≡ true
  unfolding IsStrictlySortedBy
  rising [] s = refl
  rising (k ∷ []) s = refl
  rising (k ∷ j ∷ ks) s = hold_both _ _ (is_less (by (seen k) (seen j)) (sym (same k j) ∙ (s.0).0)) (rising (j ∷ ks) s.1)

pub types_rise : (ks : List EntityType) → IsStrictlySortedBy types_by ks → rises name_cmp (map type_name_of ks) ≡ true
types_rise = rising type_name_of types_by name_cmp (λ s t. names_cmp_is s.0.internal t.0.internal)

pub uids_rise : (ks : List EntityUID) → IsStrictlySortedBy uids_by ks → rises uid_cmp (map uid_of ks) ≡ true
uids_rise = rising uid_of uids_by uid_cmp uids_cmp_is

pub texts_rise : (ks : List (RcStr Global)) → IsStrictlySortedBy (λ a b. text_cmp (rc_str_bytes a) (rc_str_bytes b)) ks → rises text_cmp (map rc_str_bytes ks) ≡ true
texts_rise = rising rc_str_bytes (λ a b. text_cmp (rc_str_bytes a) (rc_str_bytes b)) text_cmp (λ a b. refl)

-- an entity type whose kind is this one, and an action
pub type_ordered : (t : ValidatorEntityType) (k : ValidatorEntityTypeKind) → t.kind ≡ k → kind_in_order (kind_with (attributes_of t.attributes) k) ≡ true → IsStrictlySortedBy types_by t.descendants.keys → type_in_order (entity_type_seen t) ≡ true
type_ordered t k is h s =
    hold_both (kind_in_order (kind_with (attributes_of t.attributes) t.kind)) _ (ap (λ j. kind_in_order (kind_with (attributes_of t.attributes) j)) is ∙ h) (types_rise t.descendants.keys s)

pub action_ordered : (a : ValidatorActionId) → IsStrictlySortedBy types_by a.applies_to.principals.keys → IsStrictlySortedBy types_by a.applies_to.resources.keys → IsStrictlySortedBy uids_by a.descendants.keys → action_in_order (action_seen a) ≡ true
action_ordered a p r d = hold_both _ _ (types_rise a.applies_to.principals.keys p) (hold_both _ _ (types_rise a.applies_to.resources.keys r) (uids_rise a.descendants.keys d))

-- Two schemas of which the same is kept are equal where what is kept stands in order.
use Rattle.std.proofs.Common.{◌≡◌, true, sym, ap, ◌∙◌, subst}
use Rattle.std.specs.Prelude.{Contains}
use Rattle.std.proofs.lemmas.Cmp.{nat_list_cmp_total, on_total}
use Rattle.cedar_expr_model.specs.UidOrder.{name_cmp, uid_cmp}
use Rattle.cedar_expr_model.specs.Lists.{rises}
use Rattle.cedar_expr_model.proofs.Lists.{all_each, both_hold}
use Rattle.cedar_schema_model.specs.Schema.{EntityKind, standard, enumerated, external}
use Rattle.cedar_schema_model.specs.Kept.{KeptType, KeptAction, Kept}
use Rattle.cedar_schema_model.specs.KeptOf.{IsSameKind}
use Rattle.cedar_schema_builder.specs.Alike.{AreSameTypes, AreSameActions, IsWithin, AreAlike}
use Rattle.cedar_schema_entries.specs.InOrder.{kind_in_order, type_in_order, action_in_order}
use Rattle.cedar_schema_built.specs.InOrder.{IsInOrder}
use Rattle.cedar_schema_built.proofs.Rising.{name_total, uid_total, rises_seen, same_rising}

same_kind : (j k : EntityKind) → kind_in_order j ≡ true → kind_in_order k ≡ true → IsSameKind j k → j ≡ k
same_kind (standard as_ t) k r s h = sym h
same_kind (enumerated ids) k r s h =
    ap enumerated (same_rising nat_list_cmp_total ids h.0 r (sym (ap kind_in_order h.1) ∙ s) (λ id c. (h.2 id).0 c) (λ id c. (h.2 id).1 c)) ∙ sym h.1
same_kind external k r s h = sym h

same_type : (t u : KeptType) → type_in_order t ≡ true → type_in_order u ≡ true → AreSameTypes t u → t ≡ u
same_type t u r s h =
    let p = both_hold (kind_in_order t.kind) (rises name_cmp t.descendants) r in
    let q = both_hold (kind_in_order u.kind) (rises name_cmp u.descendants) s in
    let kinds : t.kind ≡ u.kind = same_kind t.kind u.kind p.0 q.0 h.kind in
    let below : t.descendants ≡ u.descendants = same_rising name_total t.descendants u.descendants p.1 q.1 (λ n c. (h.below n).0 c) (λ n c. (h.below n).1 c) in
    λ i. record { name = h.name i; kind = kinds i; descendants = below i }

same_action : (a b : KeptAction) → action_in_order a ≡ true → action_in_order b ≡ true → AreSameActions a b → a ≡ b
same_action a b r s h =
    let p = both_hold (rises name_cmp a.applied.principals) _ r in
    let q = both_hold (rises name_cmp b.applied.principals) _ s in
    let v = both_hold (rises name_cmp a.applied.resources) (rises uid_cmp a.descendants) p.1 in
    let w = both_hold (rises name_cmp b.applied.resources) (rises uid_cmp b.descendants) q.1 in
    let principals : a.applied.principals ≡ b.applied.principals = same_rising name_total a.applied.principals b.applied.principals p.0 q.0 (λ n c. (h.principals n).0 c) (λ n c. (h.principals n).1 c) in
    let resources : a.applied.resources ≡ b.applied.resources = same_rising name_total a.applied.resources b.applied.resources v.0 w.0 (λ n c. (h.resources n).0 c) (λ n c. (h.resources n).1 c) in
    let below : a.descendants ≡ b.descendants = same_rising uid_total a.descendants b.descendants v.1 w.1 (λ u c. (h.below u).0 c) (λ u c. (h.below u).1 c) in
    λ i. record { uid = h.uid i; applied = record { principals = principals i; resources = resources i }; context = h.context i; is_external = h.is_external i; descendants = below i }

module _ (k l : Kept) (o : IsInOrder k) (p : IsInOrder l) (within : IsWithin k l) where
  type_within : (t : KeptType) → Contains k.types t → Contains l.types t
  type_within t c =
      let u = within.types t c in
      subst (Contains l.types) (sym (same_type t u.0 (all_each type_in_order k.types o.each_type t c) (all_each type_in_order l.types p.each_type u.0 u.1) u.2)) u.1

  action_within : (a : KeptAction) → Contains k.actions a → Contains l.actions a
  action_within a c =
      let b = within.actions a c in
      subst (Contains l.actions) (sym (same_action a b.0 (all_each action_in_order k.actions o.each_action a c) (all_each action_in_order l.actions p.each_action b.0 b.1) b.2)) b.1

pub alike_are_equal : (k l : Kept) → IsInOrder k → IsInOrder l → AreAlike k l → k ≡ l
alike_are_equal k l o p h =
    let types : k.types ≡ l.types =
    same_rising (on_total (λ (t : KeptType). t.name) name_total) k.types l.types
    (sym (rises_seen name_cmp (λ (t : KeptType). t.name) k.types) ∙ o.types)
    (sym (rises_seen name_cmp (λ (t : KeptType). t.name) l.types) ∙ p.types)
    (type_within k l o p h.0) (type_within l k p o h.1) in
    let actions : k.actions ≡ l.actions =
    same_rising (on_total (λ (a : KeptAction). a.uid) uid_total) k.actions l.actions
    (sym (rises_seen uid_cmp (λ (a : KeptAction). a.uid) k.actions) ∙ o.actions)
    (sym (rises_seen uid_cmp (λ (a : KeptAction). a.uid) l.actions) ∙ p.actions)
    (action_within k l o p h.0) (action_within l k p o h.1) in
    λ i. record { types = types i; actions = actions i }

-- What is kept below something is what descends from it.
use Rattle.std.proofs.Common.{◌≡◌, ◌∙◌, List, Bool, true, false, ◌&&◌, not, Option, Some, None, is_some, refl, sym, ap, subst}
use Rattle.std.specs.Prelude.{Contains}
use Rattle.std.specs.List.{list_any, filter}
use Rattle.std.specs.Option.{option_map_or}
use Rattle.cedar_expr_model.specs.Name.{Name, name_eq}
use Rattle.cedar_expr_model.specs.Uid.{Uid, uid_eq}
use Rattle.cedar_expr_model.proofs.Equality.{name_eq-Decides, uid_eq-Decides}
use Rattle.cedar_expr_model.proofs.Lists.{both_hold, hold_both, map_has, map_from, filter_has, filter_only, any_has, any_from, found-Decides}
use Rattle.cedar_schema_model.specs.ActionEntities.{action_ancestors}
use Rattle.cedar_schema_model.specs.Schema.{EntityType, Action, Schema}
use Rattle.cedar_schema_model.specs.Descent.{type_names, action_uids, HasParent, HasActionParent, Descends, descends, ActionDescends, action_descends, is_action_ancestor}
use Rattle.cedar_schema_model.proofs.Decls.Descent.{chain_starts, descends-Decides, action_descends-Decides, is_action_ancestor-Decides}
use Rattle.cedar_schema_model.specs.Kept.{KeptType, KeptAction, Kept, kept_type, kept_action, kept_action_ancestors}
use Rattle.cedar_schema_model.specs.KeptOf.{IsKeptOf}
use Rattle.cedar_schema_model.specs.KeptLaws.{TypesAreDeclared, ActionsAreDeclared}
use Rattle.cedar_typechecker_model.specs.Alike.{DescendsToDeclared}
use Rattle.cedar_typechecker_model.specs.Asked.{type_is_below, action_is_below}
use Rattle.cedar_typechecker_model.proofs.Seen.Above.{uid_into, action_above_is, is_action_above}
use Rattle.cedar_gate_model.specs.Asked.{is_lacking}
use Rattle.cedar_gate_model.proofs.Looked.{same_test, never, not_so, any_alike, found_there, name_found}

-- chains of declared parents begin at what is declared
parent_declared : (s : Schema) (m n : Name) → HasParent s m n → Contains (type_names s) m
parent_declared s m n h = subst (Contains (type_names s)) (sym h.2) (map_has (λ (t : EntityType). t.name) s.types h.0 h.1)

begins_declared : (s : Schema) (m n : Name) → Descends s m n → Contains (type_names s) m
begins_declared s m n c = chain_starts (HasParent s) (type_names s) (parent_declared s) m c.0 n c.1

action_parent_declared : (s : Schema) (u v : Uid) → HasActionParent s u v → Contains (action_uids s) u
action_parent_declared s u v h = subst (Contains (action_uids s)) (sym h.2) (map_has (λ (a : Action). a.uid) s.actions h.0 h.1)

pub action_begins_declared : (s : Schema) (u v : Uid) → ActionDescends s u v → Contains (action_uids s) u
action_begins_declared s u v c = chain_starts (HasActionParent s) (action_uids s) (action_parent_declared s) u c.0 v c.1

module _ (declared : TypesAreDeclared) (actions_declared : ActionsAreDeclared) (s : Schema) (k : Kept) (h : IsKeptOf s k) where
  uid_kept : (a : KeptAction) → Contains k.actions a → Contains (action_uids s) a.uid
  uid_kept a c = uid_into s k h a.uid (map_has (λ (a : KeptAction). a.uid) k.actions a c)

  -- entity types, where what descends leads to what is declared
  pub type_below_alike : DescendsToDeclared s → (m n : Name) → descends s m n ≡ type_is_below k m n
  type_below_alike d m n = go (kept_type k n) refl
    where
      there : (t : KeptType) → kept_type k n ≡ Some t → descends s m n ≡ list_any (name_eq m) t.descendants
      there t e =
          let r = found_there name_eq name_eq-Decides (λ (t : KeptType). t.name) n k.types t e in
          let below = h.types_below t r.0 m in
          let a = descends-Decides s m n in
          let b = found-Decides name_eq name_eq-Decides m t.descendants in
          same_test (descends s m n) (list_any (name_eq m) t.descendants)
          (λ f. let c = a.0 f in b.1 (below.1 (begins_declared s m n c, subst (Descends s m) r.1 c)))
          (λ f. a.1 (subst (Descends s m) (sym r.1) (below.0 (b.0 f)).1))

      nothing : is_some (kept_type k n) ≡ false → descends s m n ≡ false
      nothing e = never (descends s m n) (λ f. not_so (is_some (kept_type k n)) (declared s k h n ∙ name_found name_eq name_eq-Decides (λ (t : EntityType). t.name) n s.types (d.types m n ((descends-Decides s m n).0 f))) e)

      go : (o : Option KeptType) → kept_type k n ≡ o → descends s m n ≡ type_is_below k m n
      go None e = nothing (ap is_some e) ∙ sym (ap (λ o. option_map_or (λ (t : KeptType). list_any (name_eq m) t.descendants) o false) e)
      go (Some t) e = there t e ∙ sym (ap (λ o. option_map_or (λ (t : KeptType). list_any (name_eq m) t.descendants) o false) e)

  -- actions
  pub ancestor_alike : (u v : Uid) → is_action_ancestor s u v ≡ action_is_below k u v
  ancestor_alike u v = go (kept_action k v) refl
    where
      there : (a : KeptAction) → kept_action k v ≡ Some a → is_action_ancestor s u v ≡ list_any (uid_eq u) a.descendants
      there a e =
          let r = found_there uid_eq uid_eq-Decides (λ (a : KeptAction). a.uid) v k.actions a e in
          let below = h.actions_below a r.0 u in
          let x = is_action_ancestor-Decides s u v in
          let b = found-Decides uid_eq uid_eq-Decides u a.descendants in
          same_test (is_action_ancestor s u v) (list_any (uid_eq u) a.descendants)
          (λ f. let c = (x.0 f).1 in b.1 (below.1 (action_begins_declared s u v c, subst (ActionDescends s u) r.1 c)))
          (λ f. x.1 (subst (Contains (action_uids s)) (sym r.1) (uid_kept a r.0), subst (ActionDescends s u) (sym r.1) (below.0 (b.0 f)).1))

      nothing : is_some (kept_action k v) ≡ false → is_action_ancestor s u v ≡ false
      nothing e = never (is_action_ancestor s u v) (λ f. not_so (is_some (kept_action k v)) (actions_declared s k h v ∙ name_found uid_eq uid_eq-Decides (λ (a : Action). a.uid) v s.actions ((is_action_ancestor-Decides s u v).0 f).0) e)

      go : (o : Option KeptAction) → kept_action k v ≡ o → is_action_ancestor s u v ≡ action_is_below k u v
      go None e = nothing (ap is_some e) ∙ sym (ap (λ o. option_map_or (λ (a : KeptAction). list_any (uid_eq u) a.descendants) o false) e)
      go (Some a) e = there a e ∙ sym (ap (λ o. option_map_or (λ (a : KeptAction). list_any (uid_eq u) a.descendants) o false) e)

  abbrev Lacks : Uid → List Uid → Uid → Bool
  Lacks u vs v = action_descends s u v && not (list_any (uid_eq v) vs)

  pub lacking_alike : (u : Uid) (vs : List Uid) → list_any (λ v. action_descends s u v && not (list_any (uid_eq v) vs)) (action_uids s) ≡ list_any (is_lacking u vs) k.actions
  lacking_alike u vs = same_test (list_any (Lacks u vs) (action_uids s)) (list_any (is_lacking u vs) k.actions) there back
    where
      there : list_any (Lacks u vs) (action_uids s) ≡ true → list_any (is_lacking u vs) k.actions ≡ true
      there e =
          let r = any_from (Lacks u vs) (action_uids s) e in
          let v = r.0 in
          let p = both_hold (action_descends s u v) (not (list_any (uid_eq v) vs)) r.2 in
          let c = (action_descends-Decides s u v).0 p.0 in
          let m = map_from (λ (a : KeptAction). a.uid) (filter (λ a. list_any (uid_eq u) a.descendants) k.actions) v (is_action_above s k h u v (action_begins_declared s u v c) r.1 c) in
          let f = filter_only (λ (a : KeptAction). list_any (uid_eq u) a.descendants) k.actions m.0 m.1 in
          any_has (is_lacking u vs) k.actions m.0 f.0 (hold_both (list_any (uid_eq u) m.0.descendants) (not (list_any (uid_eq m.0.uid) vs)) f.1 (ap (λ w. not (list_any (uid_eq w) vs)) m.2 ∙ p.1))

      back : list_any (is_lacking u vs) k.actions ≡ true → list_any (Lacks u vs) (action_uids s) ≡ true
      back e =
          let r = any_from (is_lacking u vs) k.actions e in
          let a = r.0 in
          let p = both_hold (list_any (uid_eq u) a.descendants) (not (list_any (uid_eq a.uid) vs)) r.2 in
          let below = (h.actions_below a r.1 u).0 ((found-Decides uid_eq uid_eq-Decides u a.descendants).0 p.0) in
          any_has (Lacks u vs) (action_uids s) a.uid (uid_kept a r.1) (hold_both (action_descends s u a.uid) (not (list_any (uid_eq a.uid) vs)) ((action_descends-Decides s u a.uid).1 below.1) p.1)

  -- the ancestors of an action
  pub ancestors_alike : (u v : Uid) → list_any (uid_eq v) (action_ancestors s u) ≡ list_any (uid_eq v) (kept_action_ancestors k u)
  ancestors_alike u v = any_alike (uid_eq v) (action_ancestors s u) (kept_action_ancestors k u) there back
    where
      there : (w : Uid) → Contains (action_ancestors s u) w → Contains (kept_action_ancestors k u) w
      there w c =
          let r = filter_only (action_descends s u) (action_uids s) w c in
          let d = (action_descends-Decides s u w).0 r.1 in
          is_action_above s k h u w (action_begins_declared s u w d) r.0 d

      back : (w : Uid) → Contains (kept_action_ancestors k u) w → Contains (action_ancestors s u) w
      back w c = let r = action_above_is s k h u w c in filter_has (action_descends s u) (action_uids s) w r.1 ((action_descends-Decides s u w).1 r.2)

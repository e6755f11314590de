-- The scope of a policy never errs where its slots are bound, and is false where a slot is bound to a uid that no environment has.
use Rattle.std.proofs.Common.{◌≡◌, ◌||◌, ◌⊎◌, inl, inr, ⊎_elim, Bool, true, false, not, List, [], ◌∷◌, map, Option, Some, None, refl, sym, ap, subst}
use Rattle.cedar_expr_model.specs.Name.{Name, name_eq}
use Rattle.cedar_expr_model.specs.Uid.{Uid}
use Rattle.cedar_expr_model.specs.Value.{entity, V, prim, truth_value}
use Rattle.cedar_expr_model.specs.Builder.{written_truth, folded, conjunction}
use Rattle.cedar_expr_model.specs.Canonical.{members_made, set_made}
use Rattle.cedar_expr_model.specs.Order.{value_eq}
use Rattle.cedar_expr_model.specs.Tree.{Var, action, SlotId, equal, is_in, Tree, lit, var, both, binary, is_type, set_literal}
use Rattle.cedar_expr_model.proofs.Equality.{name_eq-Decides, name_eq_same}
use Rattle.cedar_expr_model.proofs.Lists.{map_from, contains_head}
use Rattle.cedar_expr_model.proofs.Sets.{made_from}
use Rattle.cedar_store_model.specs.Outcome.{Res, val, bind}
use Rattle.cedar_store_model.specs.World.{World, Found, held, missing, not_loaded}
use Rattle.cedar_store_model.specs.Operators.{says, of_type}
use Rattle.cedar_store_model.specs.Reads.{uids_in, is_in_some, found_in}
use Rattle.cedar_store_model.specs.Meaning.{variable, slot_value, combined, picked, truth_asked, outcome_of, outcomes_of}
use Rattle.cedar_store_model.specs.Looks.{Looks}
use Rattle.cedar_store_model.specs.Policy.{Target, named, own_slot, Scope, any, exactly, inside, of_kind, of_kind_inside, ActionScope, any_action, exactly_action, inside_actions, target_tree, scope_tree, action_tree}
use Rattle.cedar_store_model.proofs.Named.{uid_trees}
use Rattle.cedar_store_model.proofs.Built.{conjunction_outcome}
use Rattle.cedar_store_model.proofs.Meaning.{outcome_means}
use Rattle.cedar_schema_model.specs.Types.{only_false, bool_type}
use Rattle.cedar_schema_model.specs.Schema.{Schema, declares_type}
use Rattle.cedar_schema_model.specs.Descent.{type_descends}
use Rattle.cedar_schema_model.specs.Environment.{equal_slot, in_slot}
use Rattle.cedar_schema_model.specs.DeclLaws.{IsAtOrAbove, TakesSlot}
use Rattle.cedar_schema_model.proofs.Types.Lookups.{test_cases}
use Rattle.cedar_schema_model.proofs.Decls.Descent.{type_descends-Decides}
use Rattle.cedar_schema_model.proofs.Decls.Environments.{declares_action-Decides}
use Rattle.cedar_typechecker_model.specs.OfLaws.Simple.{IsOrderly}
use Rattle.cedar_typechecker_model.specs.Soundness.{ConformsAt}
use Rattle.cedar_typechecker_model.specs.Verdicts.{scope_use, fits_slot}
use Rattle.cedar_typechecker_model.proofs.Sound.Attributes.{Fine}
use Rattle.cedar_typechecker_model.proofs.Sound.Operators.{not_equal}
use Rattle.cedar_typechecker_model.proofs.Sound.Membership.{Uids, uids_of, excluded, right_one}
use Rattle.std.specs.Prelude.{IsSome}

-- A truth value, if anything; and nothing else than false.
abbrev pub IsTruth : Option (Res V) → Type 0
IsTruth o = (o ≡ None) ⊎ ((b : Bool) × (o ≡ Some (says b)))

abbrev pub OnlyFalse : Option (Res V) → Type 0
OnlyFalse o = (r : Res V) → o ≡ Some r → r ≡ val (truth_value false)

abbrev pub both_outcome : Option (Res V) → Option (Res V) → Option (Res V)
both_outcome l r = bind l (picked (bind r (λ v. Some (truth_asked v))) (Some (says false)))

none_false : OnlyFalse None
none_false r e = cc

false_false : OnlyFalse (Some (says false))
false_false r e = (let q : val (truth_value false) ≡ r = cc in sym q)

asked_false : (o : Option (Res V)) → OnlyFalse o → OnlyFalse (bind o (λ v. Some (truth_asked v)))
asked_false None h = none_false
asked_false (Some r) h = let q : r ≡ val (truth_value false) = h r refl in subst (λ z. OnlyFalse (bind (Some z) (λ v. Some (truth_asked v)))) (sym q) false_false

both_false : (l r : Option (Res V)) → IsTruth l → (l ≡ Some (says true) → OnlyFalse r) → OnlyFalse (both_outcome l r)
both_false l r (inl e) h = subst (λ z. OnlyFalse (both_outcome z r)) (sym e) none_false
both_false l r (inr (true, e)) h = subst (λ z. OnlyFalse (both_outcome z r)) (sym e) (asked_false r (h e))
both_false l r (inr (false, e)) h = subst (λ z. OnlyFalse (both_outcome z r)) (sym e) false_false

pub conjunction_false : (w : World) (a b : Tree) → IsTruth (outcome_of w a) → (outcome_of w a ≡ Some (says true) → OnlyFalse (outcome_of w b)) → OnlyFalse (outcome_of w (conjunction a b))
conjunction_false w a b h k = subst OnlyFalse (sym (conjunction_outcome w a b)) (both_false (outcome_of w a) (outcome_of w b) h k)

both_truth : (l r : Option (Res V)) → IsTruth l → IsTruth r → IsTruth (both_outcome l r)
both_truth l r (inl e) k = subst (λ z. IsTruth (both_outcome z r)) (sym e) (inl refl)
both_truth l r (inr (false, e)) k = subst (λ z. IsTruth (both_outcome z r)) (sym e) (inr (false, refl))
both_truth l r (inr (true, e)) (inl q) = subst (λ z. IsTruth (both_outcome z r)) (sym e) (subst (λ z. IsTruth (bind z (λ v. Some (truth_asked v)))) (sym q) (inl refl))
both_truth l r (inr (true, e)) (inr (b, q)) = subst (λ z. IsTruth (both_outcome z r)) (sym e) (subst (λ z. IsTruth (bind z (λ v. Some (truth_asked v)))) (sym q) (inr (b, refl)))

conjunction_truth : (w : World) (a b : Tree) → IsTruth (outcome_of w a) → IsTruth (outcome_of w b) → IsTruth (outcome_of w (conjunction a b))
conjunction_truth w a b h k = subst IsTruth (sym (conjunction_outcome w a b)) (both_truth (outcome_of w a) (outcome_of w b) h k)

-- what is looked up on a side is looked up by the conjunction
pub looks_left : (w : World) (a b : Tree) (u : Uid) → Looks w a u → Looks w (conjunction a b) u
looks_left w (lit p) b u h = absurd h
looks_left w a b u h = inl h

not_folded : (f : Bool → Bool → Bool) (o : Option Bool) (t : Tree) → folded f o None t ≡ t
not_folded f None t = refl
not_folded f (Some b) t = refl

pub looks_right : (w : World) (a b : Tree) (u : Uid) → outcome_of w a ≡ Some (says true) → Looks w b u → Looks w (conjunction a b) u
looks_right w a (lit p) u e h = absurd h
looks_right w a b u e h = subst (λ t. Looks w t u) (sym (not_folded _ (written_truth a) (both a b))) (inr (outcome_means w a _ e, h))

-- a part of a scope with a slot asks that it is bound
abbrev pub HasSlot : Scope → Type 0
HasSlot (exactly own_slot) = Unit {0}
HasSlot (inside own_slot) = Unit {0}
HasSlot (of_kind_inside n own_slot) = Unit {0}
HasSlot c = ⊥

-- `==` and `in` of a variable and a target
found_truth : (u : Uid) (v : V) (us : List Uid) (f : Found V) → uids_in v ≡ Some us → IsTruth (found_in u v f)
found_truth u v us (held d) e = inr (_, ap (λ o. Some (is_in_some d.ancestors u o)) e)
found_truth u v us missing e = inr (_, ap (λ o. Some (is_in_some [] u o)) e)
found_truth u v us not_loaded e = inl refl

pub target_known : (w : World) (i : SlotId) (t : Target) → IsSome (w.slots i) → (u : Uid) × (outcome_of w (target_tree i t) ≡ Some (val (prim (entity u))))
target_known w i (named u) h = (u, refl)
target_known w i own_slot h = by (w.slots i) h
  where
    by : (o : Option Uid) → IsSome o → (u : Uid) × (Some (slot_value o) ≡ Some (val (prim (entity u))))
    by None k = cc
    by (Some u) k = (u, refl)

module _ (w : World) (y : Var) (u : Uid) (known : variable w y ≡ Some (val (prim (entity u)))) where
  equal_truth : (t : Tree) (v : Uid) → outcome_of w t ≡ Some (val (prim (entity v))) → outcome_of w (binary equal (var y) t) ≡ Some (says (value_eq (prim (entity u)) (prim (entity v))))
  equal_truth t v e = λ i. bind (known i) (λ a. bind (e i) (combined w equal a))

  pub in_outcome : (t : Tree) (v : V) → outcome_of w t ≡ Some (val v) → outcome_of w (binary is_in (var y) t) ≡ found_in u v (w.store u)
  in_outcome t v e = λ i. bind (known i) (λ a. bind (e i) (combined w is_in a))

  in_truth : (t : Tree) (v : Uid) → outcome_of w t ≡ Some (val (prim (entity v))) → IsTruth (outcome_of w (binary is_in (var y) t))
  in_truth t v e = subst IsTruth (sym (in_outcome t (prim (entity v)) e)) (found_truth u (prim (entity v)) (v ∷ []) (w.store u) refl)

  is_outcome : (n : Name) → outcome_of w (is_type (var y) n) ≡ Some (says (name_eq u.kind n))
  is_outcome n = ap (λ o. bind o (λ v. Some (of_type n v))) known

  pub scope_truth : (i : SlotId) (c : Scope) → (HasSlot c → IsSome (w.slots i)) → IsTruth (outcome_of w (scope_tree y i c))
  scope_truth i any h = inr (true, refl)
  scope_truth i (exactly (named v)) h = inr (_, equal_truth (lit (entity v)) v refl)
  scope_truth i (exactly own_slot) h = let k = target_known w i own_slot (h tt) in inr (_, equal_truth (target_tree i own_slot) k.0 k.1)
  scope_truth i (inside (named v)) h = in_truth (lit (entity v)) v refl
  scope_truth i (inside own_slot) h = let k = target_known w i own_slot (h tt) in in_truth (target_tree i own_slot) k.0 k.1
  scope_truth i (of_kind n) h = inr (_, is_outcome n)
  scope_truth i (of_kind_inside n (named v)) h = conjunction_truth w (is_type (var y) n) (binary is_in (var y) (lit (entity v))) (inr (_, is_outcome n)) (in_truth (lit (entity v)) v refl)
  scope_truth i (of_kind_inside n own_slot) h =
      let k = target_known w i own_slot (h tt) in
      conjunction_truth w (is_type (var y) n) (binary is_in (var y) (target_tree i own_slot)) (inr (_, is_outcome n)) (in_truth (target_tree i own_slot) k.0 k.1)

-- the action part
uids_outcome : (w : World) (us : List Uid) → outcomes_of w (uid_trees us) ≡ Some (val (map (λ u. prim (entity u)) us))
uids_outcome w [] = refl
uids_outcome w (u ∷ us) = ap (λ o. bind o (λ vs. Some (val (prim (entity u) ∷ vs)))) (uids_outcome w us)

pub set_outcome : (w : World) (us : List Uid) → outcome_of w (set_literal (uid_trees us)) ≡ Some (val (set_made (map (λ u. prim (entity u)) us)))
set_outcome w us = ap (λ o. bind o (λ vs. Some (val (set_made vs)))) (uids_outcome w us)

set_uids : (us : List Uid) → Uids (members_made (map (λ u. prim (entity u)) us))
set_uids us =
    let vs = map (λ (u : Uid). prim (entity u)) us in
    uids_of (members_made vs) (λ v i. let k = map_from (λ (u : Uid). prim (entity u)) us v (made_from v vs i) in (k.0, sym k.2))

pub action_truth : (w : World) (u : Uid) → variable w action ≡ Some (val (prim (entity u))) → (c : ActionScope) → IsTruth (outcome_of w (action_tree c))
action_truth w u known any_action = inr (true, refl)
action_truth w u known (exactly_action v) = inr (_, equal_truth w action u known (lit (entity v)) v refl)
action_truth w u known (inside_actions us) =
    let r = set_uids us in
    subst IsTruth (sym (in_outcome w action u known (set_literal (uid_trees us)) (set_made (map (λ u. prim (entity u)) us)) (set_outcome w us))) (found_truth u (set_made (map (λ u. prim (entity u)) us)) r.list (w.store u) r.are)

-- The slot fits an environment of the policy, or it has a uid that none has.
abbrev pub IsTaken : Schema → Scope → Name → Option Uid → Type 0
IsTaken s c n b = (t : Option Name) × TakesSlot s (scope_use c) n t × (fits_slot t b ≡ true)

abbrev pub IsUnfit : Schema → Scope → Name → Option Uid → Type 0
IsUnfit s (exactly own_slot) n b = (u : Uid) × (b ≡ Some u) × (name_eq n u.kind ≡ false)
IsUnfit s (inside own_slot) n b = (u : Uid) × (b ≡ Some u) × ((name_eq n u.kind || type_descends s n u.kind) ≡ false)
IsUnfit s (of_kind_inside m own_slot) n b = (u : Uid) × (b ≡ Some u) × ((name_eq n u.kind || type_descends s n u.kind) ≡ false)
IsUnfit s c n b = ⊥

-- a declared type descends by declared parents alone, to declared types
at_or_above : (s : Schema) → IsOrderly s → (n m : Name) → declares_type s n ≡ true → (name_eq n m || type_descends s n m) ≡ true → IsAtOrAbove s n m
at_or_above s o n m d h =
    test_cases (name_eq n m)
    (λ e. inl (sym ((name_eq-Decides n m).0 e)))
    (λ e. let k : type_descends s n m ≡ true = subst (λ b. (b || type_descends s n m) ≡ true) e h in
    ⊎_elim
    (λ r. inr (o.above n m r, r))
    (λ a. let q = o.apart a.0 ((declares_action-Decides s a.0).1 a.1) in absurd (clash (subst (λ z. declares_type s z ≡ true) a.2 d) q))
    ((type_descends-Decides s n m).0 k))
  where
    clash : {b : Bool} → b ≡ true → b ≡ false → ⊥
    clash e f = cc

slot_in : (s : Schema) → IsOrderly s → (n : Name) (b : Option Uid) → declares_type s n ≡ true → IsSome b → ((t : Option Name) × TakesSlot s in_slot n t × (fits_slot t b ≡ true)) ⊎ ((u : Uid) × (b ≡ Some u) × ((name_eq n u.kind || type_descends s n u.kind) ≡ false))
slot_in s o n None d h = cc
slot_in s o n (Some u) d h =
    test_cases (name_eq n u.kind || type_descends s n u.kind)
    (λ e. inl (Some u.kind, (u.kind, at_or_above s o n u.kind d e, refl), name_eq_same u.kind))
    (λ e. inr (u, refl, e))

slot_equal : (s : Schema) (n : Name) (b : Option Uid) → IsSome b → ((t : Option Name) × TakesSlot s equal_slot n t × (fits_slot t b ≡ true)) ⊎ ((u : Uid) × (b ≡ Some u) × (name_eq n u.kind ≡ false))
slot_equal s n None h = cc
slot_equal s n (Some u) h = test_cases (name_eq n u.kind) (λ e. inl (Some n, refl, e)) (λ e. inr (u, refl, e))

pub slot_choice : (s : Schema) → IsOrderly s → (c : Scope) (n : Name) (b : Option Uid) → declares_type s n ≡ true → (HasSlot c → IsSome b) → IsTaken s c n b ⊎ IsUnfit s c n b
slot_choice s o any n b d h = inl (None, refl, refl)
slot_choice s o (exactly (named v)) n b d h = inl (None, refl, refl)
slot_choice s o (exactly own_slot) n b d h = slot_equal s n b (h tt)
slot_choice s o (inside (named v)) n b d h = inl (None, refl, refl)
slot_choice s o (inside own_slot) n b d h = slot_in s o n b d (h tt)
slot_choice s o (of_kind m) n b d h = inl (None, refl, refl)
slot_choice s o (of_kind_inside m (named v)) n b d h = inl (None, refl, refl)
slot_choice s o (of_kind_inside m own_slot) n b d h = slot_in s o n b d (h tt)

-- an unfit slot makes the part false
only_false_of : (o : Option (Res V)) → IsTruth o → Fine (bool_type only_false) o → OnlyFalse o
only_false_of o (inl e) h = subst OnlyFalse (sym e) none_false
only_false_of o (inr (b, e)) h = subst OnlyFalse (sym e) (by b (subst (Fine (bool_type only_false)) e h))
  where
    by : (c : Bool) → not c ≡ true → OnlyFalse (Some (says c))
    by true k = cc
    by false k = false_false

module _ (s : Schema) (w : World) (y : Var) (i : SlotId) (u v : Uid) (known : variable w y ≡ Some (val (prim (entity u)))) (bound : w.slots i ≡ Some v) where
  slot_is : outcome_of w (target_tree i own_slot) ≡ Some (val (prim (entity v)))
  slot_is = ap (λ o. Some (slot_value o)) bound

  equal_false : name_eq u.kind v.kind ≡ false → OnlyFalse (outcome_of w (binary equal (var y) (target_tree i own_slot)))
  equal_false n =
      let q : not (value_eq (prim (entity u)) (prim (entity v))) ≡ true = not_equal (prim (entity u)) (prim (entity v)) (λ (e : prim (entity u) ≡ prim (entity v)). clash n e) in
      subst OnlyFalse (sym (equal_truth w y u known (target_tree i own_slot) v slot_is)) (only_false_of (Some (says (value_eq (prim (entity u)) (prim (entity v))))) (inr (_, refl)) q)
    where
      clash : name_eq u.kind v.kind ≡ false → prim (entity u) ≡ prim (entity v) → ⊥
      clash e p = (let r : u ≡ v = cc in let q = (name_eq-Decides u.kind v.kind).1 (ap (λ (z : Uid). z.kind) r) in cc)

  in_false : (name_eq u.kind v.kind || type_descends s u.kind v.kind) ≡ false → ConformsAt s w u → OnlyFalse (outcome_of w (binary is_in (var y) (target_tree i own_slot)))
  in_false n c =
      only_false_of (outcome_of w (binary is_in (var y) (target_tree i own_slot))) (in_truth w y u known (target_tree i own_slot) v slot_is)
      (subst (Fine (bool_type only_false)) (sym (in_outcome w y u known (target_tree i own_slot) (prim (entity v)) slot_is))
      (excluded s (Some (u.kind ∷ [])) (Some (v.kind ∷ [])) w u (prim (entity v)) (w.store u) refl c (contains_head u.kind []) (right_one (Some (v.kind ∷ [])) (prim (entity v)) v refl (contains_head v.kind []))
      (alone (name_eq u.kind v.kind || type_descends s u.kind v.kind) n)))
    where
      alone : (b : Bool) → b ≡ false → ((b || false) || false) ≡ false
      alone true e = cc
      alone false e = refl

-- `in` looks its variable up
in_looks : (w : World) (y : Var) (i : SlotId) (u v : Uid) → variable w y ≡ Some (val (prim (entity u))) → w.slots i ≡ Some v → Looks w (binary is_in (var y) (target_tree i own_slot)) u
in_looks w y i u v known bound = inr (prim (entity u), outcome_means w (var y) _ known, inr (prim (entity v), outcome_means w (target_tree i own_slot) _ (ap (λ o. Some (slot_value o)) bound), refl))

pub scope_false : (s : Schema) (w : World) (y : Var) (i : SlotId) (u : Uid) (c : Scope) → variable w y ≡ Some (val (prim (entity u))) → IsUnfit s c u.kind (w.slots i) → ((z : Uid) → Looks w (scope_tree y i c) z → ConformsAt s w z) → OnlyFalse (outcome_of w (scope_tree y i c))
scope_false s w y i u (exactly own_slot) known h l = equal_false s w y i u h.0 known h.1 h.2
scope_false s w y i u (inside own_slot) known h l = in_false s w y i u h.0 known h.1 h.2 (l u (in_looks w y i u h.0 known h.1))
scope_false s w y i u (of_kind_inside m own_slot) known h l =
    conjunction_false w (is_type (var y) m) (binary is_in (var y) (target_tree i own_slot)) (inr (_, is_outcome w y u known m))
    (λ e. in_false s w y i u h.0 known h.1 h.2 (l u (looks_right w (is_type (var y) m) (binary is_in (var y) (target_tree i own_slot)) u e (in_looks w y i u h.0 known h.1))))
scope_false s w y i u any known h l = absurd h
scope_false s w y i u (exactly (named v)) known h l = absurd h
scope_false s w y i u (inside (named v)) known h l = absurd h
scope_false s w y i u (of_kind m) known h l = absurd h
scope_false s w y i u (of_kind_inside m (named v)) known h l = absurd h

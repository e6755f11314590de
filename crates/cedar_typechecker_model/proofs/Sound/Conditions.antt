-- What the condition of a policy looks up is near or a declared action, whatever its slots are bound to.
use Rattle.std.proofs.Common.{◌≡◌, ◌⊎◌, inl, inr, ⊎_elim, ℕ, Bool, true, false, List, [], ◌∷◌, map, Option, Some, None, refl, sym, ap, ◌∙◌, subst}
use Rattle.std.specs.Prelude.{Contains, IsSome}
use Rattle.std.specs.List.{flat_map}
use Rattle.std.proofs.lemmas.List.Concat.{flat_map-cons}
use Rattle.cedar_expr_model.specs.Name.{Name}
use Rattle.cedar_expr_model.specs.Uid.{Uid}
use Rattle.cedar_expr_model.specs.Canonical.{set_made}
use Rattle.cedar_expr_model.specs.Builder.{written_truth, folded, conjunction}
use Rattle.cedar_expr_model.specs.Table.{Table}
use Rattle.cedar_expr_model.specs.Tree.{Var, principal, action, resource, SlotId, principal_slot, resource_slot, is_in, equal, Tree, var, lit, binary, both, is_type, set_literal}
use Rattle.cedar_expr_model.specs.Value.{entity, V, prim}
use Rattle.cedar_expr_model.proofs.Equality.{name_eq_same}
use Rattle.cedar_expr_model.proofs.Lists.{contains_cases, contains_none}
use Rattle.cedar_store_model.specs.Outcome.{val, bind}
use Rattle.cedar_store_model.specs.World.{World}
use Rattle.cedar_store_model.specs.Operators.{says, of_type}
use Rattle.cedar_store_model.specs.Meaning.{slot_value, variable, combined, outcome_of}
use Rattle.cedar_store_model.proofs.Named.{known_uid, uid_trees, principal_tree, resource_tree}
use Rattle.cedar_store_model.specs.Looks.{Looks, AnyLooks}
use Rattle.cedar_store_model.specs.Policy.{Policy, SlotBindings, Target, named, own_slot, Scope, any, exactly, inside, of_kind, of_kind_inside, target_tree, scope_tree, ActionScope, any_action, exactly_action, inside_actions, action_tree, body_tree, condition, has_slot}
use Rattle.cedar_store_model.specs.Answer.{with_slots}
use Rattle.cedar_store_model.proofs.Meaning.{means_outcome, outcome_means}
use Rattle.cedar_schema_model.specs.Types.{Ty, bool_type, strict}
use Rattle.cedar_schema_model.specs.Schema.{Schema, declares_action}
use Rattle.cedar_schema_model.specs.Environment.{Environment}
use Rattle.cedar_typechecker_model.specs.Facts.{Facts, no_facts}
use Rattle.cedar_typechecker_model.specs.Levels.{Violation, violations}
use Rattle.cedar_typechecker_model.specs.Typing.{Types, type_of}
use Rattle.cedar_typechecker_model.specs.Soundness.{ConformsAt}
use Rattle.cedar_typechecker_model.specs.PolicySoundness.{IsBound, IsCovered}
use Rattle.cedar_typechecker_model.specs.Verdicts.{strictly, policy_environments, violations_in, policy_violations, Passes}
use Rattle.cedar_typechecker_model.proofs.Named.{if_typed}
use Rattle.cedar_typechecker_model.proofs.Sound.Counted.{none_of_both, type_is}
use Rattle.cedar_typechecker_model.proofs.Sound.Facts.{hold_none}
use Rattle.cedar_typechecker_model.proofs.Sound.Leading.{at_entity}
use Rattle.cedar_typechecker_model.proofs.Sound.Policies.{IsConforming, slots_in, known_principal, known_action, known_resource, not_true, covered, condition_bound, principal_bound, principal_choice, resource_choice}
use Rattle.cedar_typechecker_model.proofs.Sound.Reached.{Nearness, Reached, conform_at}
use Rattle.cedar_typechecker_model.proofs.Sound.Reaching.{looks_reached}
use Rattle.cedar_typechecker_model.proofs.Sound.Scopes.{both_outcome, looks_left, looks_right, HasSlot, in_outcome, target_known, set_outcome, IsTaken, IsUnfit, scope_false}
use Rattle.cedar_typechecker_model.proofs.Sound.Written.{uid_known, action_declared}

-- what a conjunction looks up
folded_looks : (f : Bool → Bool → Bool) (o p : Option Bool) (w : World) (t : Tree) (u : Uid) → Looks w (folded f o p t) u → Looks w t u
folded_looks f (Some a) (Some b) w t u h = absurd h
folded_looks f (Some a) None w t u h = h
folded_looks f None p w t u h = h

looks_parts : (w : World) (a b : Tree) (u : Uid) → Looks w (conjunction a b) u → Looks w a u ⊎ ((outcome_of w a ≡ Some (says true)) × Looks w b u)
looks_parts w a b u h = ⊎_elim (λ k. inl k) (λ k. inr (means_outcome w a _ k.0, k.1)) (folded_looks _ (written_truth a) (written_truth b) w (both a b) u h)

-- a target looks nothing up
target_looks : (w : World) (i : SlotId) (t : Target) (u : Uid) → Looks w (target_tree i t) u → ⊥
target_looks w i (named v) u h = h
target_looks w i own_slot u h = h

uids_look : (w : World) (us : List Uid) (u : Uid) → AnyLooks w (uid_trees us) u → ⊥
uids_look w [] u h = h
uids_look w (v ∷ us) u h = ⊎_elim (λ k. k) (λ k. uids_look w us u k.2) h

-- a variable's `in` looks the variable up
in_looks : (w : World) (y : Var) (t : Tree) (u : Uid) → (Looks w t u → ⊥) → Looks w (binary is_in (var y) t) u → variable w y ≡ Some (val (prim (entity u)))
in_looks w y t u n (inl k) = absurd k
in_looks w y t u n (inr (v, m, inl k)) = absurd (n k)
in_looks w y t u n (inr (v, m, inr (v', m', q))) = means_outcome w (var y) (val v) m ∙ ap (λ z. Some (val z)) q

looks_in : (w : World) (y : Var) (t : Tree) (u : Uid) (v : V) → variable w y ≡ Some (val (prim (entity u))) → outcome_of w t ≡ Some (val v) → Looks w (binary is_in (var y) t) u
looks_in w y t u v k e = inr (prim (entity u), outcome_means w (var y) _ k, inr (v, outcome_means w t _ e, refl))

equal_looks : (w : World) (y : Var) (t : Tree) (u : Uid) → (Looks w t u → ⊥) → Looks w (binary equal (var y) t) u → ⊥
equal_looks w y t u n (inl k) = k
equal_looks w y t u n (inr (v, m, inl k)) = n k
equal_looks w y t u n (inr (v, m, inr (v', m', q))) = q

-- an action part looks up the action
action_uid : (w : World) (c : ActionScope) (u : Uid) → Looks w (action_tree c) u → w.action ≡ Some u
action_uid w any_action u h = absurd h
action_uid w (exactly_action v) u h = absurd (equal_looks w action (lit (entity v)) u (λ k. k) h)
action_uid w (inside_actions us) u h =
    let k = uid_known w.action (prim (entity u)) (in_looks w action (set_literal (uid_trees us)) u (λ k. uids_look w us u k) h) in
    k.1 ∙ ap Some (at_entity k.0 [] u (sym k.2))

-- a part of a scope looks up the same in worlds with other slots
module _ (w v : World) (y : Var) (i : SlotId) (same : variable w y ≡ variable v y) where
  in_both : (t : Target) (z u : Uid) → outcome_of v (target_tree i t) ≡ Some (val (prim (entity z))) → Looks w (binary is_in (var y) (target_tree i t)) u → Looks v (binary is_in (var y) (target_tree i t)) u
  in_both t z u e h = looks_in v y (target_tree i t) u (prim (entity z)) (sym same ∙ in_looks w y (target_tree i t) u (target_looks w i t u) h) e

  within_both : (n : Name) (t : Target) (z u : Uid) → outcome_of v (target_tree i t) ≡ Some (val (prim (entity z))) → Looks w (conjunction (is_type (var y) n) (binary is_in (var y) (target_tree i t))) u
      → Looks v (conjunction (is_type (var y) n) (binary is_in (var y) (target_tree i t))) u
  within_both n t z u e (inl h) = absurd h
  within_both n t z u e (inr (m, h)) =
      inr (outcome_means v (is_type (var y) n) (says true) (ap (λ o. bind o (λ k. Some (of_type n k))) (sym same) ∙ means_outcome w (is_type (var y) n) (says true) m), in_both t z u e h)

  scope_looks : (c : Scope) → (HasSlot c → IsSome (v.slots i)) → (u : Uid) → Looks w (scope_tree y i c) u → Looks v (scope_tree y i c) u
  scope_looks any h u l = absurd l
  scope_looks (exactly t) h u l = absurd (equal_looks w y (target_tree i t) u (target_looks w i t u) l)
  scope_looks (inside (named z)) h u l = in_both (named z) z u refl l
  scope_looks (inside own_slot) h u l = let k = target_known v i own_slot (h tt) in in_both own_slot k.0 u k.1 l
  scope_looks (of_kind n) h u l = absurd l
  scope_looks (of_kind_inside n (named z)) h u l = within_both n (named z) z u refl l
  scope_looks (of_kind_inside n own_slot) h u l = let k = target_known v i own_slot (h tt) in within_both n own_slot k.0 u k.1 l

-- the parts before that of the resource mean the same in worlds with another slot of the resource
module _ (w : World) (b d : SlotBindings) (same : d.principal ≡ b.principal) where
  in_same : (y : Var) (u : Uid) (t : Tree) (v : V) → variable (with_slots w b) y ≡ Some (val (prim (entity u))) → variable (with_slots w d) y ≡ Some (val (prim (entity u)))
      → outcome_of (with_slots w b) t ≡ Some (val v) → outcome_of (with_slots w d) t ≡ Some (val v) → outcome_of (with_slots w b) (binary is_in (var y) t) ≡ outcome_of (with_slots w d) (binary is_in (var y) t)
  in_same y u t v k l e f = in_outcome (with_slots w b) y u k t v e ∙ sym (in_outcome (with_slots w d) y u l t v f)

  own_same : (z : Uid) → outcome_of (with_slots w b) (target_tree principal_slot own_slot) ≡ Some (val (prim (entity z))) → outcome_of (with_slots w d) (target_tree principal_slot own_slot) ≡ Some (val (prim (entity z)))
  own_same z e = ap (λ o. Some (slot_value o)) same ∙ e

  within_same : (n : Name) (t : Tree) → outcome_of (with_slots w b) (binary is_in (var principal) t) ≡ outcome_of (with_slots w d) (binary is_in (var principal) t)
      → outcome_of (with_slots w b) (conjunction (is_type (var principal) n) (binary is_in (var principal) t)) ≡ outcome_of (with_slots w d) (conjunction (is_type (var principal) n) (binary is_in (var principal) t))
  within_same n t e = ap (both_outcome (outcome_of (with_slots w b) (is_type (var principal) n))) e

  module _ (u : Uid) (known : variable (with_slots w b) principal ≡ Some (val (prim (entity u)))) where
    principal_same : (c : Scope) → (HasSlot c → IsSome b.principal) → outcome_of (with_slots w b) (scope_tree principal principal_slot c) ≡ outcome_of (with_slots w d) (scope_tree principal principal_slot c)
    principal_same any h = refl
    principal_same (exactly (named z)) h = refl
    principal_same (exactly own_slot) h = ap (λ o. bind (known_uid w.principal) (λ a. bind (Some (slot_value o)) (combined (with_slots w b) equal a))) (sym same)
    principal_same (inside (named z)) h = in_same principal u (lit (entity z)) (prim (entity z)) known known refl refl
    principal_same (inside own_slot) h =
        let k = target_known (with_slots w b) principal_slot own_slot (h tt) in
        in_same principal u (target_tree principal_slot own_slot) (prim (entity k.0)) known known k.1 (own_same k.0 k.1)
    principal_same (of_kind n) h = refl
    principal_same (of_kind_inside n (named z)) h = within_same n (lit (entity z)) (in_same principal u (lit (entity z)) (prim (entity z)) known known refl refl)
    principal_same (of_kind_inside n own_slot) h =
        let k = target_known (with_slots w b) principal_slot own_slot (h tt) in
        within_same n (target_tree principal_slot own_slot) (in_same principal u (target_tree principal_slot own_slot) (prim (entity k.0)) known known k.1 (own_same k.0 k.1))

  action_same : (u : Uid) → variable (with_slots w b) action ≡ Some (val (prim (entity u))) → (c : ActionScope) → outcome_of (with_slots w b) (action_tree c) ≡ outcome_of (with_slots w d) (action_tree c)
  action_same u known any_action = refl
  action_same u known (exactly_action v) = refl
  action_same u known (inside_actions us) = in_same action u (set_literal (uid_trees us)) (set_made (map (λ z. prim (entity z)) us)) known known (set_outcome (with_slots w b) us) (set_outcome (with_slots w d) us)

-- no violations of a policy are none in each environment where its condition has a type
flat_nothing : {X Y : Type 0} (f : X → List Y) (xs : List X) → flat_map f xs ≡ [] → (x : X) → Contains xs x → f x ≡ []
flat_nothing f [] h x k = absurd (contains_none x k)
flat_nothing f (y ∷ ys) h x k =
    let r = none_of_both (f y) (flat_map f ys) (sym (flat_map-cons f y ys) ∙ h) in
    contains_cases (f x ≡ []) y ys x k (λ e. ap f (sym e) ∙ r.0) (λ m. flat_nothing f ys r.1 x m)

typed_nothing : (t : Option Ty) (vs : List Violation) (ty : Ty) → t ≡ Some ty → if_typed t vs ≡ [] → vs ≡ []
typed_nothing None vs ty e h = cc
typed_nothing (Some t) vs ty e h = h

-- with a slot that doesn't fit, the uid of its variable does
own_fits : (s : Schema) (c : Scope) (u : Uid) (b : Option Uid) → IsUnfit s c u.kind b → IsTaken s c u.kind (Some u)
own_fits s (exactly own_slot) u b h = (Some u.kind, refl, name_eq_same u.kind)
own_fits s (inside own_slot) u b h = (Some u.kind, (u.kind, inl refl, refl), name_eq_same u.kind)
own_fits s (of_kind_inside n own_slot) u b h = (Some u.kind, (u.kind, inl refl, refl), name_eq_same u.kind)
own_fits s any u b h = absurd h
own_fits s (exactly (named v)) u b h = absurd h
own_fits s (inside (named v)) u b h = absurd h
own_fits s (of_kind n) u b h = absurd h
own_fits s (of_kind_inside n (named v)) u b h = absurd h

abbrev rebound : Policy → SlotBindings → Policy
rebound p b = record p { bindings = b }

module _ (s : Schema) (x : Table) (w : World) (p : Policy) (c : IsConforming s x w) (bound : IsBound p) (Near : ℕ → Uid → Type 0) (near : Nearness w Near) (n : ℕ) where
  -- what is near is near for any bindings
  near_with : (b : SlotBindings) → Nearness (with_slots w b) Near
  near_with b = record { principal = near.principal; resource = near.resource; context = near.context; attribute = near.attribute; tag = near.tag; more = near.more }

  module _ (conform : (u : Uid) → Near n u → declares_action s u ≡ false → ConformsAt s w u) (passes : Passes s x p) (nothing : policy_violations n s x p ≡ []) where
    nothing_at : (e : Environment) → Contains (policy_environments s p) e → (ty : Ty) (out : Facts) → Types (strictly s x e) no_facts (condition p) ty out → violations n (strictly s x e) no_facts (condition p) ≡ []
    nothing_at e k ty out d = typed_nothing (type_of (strictly s x e) (condition p)) _ ty (type_is (strictly s x e) no_facts (condition p) ty out d) (flat_nothing (violations_in strict n s x p) (policy_environments s p) nothing e k)

    -- where the bindings fit
    fit_reached : (b : SlotBindings) → IsBound (rebound p b) → IsCovered s x w (rebound p b) → (u : Uid) → Looks (with_slots w b) (condition p) u → Reached s Near n u
    fit_reached b h k u l =
        let d = passes k.0 k.1 in
        looks_reached s x k.0 (with_slots w b) k.3 Near (near_with b) n conform no_facts (hold_none (with_slots w b)) (condition p) (slots_in (with_slots w b) (condition p) (condition_bound s x w (rebound p b) c h)) (bool_type d.0) d.1 d.2
        (nothing_at k.0 k.1 (bool_type d.0) d.1 d.2) u l

    fit_conform : (b : SlotBindings) → IsBound (rebound p b) → IsCovered s x w (rebound p b) → (u : Uid) → Looks (with_slots w b) (condition p) u → ConformsAt s w u
    fit_conform b h k u l = conform_at s x k.0 (with_slots w b) k.3 Near (near_with b) n conform u (fit_reached b h k u l)

    abbrev here : World
    here = with_slots w p.bindings

    abbrev after_first : Tree
    after_first = conjunction (action_tree p.action) (conjunction (resource_tree p) (body_tree p.body))

    abbrev after_second : Tree
    after_second = conjunction (resource_tree p) (body_tree p.body)

    -- the action is declared
    action_looked : (z : Uid) (q : Policy) → w.action ≡ Some z → IsCovered s x w q → declares_action s z ≡ true
    action_looked z q e k = subst (λ y. declares_action s y ≡ true) (sym ((k.3).action z e)) (action_declared s x k.0 (with_slots w q.bindings) k.3)

    -- where the slot of the principal doesn't fit
    principal_unfit : (o : Option Uid) → (has_slot p resource_slot ≡ true → IsSome o) → IsTaken s p.resource c.request.0.resource.kind o → IsUnfit s p.principal c.request.0.principal.kind p.bindings.principal
        → (u : Uid) → Looks here (condition p) u → Reached s Near n u
    principal_unfit o h k f u l =
        let b : SlotBindings = record { principal = Some c.request.0.principal; resource = o } in
        let there = bindings_there o h in
        let cov = covered s x w (rebound p b) c (own_fits s p.principal c.request.0.principal p.bindings.principal f) k in
        let moved = λ (z : Uid) (m : Looks here (principal_tree p) z). looks_left (with_slots w b) (principal_tree p) after_first z (scope_looks here (with_slots w b) principal principal_slot refl p.principal (λ i. refl) z m) in
        let r = scope_false s here principal principal_slot c.request.0.principal p.principal (known_principal s x w p c) f (λ z m. fit_conform b there cov z (moved z m)) in
        ⊎_elim (λ m. fit_reached b there cov u (moved u m)) (λ m. absurd (not_true s x w p c _ r m.0)) (looks_parts here (principal_tree p) after_first u l)
      where
        bindings_there : (o : Option Uid) → (has_slot p resource_slot ≡ true → IsSome o) → IsBound (rebound p (record { principal = Some c.request.0.principal; resource = o }))
        bindings_there o h principal_slot k = refl
        bindings_there o h resource_slot k = h k

    -- where that of the resource doesn't
    resource_unfit : IsTaken s p.principal c.request.0.principal.kind p.bindings.principal → IsUnfit s p.resource c.request.0.resource.kind p.bindings.resource → (u : Uid) → Looks here (condition p) u → Reached s Near n u
    resource_unfit k f u l =
        let b : SlotBindings = record { principal = p.bindings.principal; resource = Some c.request.0.resource } in
        let cov = covered s x w (rebound p b) c k (own_fits s p.resource c.request.0.resource p.bindings.resource f) in
        let reached = λ (z : Uid) (m : Looks (with_slots w b) (condition p) z). fit_reached b bindings_there cov z m in
        let first_moved = λ (z : Uid) (m : Looks here (principal_tree p) z). looks_left (with_slots w b) (principal_tree p) after_first z (scope_looks here (with_slots w b) principal principal_slot refl p.principal (principal_bound s x w p c bound) z m) in
        let first_same = principal_same w p.bindings b refl c.request.0.principal (known_principal s x w p c) p.principal (principal_bound s x w p c bound) in
        let second_same = action_same w p.bindings b refl c.request.0.action (known_action s x w p c) p.action in
        let third_moved = λ (z : Uid) (i : outcome_of here (principal_tree p) ≡ Some (says true)) (j : outcome_of here (action_tree p.action) ≡ Some (says true)) (m : Looks here (resource_tree p) z).
        looks_right (with_slots w b) (principal_tree p) after_first z (sym first_same ∙ i) (looks_right (with_slots w b) (action_tree p.action) after_second z (sym second_same ∙ j)
        (looks_left (with_slots w b) (resource_tree p) (body_tree p.body) z (scope_looks here (with_slots w b) resource resource_slot refl p.resource (λ i. refl) z m))) in
        ⊎_elim (λ m. reached u (first_moved u m))
        (λ m. ⊎_elim (λ j. inr (action_looked u (rebound p b) (action_uid here p.action u j) cov))
        (λ j. (let r = scope_false s here resource resource_slot c.request.0.resource p.resource (known_resource s x w p c) f (λ z i. fit_conform b bindings_there cov z (third_moved z m.0 j.0 i)) in
        ⊎_elim (λ i. reached u (third_moved u m.0 j.0 i)) (λ i. absurd (not_true s x w p c _ r i.0)) (looks_parts here (resource_tree p) (body_tree p.body) u j.1)))
        (looks_parts here (action_tree p.action) after_second u m.1))
        (looks_parts here (principal_tree p) after_first u l)
      where
        bindings_there : IsBound (rebound p (record { principal = p.bindings.principal; resource = Some c.request.0.resource }))
        bindings_there principal_slot k = bound principal_slot k
        bindings_there resource_slot k = refl

    pub condition_reached : (u : Uid) → Looks here (condition p) u → Reached s Near n u
    condition_reached u l =
        ⊎_elim
        (λ k. ⊎_elim (λ m. fit_reached p.bindings bound (covered s x w p c k m) u l) (λ f. resource_unfit k f u l) (resource_choice s x w p c bound))
        (λ f. ⊎_elim (λ m. principal_unfit p.bindings.resource (bound resource_slot) m f u l) (λ g. principal_unfit (Some c.request.0.resource) (λ i. refl) (own_fits s p.resource c.request.0.resource p.bindings.resource g) f u l) (resource_choice s x w p c bound))
        (principal_choice s x w p c bound)

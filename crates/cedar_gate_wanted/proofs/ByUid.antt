-- Maps with uids as keys, by the uids that their keys hold.
use Rattle.std.proofs.Common.{◌≡◌, ◌⊎◌, ◌&&◌, ◌||◌, inl, inr, Bool, true, false, cond, List, [], ◌∷◌, map, Option, Some, None, is_some, refl, sym, ap, ◌∙◌, subst}
use Rattle.std.proofs.lemmas.Map.Text.{is_eq-slice_cmp}
use Rattle.std.specs.BTreeMap.{is_at}
use Rattle.std.specs.Cmp.Lexicographic.{slice_cmp}
use Rattle.std.specs.List.{list_any}
use Rattle.std.specs.Map.{lookup, keys_of}
use Rattle.std.specs.Ordering.{is_eq, nat_cmp, ordering_then}
use Rattle.std.specs.declared.cmp.Ordering.{Ordering}
use Rattle.std.specs.declared.cmp.Ordering.TheVariants.{Less, Equal, Greater}
use Rattle.cedar_expr_model.specs.Uid.{Uid, uid_eq}
use Rattle.cedar_expr_model.proofs.Equality.{uid_eq-Decides}
use Rattle.cedar_expr_names.specs.Views.{name_bytes, eid_text, uid_of}
use Rattle.cedar_expr_names.specs.declared.entity.EntityUID.{EntityUID}
use Rattle.cedar_expr_names.proofs.Equality.{uids_eq_is}

-- what `cmp` computes of two uids
abbrev pub uids_by : EntityUID → EntityUID → Ordering
uids_by u v = ordering_then (slice_cmp nat_cmp (name_bytes u.entity_type.0.internal) (name_bytes v.entity_type.0.internal)) (slice_cmp nat_cmp (eid_text u.eid) (eid_text v.eid))

both_equal : (o p : Ordering) → is_eq (ordering_then o p) ≡ (is_eq o && is_eq p)
both_equal Less p = refl
both_equal Equal p = refl
both_equal Greater p = refl

pub same_uid : (u v : EntityUID) → is_at (uids_by u) v ≡ uid_eq (uid_of u) (uid_of v)
same_uid u v =
    both_equal (slice_cmp nat_cmp (name_bytes u.entity_type.0.internal) (name_bytes v.entity_type.0.internal)) (slice_cmp nat_cmp (eid_text u.eid) (eid_text v.eid))
    ∙ (λ i. is_eq-slice_cmp (name_bytes u.entity_type.0.internal) (name_bytes v.entity_type.0.internal) i && is_eq-slice_cmp (eid_text u.eid) (eid_text v.eid) i)
    ∙ uids_eq_is u v

-- what is looked up by a key is looked up by its uid
pub by_its_uid : {X : Type 0} (es : List (EntityUID × X)) (k : EntityUID) → lookup (is_at (uids_by k)) es ≡ lookup (λ q. uid_eq (uid_of k) (uid_of q)) es
by_its_uid [] k = refl
by_its_uid (e ∷ es) k = λ i. cond (same_uid k e.0 i) (Some e.1) (by_its_uid es k i)

-- a uid is that of a key where something is found at it
pub among_keys : {X : Type 0} (u : Uid) (es : List (EntityUID × X)) → list_any (uid_eq u) (map uid_of (keys_of es)) ≡ is_some (lookup (λ q. uid_eq u (uid_of q)) es)
among_keys u [] = refl
among_keys {X} u (e ∷ es) = go (uid_eq u (uid_of e.0)) (among_keys u es)
  where
    go : (b : Bool) → list_any (uid_eq u) (map uid_of (keys_of es)) ≡ is_some (lookup (λ q. uid_eq u (uid_of q)) es) → (b || list_any (uid_eq u) (map uid_of (keys_of es))) ≡ is_some (cond b (Some e.1) (lookup (λ q. uid_eq u (uid_of q)) es))
    go true h = refl
    go false h = h

-- a uid at which something is found is that of a key
found_by_key : {X : Type 0} (es : List (EntityUID × X)) (u : Uid) (v : X) → lookup (λ q. uid_eq u (uid_of q)) es ≡ Some v → (k : EntityUID) × (uid_of k ≡ u)
found_by_key [] u v e = absurd cc
found_by_key {X} ((k, w) ∷ es) u v e = go (uid_eq u (uid_of k)) refl (λ h. found_by_key es u v (sym (ap (λ b. cond b (Some w) (lookup (λ q. uid_eq u (uid_of q)) es)) h) ∙ e))
  where
    go : (b : Bool) → uid_eq u (uid_of k) ≡ b → (uid_eq u (uid_of k) ≡ false → (j : EntityUID) × (uid_of j ≡ u)) → (j : EntityUID) × (uid_of j ≡ u)
    go true h next = (k, sym ((uid_eq-Decides u (uid_of k)).0 h))
    go false h next = next h

module _ {X : Type 0} (old new : List (EntityUID × X)) (k : EntityUID) (w : Option X) (updates : (q : EntityUID) → lookup (is_at (uids_by q)) new ≡ cond (is_at (uids_by k) q) w (lookup (is_at (uids_by q)) old)) where
  at_key : (q : EntityUID) → lookup (λ p. uid_eq (uid_of q) (uid_of p)) new ≡ cond (uid_eq (uid_of k) (uid_of q)) w (lookup (λ p. uid_eq (uid_of q) (uid_of p)) old)
  at_key q = sym (by_its_uid new q) ∙ updates q ∙ (λ i. cond (same_uid k q i) w (by_its_uid old q i))

  -- what stands at the key after a write there
  pub written_here : lookup (λ p. uid_eq (uid_of k) (uid_of p)) new ≡ w
  written_here = at_key k ∙ ap (λ b. cond b w (lookup (λ p. uid_eq (uid_of k) (uid_of p)) old)) ((uid_eq-Decides (uid_of k) (uid_of k)).1 refl)

  at_key_of : (u : Uid) (q : EntityUID) → uid_of q ≡ u → (u ≡ uid_of k) ⊎ (lookup (λ p. uid_eq u (uid_of p)) new ≡ lookup (λ p. uid_eq u (uid_of p)) old)
  at_key_of u q e = subst (λ z. (z ≡ uid_of k) ⊎ (lookup (λ p. uid_eq z (uid_of p)) new ≡ lookup (λ p. uid_eq z (uid_of p)) old)) e (go (uid_eq (uid_of k) (uid_of q)) refl)
    where
      go : (b : Bool) → uid_eq (uid_of k) (uid_of q) ≡ b → (uid_of q ≡ uid_of k) ⊎ (lookup (λ p. uid_eq (uid_of q) (uid_of p)) new ≡ lookup (λ p. uid_eq (uid_of q) (uid_of p)) old)
      go true h = inl (sym ((uid_eq-Decides (uid_of k) (uid_of q)).0 h))
      go false h = inr (at_key q ∙ ap (λ b. cond b w (lookup (λ p. uid_eq (uid_of q) (uid_of p)) old)) h)

  -- other uids keep what stands there
  pub written_apart : (u : Uid) → (u ≡ uid_of k) ⊎ (lookup (λ p. uid_eq u (uid_of p)) new ≡ lookup (λ p. uid_eq u (uid_of p)) old)
  written_apart u = go (lookup (λ p. uid_eq u (uid_of p)) new) (lookup (λ p. uid_eq u (uid_of p)) old) refl refl
    where
      go : (n o : Option X) → lookup (λ p. uid_eq u (uid_of p)) new ≡ n → lookup (λ p. uid_eq u (uid_of p)) old ≡ o → (u ≡ uid_of k) ⊎ (lookup (λ p. uid_eq u (uid_of p)) new ≡ lookup (λ p. uid_eq u (uid_of p)) old)
      go (Some v) o en eo = let (q, e) = found_by_key new u v en in at_key_of u q e
      go None (Some v) en eo = let (q, e) = found_by_key old u v eo in at_key_of u q e
      go None None en eo = inr (en ∙ sym eo)

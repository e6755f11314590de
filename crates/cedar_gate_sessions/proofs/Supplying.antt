-- What is loaded after a supply, and which supplies are refused.
use Rattle.std.proofs.Common.{◌≡◌, inl, inr, ◌||◌, ◌&&◌, Bool, true, false, cond, List, [], ◌∷◌, ◌++◌, map, Contains, Option, Some, None, option_map, if◌then◌else◌, refl, sym, ap, ◌∙◌, subst, ⊎_elim}
use Rattle.std.proofs.lemmas.List.Elements.{Contains-append_cases}
use Rattle.std.proofs.lemmas.List.Folds.{list_any-append}
use Rattle.std.specs.List.{list_any, flat_map, list_all}
use Rattle.std.specs.Map.{lookup, keys_of}
use Rattle.std.specs.Option.{option_or}
use Rattle.std.specs.Prelude.{option_to_list, is_none, is_some}
use Rattle.cedar_expr_model.specs.Uid.{Uid, uid_eq}
use Rattle.cedar_expr_model.specs.ListLaws.{AreDistinct}
use Rattle.cedar_expr_model.specs.Repeats.{repeated}
use Rattle.cedar_expr_model.specs.Value.{V}
use Rattle.cedar_expr_model.proofs.Equality.{uid_eq-Decides}
use Rattle.cedar_expr_model.proofs.Lists.{contains_head, contains_tail, contains_cases, contains_none, map_from, map_has, found-Decides, both_hold, all_each}
use Rattle.cedar_expr_model.proofs.Repeating.{repeats_decide}
use Rattle.cedar_store_model.specs.Store.{Entities, are_distinct}
use Rattle.cedar_store_model.specs.World.{Entity}
use Rattle.cedar_store_model.proofs.Stores.{stands_found}
use Rattle.cedar_schema_model.specs.Conforming.{EntityConforms, entity_conforms}
use Rattle.cedar_schema_model.specs.Schema.{Schema, declares_action}
use Rattle.cedar_schema_model.proofs.Decls.Conforming.{entity_conforms-Decides}
use Rattle.cedar_gate_model.specs.Session.{Setup, State, Supplied, IsWantedNow, IsWantedList, IsWrong, SupplyRefusal, SupplyFault, not_wanted, lacking, wrong_entity}
use Rattle.cedar_gate_model.specs.Session as session
use Rattle.cedar_gate_model.specs.Runs.{with_asked, supplied_by}
use Rattle.cedar_gate_wanted.specs.Supplying.{AreKeys}
use Rattle.cedar_gate_sessions.specs.Loaded.{loaded_at, is_right}
use Rattle.cedar_gate_sessions.proofs.Lookups.{distinct_both}

-- the entities among what is supplied
abbrev pub entities_of : Supplied → Entities
entities_of qs = flat_map (λ q. option_to_list q.1) qs

-- lists with the same members have the same test
pub same_any : (u : Uid) (us ws : List Uid) → ((v : Uid) → Contains us v → Contains ws v) → ((v : Uid) → Contains ws v → Contains us v) → list_any (uid_eq u) us ≡ list_any (uid_eq u) ws
same_any u us ws there back = go (list_any (uid_eq u) us) (list_any (uid_eq u) ws) refl refl
  where
    go : (a b : Bool) → list_any (uid_eq u) us ≡ a → list_any (uid_eq u) ws ≡ b → a ≡ b
    go true true e f = refl
    go false false e f = refl
    go true false e f = sym ((found-Decides uid_eq uid_eq-Decides u ws).1 (there u ((found-Decides uid_eq uid_eq-Decides u us).0 e))) ∙ f
    go false true e f = sym e ∙ (found-Decides uid_eq uid_eq-Decides u us).1 (back u ((found-Decides uid_eq uid_eq-Decides u ws).0 f))

module _ (x : Setup) where
  abbrev put : Uid → Option (Entity V) → Entities → Entities
  put v o es = option_to_list (option_map (λ e. (v, e)) o) ++ es

  -- what is found of a supply
  pub found_supplied : (us : List Uid) (u : Uid) → lookup (uid_eq u) (entities_of (supplied_by x us)) ≡ (if list_any (uid_eq u) us then x.store u else None)
  found_supplied [] u = refl
  found_supplied (v ∷ us) u = go (uid_eq u v) refl (x.store v) refl (found_supplied us u)
    where
      rest : Entities
      rest = entities_of (supplied_by x us)

      later : (m : Bool) → x.store u ≡ None → (if m then x.store u else None) ≡ x.store u
      later true e = refl
      later false e = sym e

      go : (b : Bool) → uid_eq u v ≡ b → (o : Option (Entity V)) → x.store v ≡ o → lookup (uid_eq u) rest ≡ (if list_any (uid_eq u) us then x.store u else None)
          → lookup (uid_eq u) (put v o rest) ≡ (if b || list_any (uid_eq u) us then x.store u else None)
      go true q (Some e) s h = ap (λ t. cond t (Some e) (lookup (uid_eq u) rest)) q ∙ sym s ∙ ap x.store (sym ((uid_eq-Decides u v).0 q))
      go true q None s h = h ∙ later (list_any (uid_eq u) us) (ap x.store ((uid_eq-Decides u v).0 q) ∙ s)
      go false q (Some e) s h = ap (λ t. cond t (Some e) (lookup (uid_eq u) rest)) q ∙ h
      go false q None s h = h

  abbrev keys : Entities → List Uid
  keys es = map (λ e. e.0) es

  -- only what is supplied is there
  pub keys_within : (us : List Uid) (u : Uid) → Contains (keys (entities_of (supplied_by x us))) u → Contains us u
  keys_within [] u k = absurd (contains_none u k)
  keys_within (v ∷ us) u k = go (x.store v) k (keys_within us u)
    where
      go : (o : Option (Entity V)) → Contains (keys (put v o (entities_of (supplied_by x us)))) u → (Contains (keys (entities_of (supplied_by x us))) u → Contains us u) → Contains (v ∷ us) u
      go (Some e) h rest = contains_cases (Contains (v ∷ us) u) v (keys (entities_of (supplied_by x us))) u h (λ q. subst (Contains (v ∷ us)) q (contains_head v us)) (λ l. contains_tail v us u (rest l))
      go None h rest = contains_tail v us u (rest h)

  keys_distinct : (us : List Uid) → AreDistinct us → AreDistinct (keys (entities_of (supplied_by x us)))
  keys_distinct [] d = tt
  keys_distinct (v ∷ us) d = go (x.store v) (keys_distinct us d.1)
    where
      go : (o : Option (Entity V)) → AreDistinct (keys (entities_of (supplied_by x us))) → AreDistinct (keys (put v o (entities_of (supplied_by x us))))
      go (Some e) rest = (λ k. d.0 (keys_within us v k), rest)
      go None rest = rest

  -- what is loaded after it
  more_loaded : (d a m : Bool) (action : Entity V) (st : Option (Entity V)) → option_or (if d then Some action else (if a then st else None)) (if m then st else None) ≡ (if d then Some action else (if a || m then st else None))
  more_loaded true a m action st = refl
  more_loaded false true m action (Some e) = refl
  more_loaded false true true action None = refl
  more_loaded false true false action None = refl
  more_loaded false false m action st = refl

  pub loaded_more : (acts : Uid → Entity V) (s : State) (us ws : List Uid) (u : Uid) → ((v : Uid) → Contains us v → Contains ws v) → ((v : Uid) → Contains ws v → Contains us v)
      → option_or (loaded_at acts x s u) (lookup (uid_eq u) (entities_of (supplied_by x us))) ≡ loaded_at acts x (with_asked s ws) u
  loaded_more acts s us ws u there back =
      ap (option_or (loaded_at acts x s u)) (found_supplied us u ∙ ap (λ b. if b then x.store u else None) (same_any u us ws there back))
      ∙ more_loaded (declares_action x.schema u) (list_any (uid_eq u) s.asked) (list_any (uid_eq u) ws) (acts u) (x.store u)
      ∙ ap (λ b. if declares_action x.schema u then Some (acts u) else (if b then x.store u else None)) (sym (list_any-append (uid_eq u) s.asked ws))

  is_none_of : {A : Type 0} (o : Option A) → is_none o ≡ true → o ≡ None
  is_none_of None e = refl
  is_none_of (Some a) e = absurd (cc)

  map_both : (es fs : Entities) → keys (es ++ fs) ≡ keys es ++ keys fs
  map_both [] fs = refl
  map_both (e ∷ es) fs = ap (λ l. e.0 ∷ l) (map_both es fs)

  -- entities none of which was there stand once
  pub distinct_more : (es : Entities) (us : List Uid) → are_distinct es ≡ true → repeated uid_eq us ≡ None → ((u : Uid) → Contains us u → lookup (uid_eq u) es ≡ None) → are_distinct (es ++ entities_of (supplied_by x us)) ≡ true
  distinct_more es us d once fresh =
      let fs = entities_of (supplied_by x us) in
      let old : AreDistinct (keys es) = (repeats_decide uid_eq uid_eq-Decides (keys es)).0 (is_none_of _ d) in
      let new : AreDistinct (keys fs) = keys_distinct us ((repeats_decide uid_eq uid_eq-Decides us).0 once) in
      ap is_none ((repeats_decide uid_eq uid_eq-Decides (keys (es ++ fs))).1 (subst AreDistinct (sym (map_both es fs)) (distinct_both (keys es) (keys fs) old new (λ u k l. apart u k (fresh u (keys_within us u l))))))
    where
      apart : (u : Uid) → Contains (keys es) u → lookup (uid_eq u) es ≡ None → ⊥
      apart u k none =
          let r = map_from (λ (e : Uid × Entity V). e.0) es u k in
          let found : lookup (uid_eq u) es ≡ Some (r.0).1 = stands_found es d u (r.0).1 (subst (λ v. Contains es (v, (r.0).1)) r.2 r.1) in
          let lie : None ≡ Some (r.0).1 = sym none ∙ found in cc

-- what is right isn't wrong, and the other way round
module _ (s : Schema) where
  pub right_is : (p : Uid × Option (Uid × Entity V)) → is_right s p ≡ true → IsWrong s p → ⊥
  right_is (u, None) e h = h
  right_is (u, Some d) e h =
      let b = both_hold (uid_eq u d.0) (entity_conforms s d.0 d.1) e in
      ⊎_elim (λ f. let lie : true ≡ false = sym b.0 ∙ f in cc) (λ no. no ((entity_conforms-Decides s d.0 d.1).0 b.1)) h

  pub wrong_is : (p : Uid × Option (Uid × Entity V)) → is_right s p ≡ false → IsWrong s p
  wrong_is (u, None) e = absurd (cc)
  wrong_is (u, Some d) e = go (uid_eq u d.0) refl e
    where
      go : (b : Bool) → uid_eq u d.0 ≡ b → (b && entity_conforms s d.0 d.1) ≡ false → IsWrong s (u, Some d)
      go true q f = inr (λ c. let lie : true ≡ false = sym ((entity_conforms-Decides s d.0 d.1).1 c) ∙ f in cc)
      go false q f = inl q

  pub all_right : (qs : Supplied) → list_all (is_right s) qs ≡ true → (p : Uid × Option (Uid × Entity V)) → Contains qs p → IsWrong s p → ⊥
  all_right qs e p k = right_is p (all_each (is_right s) qs e p k)

  pub one_wrong : (qs : Supplied) → list_all (is_right s) qs ≡ false → (p : Uid × Option (Uid × Entity V)) × Contains qs p × IsWrong s p
  one_wrong [] e = absurd (cc)
  one_wrong (q ∷ qs) e = go (is_right s q) refl e (one_wrong qs)
    where
      go : (b : Bool) → is_right s q ≡ b → (b && list_all (is_right s) qs) ≡ false → (list_all (is_right s) qs ≡ false → (p : Uid × Option (Uid × Entity V)) × Contains qs p × IsWrong s p) → (p : Uid × Option (Uid × Entity V)) × Contains (q ∷ qs) p × IsWrong s p
      go true r f rest = let w = rest f in (w.0, contains_tail q qs w.0 w.1, w.2)
      go false r f rest = (q, contains_head q qs, wrong_is q r)

-- which supplies are taken, by the list of what is wanted
module _ (x : Setup) (s : State) (ws : List Uid) (wanted : IsWantedList x s ws) (qs : Supplied) where
  pub supply_taken : AreKeys ws (keys_of qs) → ((p : Uid × Option (Uid × Entity V)) → Contains qs p → IsWrong x.schema p → ⊥) → (f : SupplyRefusal) → SupplyFault x s qs f → ⊥
  supply_taken k right not_wanted h = h.2 ((wanted.exact h.0).0 (k.each h.0 h.1))
  supply_taken k right lacking h = h.2 (k.all h.0 ((wanted.exact h.0).1 h.1))
  supply_taken k right session.repeated h = let lie : false ≡ true = ap is_some (sym k.once) ∙ h in cc
  supply_taken k right wrong_entity h = right h.0 h.1 h.2

  pub supply_unwanted : ((u : Uid) × Contains (keys_of qs) u × (Contains ws u → ⊥)) → SupplyFault x s qs not_wanted
  supply_unwanted h = (h.0, h.1, λ k. h.2 ((wanted.exact h.0).1 k))

  pub supply_lacks : ((u : Uid) × Contains ws u × (Contains (keys_of qs) u → ⊥)) → SupplyFault x s qs lacking
  supply_lacks h = (h.0, (wanted.exact h.0).0 h.1, h.2)

-- what was asked for conforms after it
pub conform_more : (x : Setup) (s : State) (us ws : List Uid) → ((v : Uid) → Contains ws v → Contains us v) → list_all (is_right x.schema) (supplied_by x us) ≡ true
    → ((u : Uid) (e : Entity V) → Contains s.asked u → x.store u ≡ Some e → EntityConforms x.schema u e)
    → (u : Uid) (e : Entity V) → Contains (with_asked s ws).asked u → x.store u ≡ Some e → EntityConforms x.schema u e
conform_more x s us ws back right before u e k q = ⊎_elim (λ a. before u e a q) (λ a. new (back u a)) (Contains-append_cases s.asked ws u k)
  where
    new : Contains us u → EntityConforms x.schema u e
    new a =
        let there : Contains (supplied_by x us) (u, Some (u, e)) = subst (λ o. Contains (supplied_by x us) (u, option_map (λ f. (u, f)) o)) q (map_has (λ v. (v, option_map (λ f. (v, f)) (x.store v))) us u a) in
        (entity_conforms-Decides x.schema u e).0 (both_hold (uid_eq u u) (entity_conforms x.schema u e) (all_each (is_right x.schema) (supplied_by x us) right (u, Some (u, e)) there)).1

-- What is loaded of a world by what was asked for, and how each round brings what is near a step further.
use Rattle.std.proofs.Common.{◌≡◌, ◌≢◌, ◌≤◌, ◌<◌, ◌↔◌, ◌∙◌, ℕ, zero, suc, Bool, true, false, cond, ◌||◌, List, [], ◌∷◌, ◌++◌, inl, inr, ⊎_elim, ◌⊎◌, refl, sym, ap, subst, arith, if◌then◌else◌}
use Rattle.std.specs.Prelude.{Contains, leb}
use Rattle.std.specs.List.{list_any}
use Rattle.std.proofs.lemmas.Bool.{leb-true, leb-false}
use Rattle.std.proofs.lemmas.List.Elements.{Contains-append_left, Contains-append_right}
use Rattle.cedar_expr_model.specs.Uid.{Uid, uid_eq}
use Rattle.cedar_expr_model.specs.Uids.{is_uid}
use Rattle.cedar_expr_model.specs.Value.{V}
use Rattle.cedar_expr_model.proofs.Lists.{contains_head, contains_none, found-Decides}
use Rattle.cedar_expr_model.proofs.Equality.{uid_eq-Decides}
use Rattle.cedar_store_model.specs.World.{World, Found, missing, not_loaded}
use Rattle.cedar_store_model.specs.Store.{unloaded}
use Rattle.cedar_schema_model.specs.Schema.{Schema, declares_action}
use Rattle.cedar_typechecker_model.specs.Slice.{IsNear, InSlice}
use Rattle.cedar_typechecker_model.proofs.InReach.{near_within}
use Rattle.cedar_gate_model.proofs.Gate.Slices.{near_kept}
use Rattle.cedar_typechecker_model.proofs.Mentions.{FoundMentions}

-- the world with the declared actions and the answers alone
abbrev pub loading : Schema → World → List Uid → World
loading s w asked = record w { store = λ u. if declares_action s u || list_any (uid_eq u) asked then w.store u else unloaded u }

-- a declared action, or a uid that was asked for
abbrev pub IsLoaded : Schema → List Uid → Uid → Type 0
IsLoaded s asked u = declares_action s u ≡ false → Contains asked u

-- in the slice of what is loaded, and not asked for yet
abbrev pub IsNext : Schema → ℕ → World → List Uid → Uid → Type 0
IsNext s n w asked u = InSlice s n (loading s w asked) u × (Contains asked u → ⊥)

pub was_asked : (asked : List Uid) (u : Uid) → Contains asked u ⊎ (Contains asked u → ⊥)
was_asked asked u = by_test (list_any (uid_eq u) asked) refl
  where
    by_test : (t : Bool) → list_any (uid_eq u) asked ≡ t → Contains asked u ⊎ (Contains asked u → ⊥)
    by_test true e = inl ((found-Decides uid_eq uid_eq-Decides u asked).0 e)
    by_test false e = inr (λ k. let f = (found-Decides uid_eq uid_eq-Decides u asked).1 k in cc)

either_true : (a b : Bool) → (a ≡ false → b ≡ true) → (a || b) ≡ true
either_true true b h = refl
either_true false b h = h refl

-- what isn't loaded mentions nothing
none_mentioned : (b : Bool) (u : Uid) → FoundMentions (cond b not_loaded missing) u → ⊥
none_mentioned true u h = contains_none u h
none_mentioned false u h = contains_none u h

pub some_item : (uids : List Uid) → uids ≢ [] → (u : Uid) × Contains uids u
some_item [] n = absurd (n refl)
some_item (u ∷ us) n = (u, contains_head u us)

loaded_only : (v : Uid) (t : Bool) (f : Found V) (u : Uid) → FoundMentions (cond t f (unloaded v)) u → FoundMentions f u
loaded_only v true f u h = h
loaded_only v false f u h = absurd (none_mentioned (is_uid v) u h)

module _ (s : Schema) (w : World) where
  loaded_is_there : (asked : List Uid) (u : Uid) → IsLoaded s asked u → (loading s w asked).store u ≡ w.store u
  loaded_is_there asked u h =
      ap (λ t. cond t (w.store u) (unloaded u))
      (either_true (declares_action s u) (list_any (uid_eq u) asked) (λ e. (found-Decides uid_eq uid_eq-Decides u asked).1 (h e)))

  -- what is near by what is loaded is near
  pub near_of_loaded : (asked : List Uid) (n : ℕ) (u : Uid) → IsNear n (loading s w asked) u → IsNear n w u
  near_of_loaded asked n u h = near_kept (loading s w asked) w (λ u k. k) (λ v x k. loaded_only v (declares_action s v || list_any (uid_eq v) asked) (w.store v) x k) n u h

  -- All that is nearer than r is loaded.
  abbrev pub Settled : List Uid → ℕ → Type 0
  Settled asked r = (u : Uid) → IsNear r (loading s w asked) u → IsLoaded s asked u

  -- one round more brings nothing nearer than one step beyond it
  nearer : (asked uids : List Uid) (r : ℕ) → Settled asked r → (j : ℕ) → j ≤ r → (u : Uid) → IsNear (suc j) (loading s w (asked ++ uids)) u → IsNear (suc j) (loading s w asked) u
  nearer asked uids r settled zero l u h = ⊎_elim (λ k. inl k) (λ k. absurd k.1) h
  nearer asked uids r settled (suc j) l u h =
      ⊎_elim (λ k. inl k)
      (λ k.
      let v = k.0 in
      let near = nearer asked uids r settled j (omega (arith, l)) v k.1 in
      let loaded = settled v (near_within (suc j) r (loading s w asked) v l near) in
      let now = loaded_is_there asked v loaded in
      let later = loaded_is_there (asked ++ uids) v (λ e. Contains-append_left asked uids v (loaded e)) in
      inr (v, near, subst (λ f. FoundMentions f u) (later ∙ sym now) k.2))
      h

  module _ (n : ℕ) where
    -- a round comes before all at the level is loaded
    pub round_is_below : (asked uids : List Uid) (r : ℕ) → uids ≢ [] → ((u : Uid) → Contains uids u ↔ IsNext s n w asked u) → Settled asked r → r < n
    round_is_below asked uids r some exact settled = by_test (leb n r) refl
      where
        by_test : (t : Bool) → leb n r ≡ t → r < n
        by_test false e = leb-false n r e
        by_test true e =
            let i = some_item uids some in
            let q = (exact i.0).0 i.1 in
            absurd (q.1 (settled i.0 (near_within n r (loading s w asked) i.0 (leb-true n r e) (q.0).0) (q.0).1))

    -- and after it all is loaded that is one step further
    pub settles_more : (asked uids : List Uid) (r : ℕ) → ((u : Uid) → Contains uids u ↔ IsNext s n w asked u) → Settled asked r → r < n → Settled (asked ++ uids) (suc r)
    settles_more asked uids r exact settled l u k e =
        let near = near_within (suc r) n (loading s w asked) u (omega (arith, l)) (nearer asked uids r settled r (omega arith) u k) in
        ⊎_elim (λ a. Contains-append_left asked uids u a) (λ a. Contains-append_right asked uids u ((exact u).1 ((near, e), a))) (was_asked asked u)

    -- where nothing is left to ask for, all in the slice of the whole world was asked for
    pub nothing_left : (asked : List Uid) → ((u : Uid) → IsNext s n w asked u → ⊥) → Settled asked n
    nothing_left asked none u k e = ⊎_elim (λ a. a) (λ a. absurd (none u ((k, e), a))) (was_asked asked u)

    pub near_loaded : (asked : List Uid) → Settled asked n → (m : ℕ) → m ≤ n → (u : Uid) → IsNear m w u → IsNear m (loading s w asked) u
    near_loaded asked settled zero l u h = absurd h
    near_loaded asked settled (suc m) l u h =
        ⊎_elim (λ k. inl k)
        (λ k.
        let v = k.0 in
        let near = near_loaded asked settled m (omega (arith, l)) v k.1 in
        let loaded = settled v (near_within m n (loading s w asked) v (omega (arith, l)) near) in
        inr (v, near, subst (λ f. FoundMentions f u) (sym (loaded_is_there asked v loaded)) k.2))
        h

    pub slice_is_loaded : (asked : List Uid) → ((u : Uid) → IsNext s n w asked u → ⊥) → (u : Uid) → InSlice s n w u → Contains asked u
    slice_is_loaded asked none u h = let settled = nothing_left asked none in settled u (near_loaded asked settled n (omega arith) u h.0) h.1

-- At which state a session stands after each call.
use Rattle.std.proofs.Common.{◌≡◌, ◌∙◌, ◌++◌, Bool, true, false, cond, List, map, Contains, Option, Some, None, refl, sym, ap, subst}
use Rattle.std.specs.List.{list_all, list_any}
use Rattle.std.specs.Map.{lookup}
use Rattle.std.specs.Option.{option_or}
use Rattle.std.specs.Prelude.{◌||◌, ◌∷◌, [], IfSome, is_some, if◌then◌else◌}
use Rattle.std.specs.Str.{bytes_eq}
use Rattle.std.specs.declared.alloc.Global.{Global}
use Rattle.std.specs.declared.vec.Vec.{Vec}
use Rattle.std.proofs.lemmas.Slice.Eq.{bytes_eq-Decides}
use Rattle.cedar_expr_model.specs.Name.{Text}
use Rattle.cedar_expr_model.specs.Uid.{Uid, uid_eq}
use Rattle.cedar_expr_model.specs.Made.{Made}
use Rattle.cedar_expr_model.specs.Uids.{is_uid}
use Rattle.cedar_expr_model.specs.Value.{V}
use Rattle.cedar_expr_model.proofs.Equality.{uid_eq-Decides}
use Rattle.cedar_expr_model.proofs.Lists.{found-Decides, map_from}
use Rattle.cedar_expr_names.specs.Views.{uid_of}
use Rattle.cedar_expr_names.specs.declared.entity.EntityUID.{EntityUID}
use Rattle.cedar_store_entities.specs.Views.{Kept, entity_seen, entity_pair, kept_pair}
use Rattle.cedar_store_entities.specs.declared.entity.Entity.{Entity}
use Rattle.cedar_store_model.specs.Store.{Extent, are_distinct, if_uid, whole, partial}
use Rattle.cedar_store_model.specs.World as world
use Rattle.cedar_store_model.specs.World.{Found, held, missing}
use Rattle.cedar_schema_model.specs.Schema as model
use Rattle.cedar_evaluator_model.specs.OfLaws.WellMade.{IsWellMade, IsFoundMadeWell, IsEntityRepresented}
use Rattle.cedar_evaluator_reads.specs.Scopes.{found_kept}
use Rattle.cedar_evaluator_requests.specs.Views.{request_of}
use Rattle.cedar_gate_openings.specs.Names.{bound_in}
use Rattle.cedar_gate_wanted.specs.Kept.{IsKept}
use Rattle.cedar_gate_wanted.specs.Rows.{found_at}
use Rattle.cedar_gate_model.specs.Runs.{with_asked, supplied_by}
use Rattle.cedar_gate_model.specs.Session.{Setup, State, with_bound, IsWantedList, BindRefusal, BindFault, known_now}
use Rattle.cedar_typechecker_model.specs.Slice.{roots}
use Rattle.cedar_gate_openings.specs.Requests.{request_at}
use Rattle.cedar_gate_wanted.specs.Laws.{IsLoadedAt, IsBoundMore}
use Rattle.cedar_gate_wanted.specs.Supplying.{rows_of, keys_in, IsFilled, AreKeys}
use Rattle.cedar_gate_wanted.specs.Wanting.{IsWanting, IsSameLoading, near_in, rows_in, mentions_of, wanted_in, level_of}
use Rattle.cedar_gate_wanted.specs.declared.loading.Loading.{Loading}
use Rattle.cedar_gate_wanted.proofs.Rounds.{supply_is_round, roots_bound}
use Rattle.cedar_gate_wanted.proofs.Slicing.{next_round}
use Rattle.cedar_evaluator_model.proofs.Represented.{entity_well}
use Rattle.cedar_evaluator_reads.proofs.Canonical.{entity_canonical}
use Rattle.cedar_gate_sessions.specs.Entities.{AddsAnswers, IsSameStore, is_among, missing_uids, supplied_of, supplied_uids, supplied_entities, row_pair, mentions_pair}
use Rattle.cedar_gate_sessions.specs.Loaded.{loaded_at, is_right}
use Rattle.cedar_gate_sessions.specs.Sessions.{IsAt, IsSetup, gate_of, AreFromStore, AreLoaded, extent_at, loaded_in, stored_in, was_asked}
use Rattle.cedar_gate_sessions.specs.declared.session.SessionAt.{SessionAt}
use Rattle.cedar_gate_sessions.proofs.Loadings.{wanting_same, loaded_same}
use Rattle.cedar_gate_sessions.proofs.Lookups.{lookup_both}
use Rattle.cedar_gate_sessions.proofs.Opened.{opened_with}
use Rattle.cedar_gate_sessions.proofs.Parts.{pairs_of, map_both, keys_same, rows_answer, kept_from}
use Rattle.cedar_gate_sessions.proofs.Recorded.{asked_now, recorded_after, recorded_same}
use Rattle.cedar_gate_sessions.proofs.Supplying.{entities_of, loaded_more, distinct_more, conform_more}
use Rattle.cedar_store_entities.proofs.Fresh.{fresh_are_appended}

-- the uids of rows
row_uids : (rs : List (EntityUID × Vec EntityUID Global)) → map (λ (p : Uid × Vec EntityUID Global). p.0) (rows_of rs) ≡ keys_in rs
row_uids [] = refl
row_uids (r ∷ rs) = ap (λ us. uid_of r.0 ∷ us) (row_uids rs)

-- the uids of the code are uids
abbrev AreUids : Type 0
AreUids = (u : EntityUID) → is_uid (uid_of u) ≡ true

uid_there : AreUids → (ps : List (EntityUID × Option Entity)) (u : Uid) → Contains (supplied_uids ps) u → is_uid u ≡ true
uid_there uids ps u k = let (p, c, e) = map_from (λ (q : EntityUID × Option Entity). uid_of q.0) ps u k in subst (λ v. is_uid v ≡ true) e (uids p.0)

module _ (x : Setup) (s : State) (l : Loading) (wanting : IsWanting x.schema l) (near : IsLoadedAt x s l) where
  pub wanted_list : IsWantedList x s (wanted_in l)
  wanted_list = next_round x s l wanting near

  -- what is wanted is no declared action's, and wasn't asked for
  pub wanted_apart : (u : Uid) → Contains (wanted_in l) u → (model.declares_action x.schema u ≡ false) × (list_any (uid_eq u) s.asked ≡ false)
  wanted_apart u k =
      let w = ((wanted_list).exact u).0 k in
      ((w.0).1, none (list_any (uid_eq u) s.asked) (λ e. w.1 ((found-Decides uid_eq uid_eq-Decides u s.asked).0 e)))
    where
      none : (b : Bool) → (b ≡ true → ⊥) → b ≡ false
      none true h = absurd (h refl)
      none false h = refl

  pub none_loaded : (acts : Uid → world.Entity V) (u : Uid) → Contains (wanted_in l) u → loaded_at acts x s u ≡ None
  none_loaded acts u k = let a = wanted_apart u k in rw (a.0, a.1) refl

module _ (x : Setup) (s : State) (es : List Entity) (ps : List (EntityUID × Option Entity)) (ws : List Uid) (loaded : AreLoaded x s es) (from : AreFromStore x ps) (right : list_all (is_right x.schema) (supplied_of ps) ≡ true)
    (there : (u : Uid) → Contains (supplied_uids ps) u → Contains ws u) (back : (u : Uid) → Contains ws u → Contains (supplied_uids ps) u) where
  abbrev us : List Uid
  us = supplied_uids ps

  all_pairs : map entity_pair (es ++ supplied_entities ps) ≡ map entity_pair es ++ entities_of (supplied_by x us)
  all_pairs = map_both entity_pair es (supplied_entities ps) ∙ ap (λ zs. map entity_pair es ++ zs) (pairs_of ps ∙ ap entities_of from.answered)

  each_now : (u : Uid) → lookup (uid_eq u) (map entity_pair (es ++ supplied_entities ps)) ≡ loaded_at loaded.acts x (with_asked s ws) u
  each_now u =
      ap (lookup (uid_eq u)) all_pairs ∙ lookup_both (uid_eq u) (map entity_pair es) (entities_of (supplied_by x us))
      ∙ ap (λ o. option_or o (lookup (uid_eq u) (entities_of (supplied_by x us)))) (loaded.each u)
      ∙ loaded_more x loaded.acts s us ws u there back

  not_there : (t : Extent) (b : Bool) → IsFoundMadeWell x.functions.table (cond b (found_kept t None) missing)
  not_there whole true = tt
  not_there partial true = tt
  not_there t false = tt

  held_there : (b : Bool) (k : Kept) → IsFoundMadeWell x.functions.table (held k.0) → IsFoundMadeWell x.functions.table (cond b (held k.0) missing)
  held_there true k h = h
  held_there false k h = tt

  written_of : (p : EntityUID × Option Entity) (e : Entity) → Contains ps p → p.1 ≡ Some e → IsFoundMadeWell x.functions.table (held (entity_seen e))
  written_of p e c is = entity_well x.functions.table (entity_seen e) (entity_canonical e) (subst (λ o. IfSome o (λ e. IsEntityRepresented x.functions.table (entity_seen e))) is (from.represented p c))

  -- whatever was asked for
  written_more : (t : Extent) (u : Uid) (o n : Option Kept) → lookup (uid_eq u) (map kept_pair es) ≡ o → lookup (uid_eq u) (map kept_pair (supplied_entities ps)) ≡ n → IsFoundMadeWell x.functions.table (if_uid u (found_kept t (option_or o n)))
  written_more t u (Some k) n e f = subst (λ z. IsFoundMadeWell x.functions.table (if_uid u (found_kept (extent_at (list_any (uid_eq u) s.asked)) z))) e (loaded.written u)
  written_more t u None None e f = not_there t (is_uid u)
  written_more t u None (Some k) e f =
      let (p, d, c, is, at) = kept_from ps u k f in
      held_there (is_uid u) k (subst (λ (z : Kept). IsFoundMadeWell x.functions.table (held z.0)) at (written_of p d c is))

  written_now : (asked : Uid → Bool) (u : Uid) → IsFoundMadeWell x.functions.table (stored_in asked (es ++ supplied_entities ps) u)
  written_now asked u = subst (λ o. IsFoundMadeWell x.functions.table (if_uid u (found_kept (extent_at (asked u)) o)))
      (sym (ap (lookup (uid_eq u)) (map_both kept_pair es (supplied_entities ps)) ∙ lookup_both (uid_eq u) (map kept_pair es) (map kept_pair (supplied_entities ps))))
      (written_more (extent_at (asked u)) u (lookup (uid_eq u) (map kept_pair es)) (lookup (uid_eq u) (map kept_pair (supplied_entities ps))) refl refl)

  pub more_is_loaded : are_distinct (map entity_pair (es ++ supplied_entities ps)) ≡ true → AreLoaded x (with_asked s ws) (es ++ supplied_entities ps)
  more_is_loaded once = record {
    acts = loaded.acts;
    same = loaded.same;
    each = each_now;
    distinct = once;
    written = written_now (λ v. list_any (uid_eq v) (with_asked s ws).asked);
    conform = conform_more x s us ws back (subst (λ qs. list_all (is_right x.schema) qs ≡ true) from.answered right) loaded.conform;
  }

  pub more_is_distinct : ((u : Uid) → Contains us u → loaded_at loaded.acts x s u ≡ None) → AreKeys ws us → are_distinct (map entity_pair (es ++ supplied_entities ps)) ≡ true
  more_is_distinct fresh keys = subst (λ zs. are_distinct zs ≡ true) (sym all_pairs) (distinct_more x (map entity_pair es) us loaded.distinct keys.once (λ u k. loaded.each u ∙ fresh u k))

module _ {G : Type 0} (suits : G → Setup → Type 0) (x : Setup) (s : State) (d : SessionAt G) (at : IsAt suits x s d) where
  -- after a supply
  pub after_supply : (e : SessionAt G) (ps : List (EntityUID × Option Entity)) (rs : List (EntityUID × Vec EntityUID Global)) → AreUids
      → e.gate ≡ d.gate → e.start ≡ d.start → e.now ≡ d.now → e.bound ≡ d.bound → AddsAnswers (supplied_entities ps) (missing_uids ps) d.loaded e.loaded → level_of e.loading ≡ level_of d.loading
      → map row_pair rs ≡ map mentions_pair ps → list_all (is_right x.schema) (supplied_of ps) ≡ true
      → IsFilled (rows_of rs) (rows_in d.loading) (rows_in e.loading) → AreKeys (wanted_in d.loading) (keys_in rs) → IsWanting x.schema e.loading
      → ((r : List Uid) → IsKept r (mentions_of d.loading) x.level (near_in d.loading) → IsKept r (mentions_of e.loading) x.level (near_in e.loading))
      → AreFromStore x ps → IsAt suits x (with_asked s (wanted_in d.loading)) e
  after_supply e ps rs uids gate start now bound added level rows right filled keys wanting keeps from =
      let same : keys_in rs ≡ supplied_uids ps = keys_same rs ps rows in
      let of_us : AreKeys (wanted_in d.loading) (supplied_uids ps) = subst (AreKeys (wanted_in d.loading)) same keys in
      let once = more_is_distinct x s (loaded_in d) ps (wanted_in d.loading) at.loaded from right of_us.each of_us.all (λ u k. none_loaded x s d.loading at.wanting at.near (at.loaded).acts u (of_us.each u k)) of_us in
      let loaded : loaded_in e ≡ loaded_in d ++ supplied_entities ps = added.kept ∙ fresh_are_appended (loaded_in d) (supplied_entities ps) once in
      record {
        setup = subst (λ q. IsSetup suits x (gate_of e) q) (sym start) (subst (λ b. IsSetup suits x b.now d.start) (sym gate) at.setup);
        context = at.context;
        opened = record { opened = (at.opened).opened; bound = (at.opened).bound };
        bound = λ n. ap (λ b. bound_in b n) bound ∙ at.bound n;
        now = ap request_of now ∙ at.now;
        level = level ∙ at.level;
        wanting = wanting;
        near = supply_is_round x s d.loading e.loading rs at.near filled keys
            (rows_answer x ps from.answered rs rows (λ u k. ((wanted_apart x s d.loading at.wanting at.near u (of_us.each u k)).0, uid_there uids ps u k))) keeps;
        loaded = subst (AreLoaded x (with_asked s (wanted_in d.loading))) (sym loaded) (more_is_loaded x s (loaded_in d) ps (wanted_in d.loading) at.loaded from right of_us.each of_us.all once);
        recorded = recorded_after d e x.schema ps right added loaded (λ u. ap (λ us. was_asked d u || is_among us u) (sym same ∙ sym (row_uids rs)) ∙ asked_now u (rows_of rs) (rows_in d.loading) (rows_in e.loading) filled) at.recorded;
      }

  -- after a binding
  pub after_bind : (e : SessionAt G) (n : Text) (m : Made) (rs : List Uid) → IsBoundMore x s (with_bound s n m)
      → e.gate ≡ d.gate → e.start ≡ d.start → ((k : Text) → bound_in e.bound k ≡ (if bytes_eq n k then Some m else bound_in d.bound k)) → request_of e.now ≡ request_at x.functions (with_bound s n m) x.start → IsSameStore d.loaded e.loaded
      → level_of e.loading ≡ level_of d.loading → (e.loading).rows ≡ (d.loading).rows → IsWanting x.schema e.loading
      → ((r : List Uid) → IsKept r (mentions_of d.loading) x.level (near_in d.loading) → IsKept (r ++ rs) (mentions_of e.loading) x.level (near_in e.loading))
      → rs ≡ roots (known_now x (with_bound s n m)) → ((f : BindRefusal) → BindFault x s n m f → ⊥) → IsWellMade x.functions.table m → IsAt suits x (with_bound s n m) e
  after_bind e n m rs more gate start bound now stays level rows wanting keeps listed ok well = let loaded : loaded_in e ≡ loaded_in d = stays.entities in record {
    setup = subst (λ q. IsSetup suits x (gate_of e) q) (sym start) (subst (λ b. IsSetup suits x b.now d.start) (sym gate) at.setup);
    context = at.context;
    opened = opened_with x s n m at.opened ok well;
    bound = λ k. bound k ∙ value_with k (bytes_eq n k) (bytes_eq k n) refl refl ∙ ap (λ o. cond (bytes_eq k n) (Some m) o) (at.bound k);
    now = now;
    level = level ∙ at.level;
    wanting = wanting;
    near = roots_bound x s (with_bound s n m) d.loading e.loading rs at.near more rows (λ u. ((λ k. subst (λ us. Contains us u) listed k), (λ k. subst (λ us. Contains us u) (sym listed) k))) keeps;
    loaded = record { acts = (at.loaded).acts; same = (at.loaded).same; each = λ u. ap (λ es. lookup (uid_eq u) (map entity_pair es)) loaded ∙ (at.loaded).each u; distinct = subst (λ es. are_distinct (map entity_pair es) ≡ true) (sym loaded) (at.loaded).distinct; written = λ u. subst (λ es. IsFoundMadeWell x.functions.table (stored_in (λ v. list_any (uid_eq v) s.asked) es u)) (sym loaded) ((at.loaded).written u); conform = (at.loaded).conform };
    recorded = recorded_same d e stays (λ u. ap (λ m. is_some (found_at m u)) rows) at.recorded;
  }
    where
      lie : {P : Type 0} → true ≡ false → P
      lie e = cc

      value_with : (k : Text) (a b : Bool) → bytes_eq n k ≡ a → bytes_eq k n ≡ b → (if a then Some m else bound_in d.bound k) ≡ cond b (Some m) (bound_in d.bound k)
      value_with k true true e f = refl
      value_with k false false e f = refl
      value_with k true false e f = lie (sym ((bytes_eq-Decides k n).1 (sym ((bytes_eq-Decides n k).0 e))) ∙ f)
      value_with k false true e f = lie (sym ((bytes_eq-Decides n k).1 (sym ((bytes_eq-Decides k n).0 f))) ∙ e)

  -- where all says the same
  pub at_same : (e : SessionAt G) → e.gate ≡ d.gate → e.start ≡ d.start → ((k : Text) → bound_in e.bound k ≡ bound_in d.bound k) → e.now ≡ d.now → IsSameStore d.loaded e.loaded → IsSameLoading d.loading e.loading
      → IsAt suits x s e
  at_same e gate start bound now stays same = record {
    setup = subst (λ q. IsSetup suits x (gate_of e) q) (sym start) (subst (λ b. IsSetup suits x b.now d.start) (sym gate) at.setup);
    context = at.context;
    opened = at.opened;
    bound = λ k. bound k ∙ at.bound k;
    now = ap request_of now ∙ at.now;
    level = same.level ∙ at.level;
    wanting = wanting_same d.loading e.loading same x.schema at.wanting;
    near = loaded_same d.loading e.loading same x s at.near;
    loaded = subst (AreLoaded x s) (sym stays.entities) at.loaded;
    recorded = recorded_same d e stays (λ u. ap is_some (same.rows u)) at.recorded;
  }

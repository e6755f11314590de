-- A session that is opened stands at the start.
use Rattle.std.proofs.Common.{◌≡◌, ◌∙◌, Bool, true, false, cond, List, [], ◌∷◌, map, Option, Some, None, option_map, if◌then◌else◌, refl, sym, ap, subst}
use Rattle.std.specs.HashMap.{HashMap}
use Rattle.std.specs.List.{list_any}
use Rattle.std.specs.Map.{lookup}
use Rattle.std.specs.Prelude.{is_some}
use Rattle.std.specs.Rc.{rc_str_bytes}
use Rattle.std.specs.Str.{bytes_eq}
use Rattle.std.specs.declared.alloc.Global.{Global}
use Rattle.std.specs.declared.rc.RcStr.{RcStr}
use Rattle.cedar_expr_model.specs.Name.{Text}
use Rattle.cedar_expr_model.specs.Uid.{Uid, uid_eq}
use Rattle.cedar_expr_model.specs.Made.{Made}
use Rattle.cedar_expr_model.specs.Table.{Table}
use Rattle.cedar_expr_model.specs.Uids.{is_uid}
use Rattle.cedar_expr_model.specs.Value.{V}
use Rattle.cedar_expr_model.specs.ValueParts.{Part}
use Rattle.cedar_expr_model.proofs.Lists.{contains_none}
use Rattle.cedar_expr_values.specs.Extensions.{extension_of}
use Rattle.cedar_expr_values.specs.Values.{made}
use Rattle.cedar_expr_values.specs.declared.extension.ExtValue.{ExtValue}
use Rattle.cedar_expr_values.specs.declared.value.Value.{Value}
use Rattle.cedar_store_entities.specs.Stores.{store_seen, with_new}
use Rattle.cedar_store_entities.specs.Views.{Kept, entity_uid, entity_kept, entity_pair, kept_pair, bare_part, bare_entity}
use Rattle.cedar_store_entities.specs.declared.entity.Entity.{Entity}
use Rattle.cedar_store_model.specs.Store.{partial}
use Rattle.cedar_store_model.specs.World as world
use Rattle.cedar_store_model.specs.World.{held, missing}
use Rattle.cedar_schema_model.specs.Schema as model
use Rattle.cedar_evaluator_model.specs.OfLaws.WellMade.{IsPartMadeWell, IsFoundMadeWell}
use Rattle.cedar_evaluator_reads.specs.Scopes.{found_kept}
use Rattle.cedar_evaluator_requests.specs.Views.{request_of}
use Rattle.cedar_gate_openings.specs.Faults.{opens}
use Rattle.cedar_gate_openings.specs.Names.{bound_in}
use Rattle.cedar_gate_wanted.specs.Kept.{IsKept}
use Rattle.cedar_gate_model.specs.RunsAsk.{IsMadeContext}
use Rattle.cedar_gate_model.specs.Session.{Setup, State, at_start}
use Rattle.cedar_gate_openings.specs.Laws.{RootsAreKnown}
use Rattle.cedar_gate_openings.specs.Requests.{request_at, AreValuesOf}
use Rattle.cedar_gate_openings.specs.Roots.{known_roots}
use Rattle.cedar_gate_wanted.specs.Wanting.{IsWanting, near_in, rows_in, mentions_of, level_of}
use Rattle.cedar_gate_sessions.specs.Loaded.{HasActions}
use Rattle.cedar_gate_sessions.specs.Sessions.{IsAt, IsSetup, gate_of, AreLoaded, loaded_in}
use Rattle.cedar_gate_sessions.specs.declared.session.SessionAt.{SessionAt}
use Rattle.cedar_gate_sessions.proofs.Loadings.{loaded_at_start}
use Rattle.cedar_gate_sessions.proofs.Lookups.{lookup_seen}
use Rattle.cedar_gate_sessions.proofs.Opened.{opened_at_start}
use Rattle.cedar_store_entities.proofs.Fresh.{fresh_are_appended}

-- nothing is bound in an empty map
pub none_bound : {S : Type 0} (m : HashMap (RcStr Global) (Value ExtValue) S) → m.entries ≡ [] → (n : Text) → bound_in m n ≡ None
none_bound m e n = ap (λ (es : List (RcStr Global × Value ExtValue)). option_map (made extension_of) (lookup (λ k. bytes_eq n (rc_str_bytes k)) es)) e

-- an entity without attributes and tags has none that isn't as it is written
none_mapped : {A B : Type 0} (f : A → B) (xs : List A) → map f xs ≡ [] → xs ≡ []
none_mapped f [] e = refl
none_mapped f (x ∷ xs) e = absurd (cc)

abbrev bare_kept : Kept → world.Entity V
bare_kept k = bare_entity k.0

module _ (t : Table) where
  bare_is_well : (e : world.Entity Made) → e.attributes ≡ [] → e.tags ≡ [] → IsFoundMadeWell t (held e)
  bare_is_well e h k a = (subst (λ (ps : List (Text × Part Made)). IsPartMadeWell t (lookup (bytes_eq a) ps)) (sym h) tt, subst (λ (ps : List (Text × Part Made)). IsPartMadeWell t (lookup (bytes_eq a) ps)) (sym k) tt)

  kept_is_well : (k : Kept) → (bare_kept k).attributes ≡ [] → (bare_kept k).tags ≡ [] → IsFoundMadeWell t (held k.0)
  kept_is_well k h j = bare_is_well k.0 (none_mapped (λ (p : Text × Part Made). (p.0, bare_part p.1)) k.0.attributes h) (none_mapped (λ (p : Text × Part Made). (p.0, bare_part p.1)) k.0.tags j)

module _ (x : Setup) (es : List Entity) (has : HasActions x.schema (map entity_pair es)) where
  abbrev found : Uid → Option Kept
  found u = lookup (uid_eq u) (map kept_pair es)

  found_is : (u : Uid) → option_map bare_kept (found u) ≡ (if model.declares_action x.schema u then Some (has.acts u) else None)
  found_is u = sym (lookup_seen (uid_eq u) entity_uid entity_kept bare_kept es) ∙ has.each u

  found_well : (u : Uid) (d : Bool) (o : Option Kept) → model.declares_action x.schema u ≡ d → option_map bare_kept o ≡ (if d then Some (has.acts u) else None) → (b : Bool) → IsFoundMadeWell x.functions.table (cond b (found_kept partial o) missing)
  found_well u d o q e false = tt
  found_well u d None q e true = tt
  found_well u false (Some k) q e true = absurd (cc)
  found_well u true (Some k) q e true =
      let is : bare_kept k ≡ has.acts u = cc in
      kept_is_well x.functions.table k (ap (λ (z : world.Entity V). z.attributes) is ∙ (has.same u q).attributes) (ap (λ (z : world.Entity V). z.tags) is ∙ (has.same u q).tags)

  -- the declared actions are loaded
  pub actions_loaded : AreLoaded x at_start es
  actions_loaded = record {
    acts = has.acts;
    same = has.same;
    each = has.each;
    distinct = has.distinct;
    written = λ u. found_well u (model.declares_action x.schema u) (found u) refl (found_is u) (is_uid u);
    conform = λ u e k. absurd (contains_none u k);
  }

module _ {G : Type 0} (suits : G → Setup → Type 0) where
  pub starts_at : RootsAreKnown → (e : SessionAt G) → IsMadeContext (request_of e.start).context → opens (request_of e.start) → ((n : Text) → bound_in e.bound n ≡ None)
      → ((x : Setup) → suits (gate_of e) x → (s : State) → AreValuesOf s (bound_in e.bound) → request_of e.now ≡ request_at x.functions s (request_of e.start))
      → ((x : Setup) → suits (gate_of e) x → level_of e.loading ≡ x.level) → (z : model.Schema) → ((x : Setup) → suits (gate_of e) x → z ≡ x.schema) → IsWanting z e.loading → ((u : Uid) → rows_in e.loading u ≡ None)
      → IsKept (known_roots (request_of e.now)) (mentions_of e.loading) (level_of e.loading) (near_in e.loading) → (es : List Entity) → HasActions z (map entity_pair es) → loaded_in e ≡ with_new [] es → (store_seen e.loaded).extent ≡ partial → (store_seen e.loaded).absent ≡ []
      → (x : Setup) → IsSetup suits x (gate_of e) e.start → IsAt suits x at_start e
  starts_at roots e made opened bound now level z schema_is wanting rows kept es has is extent absent x setup =
      let start = setup.start in
      let schema = schema_is x setup.gate in
      let here : request_of e.now ≡ request_at x.functions at_start x.start = now x setup.gate at_start bound ∙ ap (request_at x.functions at_start) start in
      let deep : level_of e.loading ≡ x.level = level x setup.gate in
      let loaded : loaded_in e ≡ es = is ∙ fresh_are_appended [] es has.distinct in
      record {
        setup = setup;
        context = subst (λ r. IsMadeContext r.context) start made;
        opened = opened_at_start x (subst opens start opened);
        bound = bound;
        now = here;
        level = deep;
        wanting = subst (λ y. IsWanting y e.loading) schema wanting;
        near = loaded_at_start x e.loading (known_roots (request_of e.now)) rows (roots x at_start (request_of e.now) here) (subst (λ n. IsKept (known_roots (request_of e.now)) (mentions_of e.loading) n (near_in e.loading)) deep kept);
        loaded = subst (AreLoaded x at_start) (sym loaded) (actions_loaded x es (subst (λ y. HasActions y (map entity_pair es)) schema has));
        recorded = record {
          extent = extent;
          entities = refl;
          absent = λ u none. ap (λ us. list_any (uid_eq u) us) absent ∙ ap is_some (sym (rows u));
        };
      }

-- By declarations in another order a run is a run too.
use Rattle.std.proofs.Common.{◌≡◌, ◌∙◌, ◌||◌, Bool, true, false, cond, List, [], ◌∷◌, Option, Some, None, inl, inr, ⊎_elim, refl, sym, ap}
use Rattle.std.specs.List.{list_any}
use Rattle.cedar_expr_model.specs.Name.{Text}
use Rattle.cedar_expr_model.specs.Uid.{Uid, uid_eq}
use Rattle.cedar_expr_model.specs.Made.{Made}
use Rattle.cedar_expr_model.specs.Tree.{record_literal}
use Rattle.cedar_expr_model.specs.Value.{V, truth_value}
use Rattle.cedar_expr_model.specs.ValueParts.{Part}
use Rattle.cedar_store_model.specs.Answer.{Decision, allow, deny}
use Rattle.cedar_store_model.specs.Knowledge.{IsSettled}
use Rattle.cedar_store_model.specs.Laws.{with_store}
use Rattle.cedar_store_model.specs.Outcome.{val}
use Rattle.cedar_store_model.specs.Policy.{Policy, Effect}
use Rattle.cedar_store_model.specs.Store.{found_as, if_uid, whole, unloaded}
use Rattle.cedar_store_model.specs.World.{World, Entity, Found, held, missing, not_loaded, by_found}
use Rattle.cedar_schema_model.specs.ActionEntities.{action_ancestors, as_entity}
use Rattle.cedar_schema_model.specs.BagLaws.{IsReordered}
use Rattle.cedar_schema_model.specs.Declarations.{Declarations}
use Rattle.cedar_schema_model.specs.Resolved.{schema_of}
use Rattle.cedar_schema_model.specs.Schema.{Schema, declares_action}
use Rattle.cedar_typechecker_model.proofs.Moved.Policies.{schemas_moved}
use Rattle.cedar_typechecker_model.proofs.Moved.Schemas.{IsMoved, moved_back, same_declares_action}
use Rattle.cedar_evaluator_model.specs.Known.{known_found, known_parts}
use Rattle.cedar_evaluator_model.specs.Members.{met_limit, decision_in_session}
use Rattle.cedar_evaluator_model.specs.OfLaws.WellMade.{IsFoundMadeWell}
use Rattle.cedar_evaluator_model.specs.Response.{response_of}
use Rattle.cedar_evaluator_model.specs.Scope.{Context, closed, residual_fields, unknown_context}
use Rattle.cedar_gate_model.specs.Acceptance.{IsAccepted, extension_types, schema_in}
use Rattle.cedar_gate_model.specs.Moment.{ContextCompleted, request_of}
use Rattle.cedar_gate_model.specs.Owed.{SomeTrue, NoneTrue, IsForced}
use Rattle.cedar_gate_model.specs.Runs.{End, answered, opening_refused, supply_refused, binding_refused, answer_refused, supplied_by, IsRoundNow, with_asked, RefusesSupply, MayDecide, DecidesInPart, Finishes, Loads, Follows, Runs}
use Rattle.cedar_gate_model.specs.RunsAlike.{by_declarations}
use Rattle.cedar_gate_model.specs.RunsAnswer.{Course, session_of, MayRun, IsRun}
use Rattle.cedar_gate_model.specs.Session.{Setup, State, at_start, scope_now, whole_store, known_now, world_now, with_bound, IsWantedNow, NothingIsWanted, IsWantedList, BindRefusal, BindFault, not_open, against_annotation, no_entity_or_record, context_fails, Supplied, IsWrong, SupplyRefusal, SupplyFault, not_wanted, lacking, repeated, wrong_entity, AnswerRefusal, AnswerFault, not_bound, still_wanted, not_conforming, CompletesNow}
use Rattle.cedar_gate_model.specs.Transcript.{Step, load, bind_name, decide, Entry, round, bound, decided}
use Rattle.cedar_gate_model.proofs.Gate.Accepting.{accepted_good}
use Rattle.cedar_gate_model.proofs.Runs.Ancestors.{FoundAlike, stores_alike, means_alike, policy_means_alike}
use Rattle.cedar_gate_model.proofs.Runs.MovedSchemas.{entities_conform, requests_conform, near_alike}
use Rattle.cedar_gate_model.proofs.Runs.PartAlike.{same_response}
use Rattle.cedar_gate_model.proofs.Runs.Reordered.{same_ancestors, store_case}

-- what the one store says of a uid and what the other does, by a test that is the same of both
guarded_alike : (f g o : Found V) → FoundAlike f g → (a b : Bool) → a ≡ b → FoundAlike (cond b f o) (cond a g o)
guarded_alike f g o h true true e = h
guarded_alike f g o h false false e = inl refl
guarded_alike f g o h true false e = cc
guarded_alike f g o h false true e = cc

abbrev by_schema : Setup → Schema → Setup
by_schema x t = record x { schema = t }

-- What is so by the moved schema is so by the one before.
module _ (x : Setup) (t : Schema) (m : IsMoved x.schema t) where
  abbrev y : Setup
  y = by_schema x t

  whole_alike : (u : Uid) → FoundAlike (whole_store y u) (whole_store x u)
  whole_alike u = store_case x.schema t m u (if_uid u (found_as whole (x.store u))) (declares_action x.schema u) (declares_action t u) (same_declares_action x.schema t m u)

  known_alike : (s : State) (u : Uid) → FoundAlike ((known_now y s).store u) ((known_now x s).store u)
  known_alike s u =
      guarded_alike (whole_store y u) (whole_store x u) (unloaded u) (whole_alike u)
      (declares_action x.schema u || list_any (uid_eq u) s.asked) (declares_action t u || list_any (uid_eq u) s.asked) (ap (λ b. b || list_any (uid_eq u) s.asked) (same_declares_action x.schema t m u))

  wanted_back : (s : State) (u : Uid) → IsWantedNow y s u → IsWantedNow x s u
  wanted_back s u k = ((near_alike (known_now x s) (known_now y s).store (known_alike s) x.level u (k.0).0, same_declares_action x.schema t m u ∙ (k.0).1), k.1)

  -- forced decisions
  some_back : (s : State) (ps : List Policy) (e : Effect) → SomeTrue (known_now y s) ps e → SomeTrue (known_now x s) ps e
  some_back s ps e h = (h.0, h.1, h.2, policy_means_alike (known_now x s) (known_now y s).store (known_alike s) h.0 (val (truth_value true)) h.3)

  none_back : (s : State) (ps : List Policy) (e : Effect) → NoneTrue (known_now y s) ps e → NoneTrue (known_now x s) ps e
  none_back s ps e h p c q = let r = h p c q in (r.0, policy_means_alike (known_now x s) (known_now y s).store (known_alike s) p r.0 r.1, r.2)

  forced_back : (s : State) (ps : List Policy) (d : Decision) → IsForced (known_now y s) ps d → IsForced (known_now x s) ps d
  forced_back s ps allow h = (some_back s ps _ h.0, none_back s ps _ h.1)
  forced_back s ps deny h = ⊎_elim (λ a. inl (some_back s ps _ a)) (λ a. inr (none_back s ps _ a)) h

  -- A world that completes the state by the moved schema: with the entities of the actions as they were, it completes the one before.
  abbrev before : World → Uid → Found V
  before w u = cond (declares_action x.schema u) (held (as_entity x.schema u)) (w.store u)

  before_case : (f : Found V) (u : Uid) (b : Bool) → (b ≡ true → f ≡ held (as_entity t u)) → FoundAlike (cond b (held (as_entity x.schema u)) f) f
  before_case f u true h = inr (as_entity x.schema u, as_entity t u, refl, h refl, record { attributes = refl; tags = refl; ancestors = λ v. sym (same_ancestors x.schema t m u v) })
  before_case f u false h = inl refl

  settled_case : (f : Found V) (u : Uid) (b : Bool) → IsSettled f → IsSettled (cond b (held (as_entity x.schema u)) f)
  settled_case f u true h = refl
  settled_case f u false h = h

  asked_case : (f o : Found V) (u : Uid) (a b : Bool) → a ≡ b → f ≡ cond b (held (as_entity t u)) o → cond a (held (as_entity x.schema u)) f ≡ cond a (held (as_entity x.schema u)) o
  asked_case f o u true b e h = refl
  asked_case f o u false false e h = h
  asked_case f o u false true e h = cc

  context_back : (w : World) → ((u : Uid) → FoundAlike (before w u) (w.store u)) → (c : Context) → ContextCompleted w c → ContextCompleted (with_store w (before w)) c
  context_back w alike (closed fs) k = k
  context_back w alike (residual_fields fs) k = (k.0, k.1, (λ slots. means_alike (record w { slots = slots }) (before w) alike (record_literal fs) (val k.0) ((k.2).0 slots), (k.2).1))
  context_back w alike unknown_context k = k

  module _ (s : State) (w : World) (k : CompletesNow y s w) where
    declared : (u : Uid) (b : Bool) → declares_action x.schema u ≡ b → declares_action t u ≡ b
    declared u b e = sym (same_declares_action x.schema t m u) ∙ e

    before_alike : (u : Uid) → FoundAlike (before w u) (w.store u)
    before_alike u = before_case (w.store u) u (declares_action x.schema u) (λ e. (k.request).actions u (declared u true e))

    elsewhere : (u : Uid) → declares_action x.schema u ≡ false → before w u ≡ w.store u
    elsewhere u e = ap (λ b. cond b (held (as_entity x.schema u)) (w.store u)) e

    completes_back : CompletesNow x s (with_store w (before w))
    completes_back =
        let r = k.request in
        record {
          request = record {
            whole = record {
              principal = (r.whole).principal;
              action = (r.whole).action;
              resource = (r.whole).resource;
              context = (r.whole).context;
              unknowns = (r.whole).unknowns;
              store = λ u. settled_case (w.store u) u (declares_action x.schema u) ((r.whole).store u);
            };
            principal = r.principal;
            action = r.action;
            resource = r.resource;
            context = context_back w before_alike x.start.context r.context;
            table = r.table;
            request = requests_conform t x.schema (moved_back x.schema t m) (request_of w) r.request;
            actions = λ u e. ap (λ b. cond b (held (as_entity x.schema u)) (w.store u)) e;
            uids = λ u e n. elsewhere u e ∙ r.uids u (declared u false e) n;
            slice = λ u e i q.
                entities_conform t x.schema (moved_back x.schema t m) u e (r.slice u e (near_alike w (before w) before_alike x.level u i.0, declared u false i.1) (sym (elsewhere u i.1) ∙ q));
          };
          bound = k.bound;
          asked = λ u a. asked_case (w.store u) (if_uid u (found_as whole (x.store u))) u (declares_action x.schema u) (declares_action t u) (same_declares_action x.schema t m u) (k.asked u a);
        }

  -- what evaluating stands on by the moved schema
  abbrev action_moved : Uid → Entity Made
  action_moved u = record { attributes = []; tags = []; ancestors = action_ancestors t u }

  abbrev moved_made : (Uid → Found Made) → Uid → Found Made
  moved_made store u = cond (declares_action t u) (held (action_moved u)) (store u)

  no_parts : (ps : List (Text × Part Made)) → known_parts ps ≡ [] → [] ≡ ps
  no_parts [] e = refl
  no_parts (p ∷ ps) e = cc

  held_alike : (u : Uid) (f : Found Made) → known_found f ≡ held (as_entity x.schema u) → FoundAlike (held (action_moved u)) f
  held_alike u (held e) q =
      inr (
        action_moved u,
        e,
        refl,
        refl,
        record {
          attributes = no_parts e.attributes (ap (by_found (λ d. d.attributes) [] []) q);
          tags = no_parts e.tags (ap (by_found (λ d. d.tags) [] []) q);
          ancestors = λ v. same_ancestors x.schema t m u v ∙ sym (ap (by_found (λ d. list_any (uid_eq v) d.ancestors) false false) q);
        },
      )
  held_alike u missing q = cc
  held_alike u not_loaded q = cc

  made_case : (u : Uid) (f : Found Made) (o p : Found V) (a b c : Bool) → a ≡ b → known_found f ≡ cond (a || c) (cond a (held (as_entity x.schema u)) o) p → FoundAlike (cond b (held (action_moved u)) f) f
  made_case u f o p true true c e h = held_alike u f h
  made_case u f o p false false c e h = inl refl
  made_case u f o p true false c e h = cc
  made_case u f o p false true c e h = cc

  found_case : (u : Uid) (f : Found Made) (o p : Found V) (a b c : Bool) → a ≡ b → known_found f ≡ cond (a || c) (cond a (held (as_entity x.schema u)) o) p
      → known_found (cond b (held (action_moved u)) f) ≡ cond (b || c) (cond b (held (as_entity t u)) o) p
  found_case u f o p true true c e h = refl
  found_case u f o p false false c e h = h
  found_case u f o p true false c e h = cc
  found_case u f o p false true c e h = cc

  well_case : (u : Uid) (f : Found Made) (b : Bool) → IsFoundMadeWell x.functions.table f → IsFoundMadeWell x.functions.table (cond b (held (action_moved u)) f)
  well_case u f true h = λ a. (tt, tt)
  well_case u f false h = h

  module _ (s : State) (store : Uid → Found Made) (known : (u : Uid) → known_found (store u) ≡ (known_now x s).store u) where
    made_alike : (u : Uid) → FoundAlike (moved_made store u) (store u)
    made_alike u =
        made_case u (store u) (if_uid u (found_as whole (x.store u))) (unloaded u) (declares_action x.schema u) (declares_action t u) (list_any (uid_eq u) s.asked) (same_declares_action x.schema t m u) (known u)

    made_known : (u : Uid) → known_found (moved_made store u) ≡ (known_now y s).store u
    made_known u =
        found_case u (store u) (if_uid u (found_as whole (x.store u))) (unloaded u) (declares_action x.schema u) (declares_action t u) (list_any (uid_eq u) s.asked) (same_declares_action x.schema t m u) (known u)

    made_response : (ps : List Policy) → response_of (scope_now y s (moved_made store)) x.limit ps ≡ response_of (scope_now x s store) x.limit ps
    made_response ps = same_response (scope_now x s store) (moved_made store) made_alike x.limit ps

-- Both ways.
module _ (x : Setup) (t : Schema) (m : IsMoved x.schema t) (ps : List Policy) where
  abbrev z : Setup
  z = by_schema x t

  abbrev back : IsMoved t x.schema
  back = moved_back x.schema t m

  wanted_on : (s : State) (u : Uid) → IsWantedNow x s u → IsWantedNow z s u
  wanted_on s u k = wanted_back z x.schema back s u k

  nothing_on : (s : State) → NothingIsWanted x s → NothingIsWanted z s
  nothing_on s n u k = n u (wanted_back x t m s u k)

  list_on : (s : State) (us : List Uid) → IsWantedList x s us → IsWantedList z s us
  list_on s us w = record { in_order = w.in_order; exact = λ u. (λ k. wanted_on s u ((w.exact u).0 k), λ k. (w.exact u).1 (wanted_back x t m s u k)) }

  wrong_on : (p : Uid × Option (Uid × Entity V)) → IsWrong x.schema p → IsWrong t p
  wrong_on (u, None) k = k
  wrong_on (u, Some e) k = ⊎_elim (λ a. inl a) (λ a. inr (λ h. a (entities_conform t x.schema back e.0 e.1 h))) k

  wrong_back : (p : Uid × Option (Uid × Entity V)) → IsWrong t p → IsWrong x.schema p
  wrong_back (u, None) k = k
  wrong_back (u, Some e) k = ⊎_elim (λ a. inl a) (λ a. inr (λ h. a (entities_conform x.schema t m e.0 e.1 h))) k

  supply_on : (s : State) (p : Supplied) (f : SupplyRefusal) → SupplyFault x s p f → SupplyFault z s p f
  supply_on s p not_wanted k = (k.0, k.1, λ w. k.2 (wanted_back x t m s k.0 w))
  supply_on s p lacking k = (k.0, wanted_on s k.0 k.1, k.2)
  supply_on s p repeated k = k
  supply_on s p wrong_entity k = (k.0, k.1, wrong_on k.0 k.2)

  supply_back : (s : State) (p : Supplied) (f : SupplyRefusal) → SupplyFault z s p f → SupplyFault x s p f
  supply_back s p not_wanted k = (k.0, k.1, λ w. k.2 (wanted_on s k.0 w))
  supply_back s p lacking k = (k.0, wanted_back x t m s k.0 k.1, k.2)
  supply_back s p repeated k = k
  supply_back s p wrong_entity k = (k.0, k.1, wrong_back k.0 k.2)

  round_on : (s : State) (us : List Uid) → IsRoundNow x s us → IsRoundNow z s us
  round_on s us r = record { some_wanted = r.some_wanted; wanted = list_on s us r.wanted; taken = λ f k. r.taken f (supply_back s (supplied_by x us) f k) }

  refused_on : (s : State) (f : SupplyRefusal) → RefusesSupply x s f → RefusesSupply z s f
  refused_on s f r = (r.0, r.1, list_on s r.0 r.2, supply_on s (supplied_by x r.0) f r.3)

  answer_on : (s : State) (f : AnswerRefusal) → AnswerFault x s f → AnswerFault z s f
  answer_on s not_bound k = k
  answer_on s still_wanted k = (k.0, wanted_on s k.0 k.1)
  answer_on s not_conforming k = (k.0, λ h. k.1 (requests_conform t x.schema back (request_of (world_now x s)) h))

  answer_back : (s : State) (f : AnswerRefusal) → AnswerFault z s f → AnswerFault x s f
  answer_back s not_bound k = k
  answer_back s still_wanted k = (k.0, wanted_back x t m s k.0 k.1)
  answer_back s not_conforming k = (k.0, λ h. k.1 (requests_conform x.schema t m (request_of (world_now x s)) h))

  bind_on : (s : State) (n : Text) (v : Made) (f : BindRefusal) → BindFault x s n v f → BindFault z s n v f
  bind_on s n v not_open k = k
  bind_on s n v against_annotation k = k
  bind_on s n v no_entity_or_record k = k
  bind_on s n v context_fails k = k

  bind_back : (s : State) (n : Text) (v : Made) (f : BindRefusal) → BindFault z s n v f → BindFault x s n v f
  bind_back s n v not_open k = k
  bind_back s n v against_annotation k = k
  bind_back s n v no_entity_or_record k = k
  bind_back s n v context_fails k = k

  -- decisions
  pub may_decide_on : (s : State) (d : Option Decision) → MayDecide x ps s d → MayDecide z ps s d
  may_decide_on s None h =
      ⊎_elim
      (λ a. inl (moved_made x t m a.0, made_known x t m s a.0 a.1, ap met_limit (made_response x t m s a.0 a.1 ps) ∙ a.2))
      (λ a. inr (λ d k. a d (forced_back x t m s ps d k))) h
  may_decide_on s (Some d) h =
      λ w k. h (with_store w (before x t m w)) (completes_back x t m s w k) ∙ ap (λ a. a.decision) (stores_alike w (before x t m w) (before_alike x t m s w k) ps)

  pub decides_in_part_on : (s : State) (d : Option Decision) → DecidesInPart x ps s d → DecidesInPart z ps s d
  decides_in_part_on s d h =
      let k = h.1 in (
        moved_made x t m h.0,
        record { known = made_known x t m s h.0 k.known; well = λ u. well_case x t m u (h.0 u) (declares_action t u) (k.well u); context = k.context },
        h.2 ∙ sym (ap decision_in_session (made_response x t m s h.0 k.known ps)),
      )

  -- steps
  module _ (may then : State → Option Decision → Type 0) (decides : (s : State) (d : Option Decision) → may s d → then s d) where
    finishes_on : (s : State) (es : List Entry) (end : End) → Finishes x ps s es end → Finishes z ps s es end
    finishes_on s (round us ∷ es) end f = (round_on s us f.0, finishes_on (with_asked s us) es end f.1)
    finishes_on s [] (answered a) f = (nothing_on s f.0, λ g k. f.1 g (answer_back s g k), f.2 ∙ sym (stores_alike (world_now x s) (whole_store z) (whole_alike x t m) ps))
    finishes_on s [] (answer_refused g) f = (nothing_on s f.0, answer_on s g f.1)
    finishes_on s [] (supply_refused g) f = refused_on s g f
    finishes_on s [] (opening_refused g) f = absurd f
    finishes_on s [] (binding_refused g) f = absurd f
    finishes_on s (bound n ∷ es) end f = absurd f
    finishes_on s (decided d ∷ es) end f = absurd f

    loads_on : (s : State) (next other : State → List Entry → Type 0) → ((r : State) (es : List Entry) → next r es → other r es) → (es : List Entry) (end : End) → Loads x s next es end → Loads z s other es end
    loads_on s next other goes (round us ∷ es) end p = (round_on s us p.0, goes (with_asked s us) es p.1)
    loads_on s next other goes [] (supply_refused g) p = refused_on s g p
    loads_on s next other goes [] (answered a) p = absurd p
    loads_on s next other goes [] (answer_refused g) p = absurd p
    loads_on s next other goes [] (opening_refused g) p = absurd p
    loads_on s next other goes [] (binding_refused g) p = absurd p
    loads_on s next other goes (bound n ∷ es) end p = absurd p
    loads_on s next other goes (decided d ∷ es) end p = absurd p

    follows_on : (s : State) (steps : List Step) (es : List Entry) (end : End) → Follows may x ps s steps es end → Follows then z ps s steps es end
    follows_on s [] es end f = finishes_on s es end f
    follows_on s (load ∷ steps) es end f =
        ⊎_elim (λ p. inl (nothing_on s p.0, follows_on s steps es end p.1))
        (λ p. inr (loads_on s (λ r fs. Follows may x ps r steps fs end) (λ r fs. Follows then z ps r steps fs end) (λ r fs g. follows_on r steps fs end g) es end p)) f
    follows_on s (bind_name n v ∷ steps) (bound k ∷ es) end f = (f.0, λ g j. f.1 g (bind_back s n v g j), follows_on (with_bound s n v) steps es end f.2)
    follows_on s (bind_name n v ∷ steps) [] (binding_refused g) f = bind_on s n v g f
    follows_on s (bind_name n v ∷ steps) [] (answered a) f = absurd f
    follows_on s (bind_name n v ∷ steps) [] (answer_refused g) f = absurd f
    follows_on s (bind_name n v ∷ steps) [] (opening_refused g) f = absurd f
    follows_on s (bind_name n v ∷ steps) [] (supply_refused g) f = absurd f
    follows_on s (bind_name n v ∷ steps) (round us ∷ es) end f = absurd f
    follows_on s (bind_name n v ∷ steps) (decided d ∷ es) end f = absurd f
    follows_on s (decide ∷ steps) (decided d ∷ es) end f = (decides s d f.0, follows_on s steps es end f.1)
    follows_on s (decide ∷ steps) [] end f = absurd f
    follows_on s (decide ∷ steps) (round us ∷ es) end f = absurd f
    follows_on s (decide ∷ steps) (bound n ∷ es) end f = absurd f

    pub runs_on : (steps : List Step) (es : List Entry) (end : End) → Runs may x ps steps es end → Runs then z ps steps es end
    runs_on steps es (opening_refused g) r = r
    runs_on steps es (answered a) r = (r.0, follows_on at_start steps es (answered a) r.1)
    runs_on steps es (supply_refused g) r = (r.0, follows_on at_start steps es (supply_refused g) r.1)
    runs_on steps es (binding_refused g) r = (r.0, follows_on at_start steps es (binding_refused g) r.1)
    runs_on steps es (answer_refused g) r = (r.0, follows_on at_start steps es (answer_refused g) r.1)

-- the schemas of a course and of the one with its declarations in another order
module _ (c : Course) (d : Declarations) (accepted : IsAccepted c.submission) (moved : IsReordered c.submission.declarations d) where
  abbrev schemas : IsMoved (schema_in c.submission) (schema_of d)
  schemas = schemas_moved (extension_types c.submission.table) c.submission.declarations d (accepted_good c.submission accepted).well_formed moved

  abbrev policies : List Policy
  policies = c.submission.policies

  pub moved_declarations_run : (es : List Entry) (end : End) → MayRun c es end → MayRun (by_declarations c d) es end
  moved_declarations_run es end r =
      let x = session_of c in
      let t = schema_of d in
      runs_on x t schemas policies (MayDecide x policies) (MayDecide (by_schema x t) policies) (may_decide_on x t schemas policies) c.steps es end r

  pub moved_declarations_decide : (es : List Entry) (end : End) → IsRun c es end → IsRun (by_declarations c d) es end
  moved_declarations_decide es end r =
      let x = session_of c in
      let t = schema_of d in
      runs_on x t schemas policies (DecidesInPart x policies) (DecidesInPart (by_schema x t) policies) (decides_in_part_on x t schemas policies) c.steps es end r

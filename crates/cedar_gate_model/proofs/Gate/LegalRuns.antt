-- What a run does is legal, and one that answered asked for the slice.
use Rattle.std.proofs.Common.{◌≡◌, ◌↔◌, ◌∙◌, ℕ, Bool, true, false, cond, not, ◌&&◌, ◌||◌, is_some, List, [], ◌∷◌, map, Option, Some, None, codes, inl, inr, ⊎_elim, ◌⊎◌, refl, sym, ap, subst}
use Rattle.std.specs.Prelude.{Contains, unwrap_or, option_and_then}
use Rattle.std.specs.List.{list_any}
use Rattle.std.specs.Str.{bytes_eq}
use Rattle.std.proofs.lemmas.List.Elements.{Contains-append_left}
use Rattle.std.proofs.lemmas.Slice.Eq.{bytes_eq-Decides}
use Rattle.cedar_expr_model.specs.Name.{Text, Name}
use Rattle.cedar_expr_model.specs.Uid.{Uid, uid_eq}
use Rattle.cedar_expr_model.specs.Value.{V, record_of, Fields}
use Rattle.cedar_expr_model.specs.Made.{Made, bare, made_prim, made_set, made_record, made_extension}
use Rattle.cedar_expr_model.proofs.Lists.{contains_head, contains_tail, found-Decides}
use Rattle.cedar_expr_model.proofs.Equality.{uid_eq-Decides}
use Rattle.cedar_store_model.specs.World.{World, Found, held}
use Rattle.cedar_store_model.specs.Policy.{Policy}
use Rattle.cedar_store_model.specs.Answer.{Decision, Answer}
use Rattle.cedar_store_model.specs.Store.{found_as, if_uid, unloaded, whole}
use Rattle.cedar_schema_model.specs.Schema.{declares_action}
use Rattle.cedar_schema_model.specs.ActionEntities.{as_entity}
use Rattle.cedar_evaluator_model.specs.Scope.{Entry, uid, unknown_uid, Context, closed, residual_fields, unknown_context, value_left}
use Rattle.cedar_typechecker_model.specs.Slice.{IsNear, InSlice}
use Rattle.cedar_evaluator_model.specs.Response.{PartialRequest}
use Rattle.cedar_expr_model.specs.Lists.{when}
use Rattle.cedar_gate_model.specs.Moment.{EntryCompleted, ContextCompleted, Moment, at_first, entry_known, context_known, known_at}
use Rattle.cedar_gate_model.specs.Transcript.{Step, load, bind_name, decide, round, bound, decided, Case, after, IsWanted, IsRound, IsLegalEntry, AreLegal}
use Rattle.cedar_gate_model.specs.Session.{Setup, State, at_start, uid_in, whole_store, known_now, NothingIsWanted, is_open_entry, is_open_context, entry_named, HasOpenName, with_bound, not_bound, MeansBound, CompletesNow, entry_now, context_now, value_of}
use Rattle.cedar_gate_model.specs.Runs.{End, answered, opening_refused, supply_refused, binding_refused, answer_refused, IsRoundNow, with_asked, Finishes, Loads, Binds, DecidesNow, Follows, MayDecide, Runs}
use Rattle.cedar_gate_model.specs.GateLaws.{SameRoots, KnowsRoots, moment_after, AsksTheSlice}
use Rattle.cedar_gate_model.specs.RunLaws.{HasNoResidual, bindings_in, last_state, case_of}
use Rattle.cedar_gate_model.proofs.Gate.Slices.{near_kept, same_root}
use Rattle.cedar_gate_model.proofs.Gate.Transcripts.{slice_is_asked}
use Rattle.cedar_gate_model.proofs.Gate.AlikeRuns.{opened_or_not}
use Rattle.cedar_typechecker_model.proofs.Mentions.{FoundMentions}
use Rattle.cedar_evaluator_model.specs.Known.{known_entry, known_context}
use Rattle.cedar_evaluator_model.specs.Reauthorize.{context_from}
use Rattle.std.specs.Map.{lookup}
use Rattle.std.specs.Option.{option_map_or}
use Rattle.cedar_gate_model.specs.Transcript as transcript

-- what was bound and asked, without the values
abbrev pub moment_of : State → Moment
moment_of s = record { bound = map (λ b. b.0) s.bound; asked = s.asked }

-- a name is bound, to what it means, or it isn't
abbrev pub BoundOrOpen : World → Text → List (Text × Made) → Type 0
BoundOrOpen w n bs = ((m : Made) × (lookup (bytes_eq n) bs ≡ Some m) × (list_any (bytes_eq n) (map (λ b. b.0) bs) ≡ true) × MeansBound w (n, m))
    ⊎ ((lookup (bytes_eq n) bs ≡ None) × (list_any (bytes_eq n) (map (λ b. b.0) bs) ≡ false))

pub bound_or_open : (w : World) (n : Text) (bs : List (Text × Made)) → ((b : Text × Made) → Contains bs b → MeansBound w b) → BoundOrOpen w n bs
bound_or_open w n [] h = inr (refl, refl)
bound_or_open w n (b ∷ bs) h = by_test (bound_or_open w n bs (λ c k. h c (contains_tail b bs c k))) (bytes_eq n b.0) refl
  where
    by_test : BoundOrOpen w n bs → (t : Bool) → bytes_eq n b.0 ≡ t → BoundOrOpen w n (b ∷ bs)
    by_test rest true e = inl (
      b.1,
      ap (λ t. cond t (Some b.1) (lookup (bytes_eq n) bs)) e,
      ap (λ t. t || list_any (bytes_eq n) (map (λ b. b.0) bs)) e,
      subst (λ z. MeansBound w (z, b.1)) (sym ((bytes_eq-Decides n b.0).0 e)) (h b (contains_head b bs)),
    )
    by_test rest false e =
        ⊎_elim
        (λ r. inl (r.0, ap (λ t. cond t (Some b.1) (lookup (bytes_eq n) bs)) e ∙ r.1, ap (λ t. t || list_any (bytes_eq n) (map (λ b. b.0) bs)) e ∙ r.2, r.3))
        (λ r. inr (ap (λ t. cond t (Some b.1) (lookup (bytes_eq n) bs)) e ∙ r.0, ap (λ t. t || list_any (bytes_eq n) (map (λ b. b.0) bs)) e ∙ r.1))
        rest

-- an entry is known as far as it is in the world
bound_entry : (k : Option Name) (o : Option Uid) → known_entry (option_map_or uid o (unknown_uid k)) ≡ o
bound_entry k None = refl
bound_entry k (Some u) = refl

pub entry_same : (s : State) (w : World) (n : Text) (e : Entry) (o : Option Uid) → BoundOrOpen w n s.bound → ((m : Made) → MeansBound w (n, m) → o ≡ uid_in (Some m)) → EntryCompleted e o → known_entry (entry_now s n e) ≡ when (entry_known (moment_of s) n e) o
entry_same s w n (uid u) o b means c = sym c
entry_same s w n (unknown_uid k) o b means c =
    ⊎_elim
    (λ r. bound_entry k (uid_in (value_of s n)) ∙ ap uid_in r.1 ∙ sym (means r.0 r.3) ∙ ap (λ t. when t o) (sym r.2))
    (λ r. bound_entry k (uid_in (value_of s n)) ∙ ap uid_in r.0 ∙ ap (λ t. when t o) (sym r.1))
    b

-- a context that is bound to a record is that record
abbrev context_of : Option Made → Context
context_of o = unwrap_or (option_and_then (λ m. context_from (value_left m)) o) unknown_context

bound_context : (m : Made) (fs : Fields) → bare m ≡ record_of fs → known_context (context_of (Some m)) ≡ Some (bare m)
bound_context (made_record gs) fs e = refl
bound_context (made_prim p) fs e = cc
bound_context (made_set ms) fs e = cc
bound_context (made_extension n k f ps) fs e = cc

pub context_same : (x : Setup) (s : State) (w : World) (c : Context) → HasNoResidual c → BoundOrOpen w (codes "context") s.bound → ContextCompleted w c → known_context (context_now x.functions s c) ≡ when (context_known (moment_of s) c) w.context
context_same x s w (closed fs) h b c = sym c
context_same x s w (residual_fields fs) h b c = absurd h
context_same x s w unknown_context h b c =
    ⊎_elim
    (λ r. ap (λ o. known_context (context_of o)) r.1 ∙ bound_context r.0 c.0 (let e : Some (bare r.0) ≡ Some (record_of c.0) = sym (r.3.1.3 refl) ∙ c.1 in cc) ∙ sym (r.3.1.3 refl) ∙ ap (λ t. when t w.context) (sym r.2))
    (λ r. ap (λ o. known_context (context_of o)) r.0 ∙ ap (λ t. when t w.context) (sym r.1))
    b

-- what is known of the world at the moment of a state
abbrev pub seen : Setup → World → State → World
seen x w s = known_at x.schema x.start w (moment_of s)

roots_same : (x : Setup) (s : State) (w : World) → HasNoResidual x.start.context → CompletesNow x s w → SameRoots (known_now x s) (seen x w s)
roots_same x s w h c = record {
  principal = entry_same s w (codes "principal") x.start.principal w.principal (bound_or_open w (codes "principal") s.bound c.bound) (λ m k. k.1.0 refl) c.request.principal;
  resource = entry_same s w (codes "resource") x.start.resource w.resource (bound_or_open w (codes "resource") s.bound c.bound) (λ m k. k.1.2 refl) c.request.resource;
  context = context_same x s w x.start.context h (bound_or_open w (codes "context") s.bound c.bound) c.request.context;
}

same_loaded : (u : Uid) (t r : Bool) (f g : Found V) → (t ≡ true → f ≡ g) → (r ≡ true → f ≡ g) → cond (t || r) f (unloaded u) ≡ cond (t || r) g (unloaded u)
same_loaded u true r f g a b = a refl
same_loaded u false true f g a b = b refl
same_loaded u false false f g a b = refl

pub store_same : (x : Setup) (s : State) (w : World) → CompletesNow x s w → (u : Uid) → (known_now x s).store u ≡ (seen x w s).store u
store_same x s w c u =
    same_loaded u (declares_action x.schema u) (list_any (uid_eq u) s.asked) (whole_store x u) (w.store u)
    (λ e. ap (λ t. cond t (held (as_entity x.schema u)) (if_uid u (found_as whole (x.store u)))) e ∙ sym (c.request.actions u e))
    (λ e. sym (c.asked u ((found-Decides uid_eq uid_eq-Decides u s.asked).0 e)))

pub near_same : (v w : World) → SameRoots v w → ((x : Uid) → v.store x ≡ w.store x) → (n : ℕ) (u : Uid) → IsNear n w u ↔ IsNear n v u
near_same v w r same n u = (
  near_kept w v (λ x. (same_root v w r x).0) (λ y x. subst (λ f. FoundMentions f x) (sym (same y))) n u,
  near_kept v w (λ x. (same_root v w r x).1) (λ y x. subst (λ f. FoundMentions f x) (same y)) n u,
)

slice_same : (x : Setup) (s : State) (w : World) → HasNoResidual x.start.context → CompletesNow x s w → (n : ℕ) (u : Uid) → InSlice x.schema n (seen x w s) u ↔ InSlice x.schema n (known_now x s) u
slice_same x s w h c n u =
    let r = near_same (known_now x s) (seen x w s) (roots_same x s w h c) (store_same x s w c) n u in
    (λ k. (r.0 k.0, k.1), λ k. (r.1 k.0, k.1))

round_is_legal : (x : Setup) (ps : List Policy) (s : State) (w : World) (uids : List Uid) → HasNoResidual x.start.context → CompletesNow x s w → IsRoundNow x s uids → IsRound (case_of x ps) w (moment_of s) uids
round_is_legal x ps s w uids h c r = record {
  some_wanted = r.some_wanted;
  in_order = r.wanted.in_order;
  exact = λ u. let e = r.wanted.exact u in let q = slice_same x s w h c x.level u in (λ k. let i = e.0 k in (q.1 i.0, i.1), λ k. e.1 (q.0 k.0, k.1));
}

-- what was bound and asked stays so
bound_stays : (s : State) (bs : List (Text × Made)) (es : List transcript.Entry) (b : Text × Made) → Contains s.bound b → Contains (last_state s bs es).bound b
bound_stays s bs [] b k = k
bound_stays s bs (round uids ∷ es) b k = bound_stays (with_asked s uids) bs es b k
bound_stays s [] (bound n ∷ es) b k = bound_stays s [] es b k
bound_stays s (a ∷ bs) (bound n ∷ es) b k = bound_stays (record s { bound = a ∷ s.bound }) bs es b (contains_tail a s.bound b k)
bound_stays s bs (decided d ∷ es) b k = bound_stays s bs es b k

asked_stays : (s : State) (bs : List (Text × Made)) (es : List transcript.Entry) (u : Uid) → Contains s.asked u → Contains (last_state s bs es).asked u
asked_stays s bs [] u k = k
asked_stays s bs (round uids ∷ es) u k = asked_stays (with_asked s uids) bs es u (Contains-append_left s.asked uids u k)
asked_stays s [] (bound n ∷ es) u k = asked_stays s [] es u k
asked_stays s (a ∷ bs) (bound n ∷ es) u k = asked_stays (record s { bound = a ∷ s.bound }) bs es u k
asked_stays s bs (decided d ∷ es) u k = asked_stays s bs es u k

pub completes_before : (x : Setup) (s : State) (bs : List (Text × Made)) (es : List transcript.Entry) (w : World) → CompletesNow x (last_state s bs es) w → CompletesNow x s w
completes_before x s bs es w c = record {
  request = c.request;
  bound = λ b k. c.bound b (bound_stays s bs es b k);
  asked = λ u k. c.asked u (asked_stays s bs es u k);
}

-- what an end says of the state before it
abbrev Settles : Setup → State → End → Type 0
Settles x t (answered a) = NothingIsWanted x t × (HasOpenName x.start t → ⊥)
Settles x t e = Unit {0}

-- The entries are legal, and lead to the last state, which settles the end.
abbrev Good : Setup → List Policy → World → State → State → List transcript.Entry → End → Type 0
Good x ps w s t es end = AreLegal (case_of x ps) w (moment_of s) es × (moment_after (moment_of s) es ≡ moment_of t) × Settles x t end

settles : (x : Setup) (ps : List Policy) (s : State) (end : End) → Finishes x ps s [] end → Settles x s end
settles x ps s (answered a) h = (h.0, λ k. h.1 not_bound k)
settles x ps s (opening_refused f) h = tt
settles x ps s (supply_refused f) h = tt
settles x ps s (binding_refused f) h = tt
settles x ps s (answer_refused f) h = tt

-- a refusal settles nothing
unsettled : (x : Setup) (s : State) (next : State → List transcript.Entry → Type 0) (end : End) → Loads x s next [] end → Settles x s end
unsettled x s next (answered a) h = absurd h
unsettled x s next (opening_refused f) h = tt
unsettled x s next (supply_refused f) h = tt
unsettled x s next (binding_refused f) h = tt
unsettled x s next (answer_refused f) h = tt

unbound : (x : Setup) (s : State) (n : Text) (m : Made) (next : List transcript.Entry → Type 0) (end : End) → Binds x s n m next [] end → Settles x s end
unbound x s n m next (answered a) h = absurd h
unbound x s n m next (opening_refused f) h = tt
unbound x s n m next (supply_refused f) h = tt
unbound x s n m next (binding_refused f) h = tt
unbound x s n m next (answer_refused f) h = tt

pub decision_is_legal : (x : Setup) (ps : List Policy) (s : State) (w : World) (d : Option Decision) → CompletesNow x s w → MayDecide x ps s d → IsLegalEntry (case_of x ps) w (moment_of s) (decided d)
decision_is_legal x ps s w None c h = tt
decision_is_legal x ps s w (Some d) c h = h w c

finish_is_good : (x : Setup) (ps : List Policy) (w : World) → HasNoResidual x.start.context → (s : State) (es : List transcript.Entry) (end : End) → Finishes x ps s es end → CompletesNow x (last_state s [] es) w → Good x ps w s (last_state s [] es) es end
finish_is_good x ps w n s [] end h c = (tt, refl, settles x ps s end h)
finish_is_good x ps w n s (round uids ∷ es) end h c =
    let r = finish_is_good x ps w n (with_asked s uids) es end h.1 c in
    ((round_is_legal x ps s w uids n (completes_before x s [] (round uids ∷ es) w c) h.0, r.0), r.1, r.2)
finish_is_good x ps w n s (bound k ∷ es) end h c = absurd h
finish_is_good x ps w n s (decided d ∷ es) end h c = absurd h

load_is_good : (x : Setup) (ps : List Policy) (w : World) → HasNoResidual x.start.context → (s : State) (bs : List (Text × Made)) (end : End) (next : State → List transcript.Entry → Type 0)
    → ((t : State) (es : List transcript.Entry) → next t es → CompletesNow x (last_state t bs es) w → Good x ps w t (last_state t bs es) es end)
    → (es : List transcript.Entry) → Loads x s next es end → CompletesNow x (last_state s bs es) w → Good x ps w s (last_state s bs es) es end
load_is_good x ps w n s bs end next then [] h c = (tt, refl, unsettled x s next end h)
load_is_good x ps w n s bs end next then (round uids ∷ es) h c =
    let r = then (with_asked s uids) es h.1 c in
    ((round_is_legal x ps s w uids n (completes_before x s bs (round uids ∷ es) w c) h.0, r.0), r.1, r.2)
load_is_good x ps w n s bs end next then (bound k ∷ es) h c = absurd h
load_is_good x ps w n s bs end next then (decided d ∷ es) h c = absurd h

binding_is_good : (x : Setup) (ps : List Policy) (w : World) (s : State) (k : Text) (m : Made) (bs : List (Text × Made)) (end : End) (next : List transcript.Entry → Type 0)
    → ((es : List transcript.Entry) → next es → CompletesNow x (last_state (with_bound s k m) bs es) w → Good x ps w (with_bound s k m) (last_state (with_bound s k m) bs es) es end)
    → (es : List transcript.Entry) → Binds x s k m next es end → CompletesNow x (last_state s ((k, m) ∷ bs) es) w → Good x ps w s (last_state s ((k, m) ∷ bs) es) es end
binding_is_good x ps w s k m bs end next then [] h c = (tt, refl, unbound x s k m next end h)
binding_is_good x ps w s k m bs end next then (bound j ∷ es) h c =
    let r = then es h.2 c in (
      (tt, subst (λ z. AreLegal (case_of x ps) w (record { bound = z ∷ map (λ b. b.0) s.bound; asked = s.asked }) es) (sym h.0) r.0),
      ap (λ z. moment_after (record { bound = z ∷ map (λ b. b.0) s.bound; asked = s.asked }) es) h.0 ∙ r.1,
      r.2,
    )
binding_is_good x ps w s k m bs end next then (round uids ∷ es) h c = absurd h
binding_is_good x ps w s k m bs end next then (decided d ∷ es) h c = absurd h

decision_is_good : (x : Setup) (ps : List Policy) (w : World) (s : State) (bs : List (Text × Made)) (end : End) (next : List transcript.Entry → Type 0)
    → ((es : List transcript.Entry) → next es → CompletesNow x (last_state s bs es) w → Good x ps w s (last_state s bs es) es end)
    → (es : List transcript.Entry) → DecidesNow (MayDecide x ps s) next es → CompletesNow x (last_state s bs es) w → Good x ps w s (last_state s bs es) es end
decision_is_good x ps w s bs end next then (decided d ∷ es) h c =
    let r = then es h.1 c in
    ((decision_is_legal x ps s w d (completes_before x s bs es w c) h.0, r.0), r.1, r.2)
decision_is_good x ps w s bs end next then [] h c = absurd h
decision_is_good x ps w s bs end next then (round uids ∷ es) h c = absurd h
decision_is_good x ps w s bs end next then (bound k ∷ es) h c = absurd h

following_is_good : (x : Setup) (ps : List Policy) (w : World) → HasNoResidual x.start.context → (s : State) (steps : List Step) (es : List transcript.Entry) (end : End)
    → Follows (MayDecide x ps) x ps s steps es end → CompletesNow x (last_state s (bindings_in steps) es) w → Good x ps w s (last_state s (bindings_in steps) es) es end
following_is_good x ps w n s [] es end h c = finish_is_good x ps w n s es end h c
following_is_good x ps w n s (load ∷ steps) es end h c =
    ⊎_elim (λ a. following_is_good x ps w n s steps es end a.1 c)
    (λ a. load_is_good x ps w n s (bindings_in steps) end (λ t gs. Follows (MayDecide x ps) x ps t steps gs end) (λ t gs p q. following_is_good x ps w n t steps gs end p q) es a c) h
following_is_good x ps w n s (bind_name k m ∷ steps) es end h c =
    binding_is_good x ps w s k m (bindings_in steps) end (λ gs. Follows (MayDecide x ps) x ps (with_bound s k m) steps gs end) (λ gs p q. following_is_good x ps w n (with_bound s k m) steps gs end p q) es h c
following_is_good x ps w n s (decide ∷ steps) es end h c =
    decision_is_good x ps w s (bindings_in steps) end (λ gs. Follows (MayDecide x ps) x ps s steps gs end) (λ gs p q. following_is_good x ps w n s steps gs end p q) es h c

run_is_good : (x : Setup) (ps : List Policy) (steps : List Step) (es : List transcript.Entry) (end : End) → HasNoResidual x.start.context → Runs (MayDecide x ps) x ps steps es end
    → (w : World) → CompletesNow x (last_state at_start (bindings_in steps) es) w → AreLegal (case_of x ps) w at_first es
run_is_good x ps steps es end n h w c =
    ⊎_elim (λ a. subst (λ l. AreLegal (case_of x ps) w at_first l) (sym a.2) tt)
    (λ a. (following_is_good x ps w n at_start steps es end a.1 c).0)
    (opened_or_not (MayDecide x ps) x ps steps es end h)

pub runs_are_legal : (x : Setup) (ps : List Policy) (steps : List Step) (es : List transcript.Entry) (end : End) → HasNoResidual x.start.context → Runs (MayDecide x ps) x ps steps es end
    → (w : World) → CompletesNow x (last_state at_start (bindings_in steps) es) w → AreLegal (case_of x ps) w at_first es
runs_are_legal = run_is_good

-- where no name is open, all roots are known
pub entry_is_known : (r : PartialRequest) (s : State) (w : World) (n : Text) (e : Entry) → entry_named r n ≡ Some e → (HasOpenName r s → ⊥) → BoundOrOpen w n s.bound → entry_known (moment_of s) n e ≡ true
entry_is_known r s w n (uid u) q none b = refl
entry_is_known r s w n (unknown_uid k) q none b =
    ⊎_elim (λ t. t.2)
    (λ t. absurd (none (n, ap (λ o. not (is_some o) && (is_open_entry (entry_named r n) || is_open_context r.context n)) t.0 ∙ ap (λ o. is_open_entry o || is_open_context r.context n) q)))
    b

context_is_known : (r : PartialRequest) (s : State) (w : World) (c : Context) → r.context ≡ c → HasNoResidual c → (HasOpenName r s → ⊥) → BoundOrOpen w (codes "context") s.bound → context_known (moment_of s) c ≡ true
context_is_known r s w (closed fs) q h none b = refl
context_is_known r s w (residual_fields fs) q h none b = absurd h
context_is_known r s w unknown_context q h none b =
    ⊎_elim (λ t. t.2)
    (λ t. absurd (none (codes "context", ap (λ o. not (is_some o) && (is_open_entry (entry_named r (codes "context")) || is_open_context r.context (codes "context"))) t.0 ∙ ap (λ z. is_open_context z (codes "context")) q)))
    b

knows_roots : (x : Setup) (s : State) (w : World) → HasNoResidual x.start.context → CompletesNow x s w → (HasOpenName x.start s → ⊥) → KnowsRoots x.start (moment_of s)
knows_roots x s w h c none = (
  entry_is_known x.start s w (codes "principal") x.start.principal refl none (bound_or_open w (codes "principal") s.bound c.bound),
  entry_is_known x.start s w (codes "resource") x.start.resource refl none (bound_or_open w (codes "resource") s.bound c.bound),
  context_is_known x.start s w x.start.context refl h none (bound_or_open w (codes "context") s.bound c.bound),
)

pub answered_runs_ask_the_slice : (x : Setup) (ps : List Policy) (steps : List Step) (es : List transcript.Entry) (a : Answer) → HasNoResidual x.start.context → Runs (MayDecide x ps) x ps steps es (answered a)
    → (w : World) → CompletesNow x (last_state at_start (bindings_in steps) es) w → AsksTheSlice (case_of x ps) w es
answered_runs_ask_the_slice x ps steps es a n h w c =
    let t = last_state at_start (bindings_in steps) es in
    let g = following_is_good x ps w n at_start steps es (answered a) h.1 c in
    slice_is_asked (case_of x ps) w es g.0
    (subst (KnowsRoots x.start) (sym g.1) (knows_roots x t w n c g.2.1))
    (λ u k. g.2.0 u (let m = subst (λ z. IsWanted (case_of x ps) w z u) g.1 k in ((slice_same x t w n c x.level u).0 m.0, m.1)))

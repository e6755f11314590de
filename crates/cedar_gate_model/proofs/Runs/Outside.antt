-- Over a store that has the same in the slice an answered run is a run, with the same answer.
use Rattle.std.proofs.Common.{◌≡◌, ◌||◌, ◌∙◌, Bool, true, false, cond, List, [], ◌∷◌, ◌++◌, Option, Some, None, inl, inr, ⊎_elim, refl, sym, ap, subst}
use Rattle.std.specs.Prelude.{Contains, option_map}
use Rattle.std.specs.List.{list_any}
use Rattle.std.proofs.lemmas.List.Elements.{Contains-append_cases}
use Rattle.cedar_expr_model.specs.Name.{Text}
use Rattle.cedar_expr_model.specs.Uid.{Uid, uid_eq}
use Rattle.cedar_expr_model.specs.Made.{Made}
use Rattle.cedar_expr_model.specs.Value.{V}
use Rattle.cedar_expr_model.proofs.Lists.{contains_cases, contains_head, contains_tail, contains_none, found-Decides}
use Rattle.cedar_expr_model.proofs.Equality.{uid_eq-Decides}
use Rattle.cedar_store_model.specs.World.{World, Entity, held}
use Rattle.cedar_store_model.specs.Store.{found_as, if_uid, whole, unloaded}
use Rattle.cedar_store_model.specs.Policy.{Policy}
use Rattle.cedar_store_model.specs.Answer.{Answer, Decision, answer_of}
use Rattle.cedar_schema_model.specs.ActionEntities.{as_entity}
use Rattle.cedar_schema_model.specs.Schema.{declares_action}
use Rattle.cedar_gate_model.specs.GateLaws.{asked_in, moment_after}
use Rattle.cedar_gate_model.specs.Moment.{Moment, at_first}
use Rattle.cedar_gate_model.specs.Owed.{IsForced}
use Rattle.cedar_gate_model.specs.RunLaws.{bindings_in, last_state}
use Rattle.cedar_gate_model.specs.Runs.{answered, IsRoundNow, MayDecide, Finishes, Follows, Loads, supplied_by, with_asked}
use Rattle.cedar_gate_model.specs.Session.{Setup, State, at_start, known_now, whole_store, world_now, with_bound, IsWantedNow, IsWantedList, NothingIsWanted, BindRefusal, BindFault, not_open, against_annotation, no_entity_or_record, context_fails, Supplied, SupplyRefusal, SupplyFault, not_wanted, lacking, repeated, wrong_entity, AnswerRefusal, AnswerFault, not_bound, still_wanted, not_conforming}
use Rattle.cedar_typechecker_model.specs.Slice.{InSlice}
use Rattle.cedar_gate_model.specs.Transcript.{Step, load, bind_name, decide, Entry, round, bound, decided, after}

within_append : (us vs : List Uid) (u : Uid) → Contains us u → Contains (us ++ vs) u
within_append [] vs u k = absurd (contains_none u k)
within_append (w ∷ us) vs u k = contains_cases (Contains (w ∷ us ++ vs) u) w us u k (λ e. subst (λ z. Contains (z ∷ us ++ vs) u) (sym e) (contains_head u (us ++ vs))) (λ m. contains_tail w (us ++ vs) u (within_append us vs u m))

after_append : (us vs : List Uid) (u : Uid) → Contains vs u → Contains (us ++ vs) u
after_append [] vs u k = k
after_append (w ∷ us) vs u k = contains_tail w (us ++ vs) u (after_append us vs u k)

module _ (x : Setup) (ps : List Policy) (store : Uid → Option (Entity V)) where
  abbrev pub y : Setup
  y = record x { store = store }

  abbrev Same : Uid → Type 0
  Same u = store u ≡ x.store u

  -- what was asked for, and what rounds ask for, is the same in both stores
  abbrev AskedSame : State → Type 0
  AskedSame s = (u : Uid) → Contains s.asked u → Same u

  abbrev RoundsSame : List Entry → Type 0
  RoundsSame [] = Unit {0}
  RoundsSame (round us ∷ es) = ((u : Uid) → Contains us u → Same u) × RoundsSame es
  RoundsSame (bound n ∷ es) = RoundsSame es
  RoundsSame (decided d ∷ es) = RoundsSame es

  asked_stays : (m : Moment) (es : List Entry) (u : Uid) → Contains m.asked u → Contains (moment_after m es).asked u
  asked_stays m [] u k = k
  asked_stays m (round us ∷ es) u k = asked_stays (after m (round us)) es u (within_append m.asked us u k)
  asked_stays m (bound n ∷ es) u k = asked_stays (after m (bound n)) es u k
  asked_stays m (decided d ∷ es) u k = asked_stays m es u k

  rounds_same : (m : Moment) (es : List Entry) → ((u : Uid) → Contains (moment_after m es).asked u → Same u) → RoundsSame es
  rounds_same m [] h = tt
  rounds_same m (round us ∷ es) h = (λ u k. h u (asked_stays (after m (round us)) es u (after_append m.asked us u k)), rounds_same (after m (round us)) es h)
  rounds_same m (bound n ∷ es) h = rounds_same (after m (bound n)) es h
  rounds_same m (decided d ∷ es) h = rounds_same m es h

  more_same : (s : State) (us : List Uid) → AskedSame s → ((u : Uid) → Contains us u → Same u) → AskedSame (with_asked s us)
  more_same s us h k u a = ⊎_elim (h u) (k u) (Contains-append_cases s.asked us u a)

  -- so is what is known
  whole_same : (u : Uid) → Same u → whole_store y u ≡ whole_store x u
  whole_same u e = ap (λ o. cond (declares_action x.schema u) (held (as_entity x.schema u)) (if_uid u (found_as whole o))) e

  known_case : (u : Uid) (d a : Bool) (e : Entity V) (o p : Option (Entity V)) → (a ≡ true → p ≡ o)
      → cond (d || a) (cond d (held e) (if_uid u (found_as whole p))) (unloaded u) ≡ cond (d || a) (cond d (held e) (if_uid u (found_as whole o))) (unloaded u)
  known_case u true a e o p h = refl
  known_case u false true e o p h = ap (λ z. if_uid u (found_as whole z)) (h refl)
  known_case u false false e o p h = refl

  known_same : (s : State) → AskedSame s → known_now y s ≡ known_now x s
  known_same s h =
      let each : (u : Uid) → (known_now y s).store u ≡ (known_now x s).store u =
      λ u. known_case u (declares_action x.schema u) (list_any (uid_eq u) s.asked) (as_entity x.schema u) (x.store u) (store u) (λ e. h u ((found-Decides uid_eq uid_eq-Decides u s.asked).0 e)) in
      λ i. record (known_now x s) { store = λ u. each u i }

  module _ (s : State) (h : AskedSame s) where
    wanted_back : (u : Uid) → IsWantedNow y s u → IsWantedNow x s u
    wanted_back u k = (subst (λ (w : World). InSlice x.schema x.level w u) (known_same s h) k.0, k.1)

    wanted_on : (u : Uid) → IsWantedNow x s u → IsWantedNow y s u
    wanted_on u k = (subst (λ (w : World). InSlice x.schema x.level w u) (sym (known_same s h)) k.0, k.1)

    list_same : (us : List Uid) → IsWantedList x s us → IsWantedList y s us
    list_same us w = record { in_order = w.in_order; exact = λ u. (λ k. wanted_on u ((w.exact u).0 k), λ k. (w.exact u).1 (wanted_back u k)) }

    nothing_same : NothingIsWanted x s → NothingIsWanted y s
    nothing_same n u k = n u (wanted_back u k)

    supplied_same : (us : List Uid) → ((u : Uid) → Contains us u → Same u) → supplied_by y us ≡ supplied_by x us
    supplied_same [] same = refl
    supplied_same (u ∷ us) same = λ i. (u, option_map (λ (e : Entity V). (u, e)) (same u (contains_head u us) i)) ∷ supplied_same us (λ v k. same v (contains_tail u us v k)) i

    supply_same : (p : Supplied) (f : SupplyRefusal) → SupplyFault y s p f → SupplyFault x s p f
    supply_same p not_wanted k = (k.0, k.1, λ w. k.2 (wanted_on k.0 w))
    supply_same p lacking k = (k.0, wanted_back k.0 k.1, k.2)
    supply_same p repeated k = k
    supply_same p wrong_entity k = k

    round_is_same : (us : List Uid) → ((u : Uid) → Contains us u → Same u) → IsRoundNow x s us → IsRoundNow y s us
    round_is_same us same r = record {
      some_wanted = r.some_wanted;
      wanted = list_same us r.wanted;
      taken = λ f k. r.taken f (supply_same (supplied_by x us) f (subst (λ p. SupplyFault y s p f) (supplied_same us same) k));
    }

    decides_same : (d : Option Decision) → MayDecide x ps s d → MayDecide y ps s d
    decides_same None m =
        ⊎_elim
        (λ a. inl (a.0, λ u. a.1 u ∙ sym (ap (λ (w : World). w.store u) (known_same s h)), a.2))
        (λ a. inr (λ d k. a d (subst (λ (w : World). IsForced w ps d) (known_same s h) k))) m
    decides_same (Some d) m = λ w c. m w (record { request = c.request; bound = c.bound; asked = λ u k. c.asked u k ∙ whole_same u (h u k) })

    answer_back : (f : AnswerRefusal) → AnswerFault y s f → AnswerFault x s f
    answer_back not_bound k = k
    answer_back still_wanted k = (k.0, wanted_back k.0 k.1)
    answer_back not_conforming k = k

  bind_back : (s : State) (n : Text) (m : Made) (f : BindRefusal) → BindFault y s n m f → BindFault x s n m f
  bind_back s n m not_open k = k
  bind_back s n m against_annotation k = k
  bind_back s n m no_entity_or_record k = k
  bind_back s n m context_fails k = k

  -- the state at the end has the same answer in both
  abbrev EndsSame : State → Type 0
  EndsSame s = answer_of (world_now y s) ps ≡ answer_of (world_now x s) ps

  finishes_same : (s : State) (es : List Entry) (a : Answer) → AskedSame s → RoundsSame es → EndsSame (last_state s [] es) → Finishes x ps s es (answered a) → Finishes y ps s es (answered a)
  finishes_same s [] a h r e f = (nothing_same s h f.0, λ g k. f.1 g (answer_back s h g k), f.2 ∙ sym e)
  finishes_same s (round us ∷ es) a h r e f = (round_is_same s h us r.0 f.0, finishes_same (with_asked s us) es a (more_same s us h r.0) r.1 e f.1)
  finishes_same s (bound n ∷ es) a h r e f = absurd f
  finishes_same s (decided d ∷ es) a h r e f = absurd f

  loads_same : (s : State) → AskedSame s → (bs : List (Text × Made)) (a : Answer) (next then : State → List Entry → Type 0)
      → ((t : State) (es : List Entry) → AskedSame t → RoundsSame es → EndsSame (last_state t bs es) → next t es → then t es)
      → (es : List Entry) → RoundsSame es → EndsSame (last_state s bs es) → Loads x s next es (answered a) → Loads y s then es (answered a)
  loads_same s h bs a next then goes [] r e p = absurd p
  loads_same s h bs a next then goes (round us ∷ es) r e p = (round_is_same s h us r.0 p.0, goes (with_asked s us) es (more_same s us h r.0) r.1 e p.1)
  loads_same s h bs a next then goes (bound n ∷ es) r e p = absurd p
  loads_same s h bs a next then goes (decided d ∷ es) r e p = absurd p

  follows_same : (s : State) (steps : List Step) (es : List Entry) (a : Answer) → AskedSame s → RoundsSame es → EndsSame (last_state s (bindings_in steps) es)
      → Follows (MayDecide x ps) x ps s steps es (answered a) → Follows (MayDecide y ps) y ps s steps es (answered a)
  follows_same s [] es a h r e f = finishes_same s es a h r e f
  follows_same s (load ∷ steps) es a h r e f =
      ⊎_elim (λ p. inl (nothing_same s h p.0, follows_same s steps es a h r e p.1))
      (λ p. inr (loads_same s h (bindings_in steps) a (λ t fs. Follows (MayDecide x ps) x ps t steps fs (answered a)) (λ t fs. Follows (MayDecide y ps) y ps t steps fs (answered a))
      (λ t fs k q l g. follows_same t steps fs a k q l g) es r e p)) f
  follows_same s (bind_name n m ∷ steps) (bound k ∷ es) a h r e f = (f.0, λ g j. f.1 g (bind_back s n m g j), follows_same (with_bound s n m) steps es a h r e f.2)
  follows_same s (bind_name n m ∷ steps) [] a h r e f = absurd f
  follows_same s (bind_name n m ∷ steps) (round us ∷ es) a h r e f = absurd f
  follows_same s (bind_name n m ∷ steps) (decided d ∷ es) a h r e f = absurd f
  follows_same s (decide ∷ steps) (decided d ∷ es) a h r e f = (decides_same s h d f.0, follows_same s steps es a h r e f.1)
  follows_same s (decide ∷ steps) [] a h r e f = absurd f
  follows_same s (decide ∷ steps) (round us ∷ es) a h r e f = absurd f
  follows_same s (decide ∷ steps) (bound n ∷ es) a h r e f = absurd f

  pub runs_stay : (steps : List Step) (es : List Entry) (a : Answer) → ((u : Uid) → Contains (asked_in es) u → Same u) → EndsSame (last_state at_start (bindings_in steps) es)
      → Follows (MayDecide x ps) x ps at_start steps es (answered a) → Follows (MayDecide y ps) y ps at_start steps es (answered a)
  runs_stay steps es a same e f = follows_same at_start steps es a (λ u k. absurd (contains_none u k)) (rounds_same at_first es same) e f

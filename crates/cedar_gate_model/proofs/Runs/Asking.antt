-- What runs ask for.
use Rattle.std.proofs.Common.{◌≡◌, ◌≤◌, ◌↔◌, suc, List, [], ◌∷◌, ◌++◌, length, inl, inr, ⊎_elim, ◌⊎◌, refl, sym, ap, subst, arith, Option, codes}
use Rattle.std.specs.Prelude.{Contains}
use Rattle.std.proofs.lemmas.List.{length-append}
use Rattle.std.proofs.lemmas.List.Elements.{Contains-append_cases}
use Rattle.cedar_expr_model.specs.Name.{Text}
use Rattle.cedar_expr_model.specs.Uid.{Uid}
use Rattle.cedar_expr_model.specs.Made.{Made}
use Rattle.cedar_expr_model.proofs.Lists.{contains_none}
use Rattle.cedar_store_model.specs.Policy.{Policy}
use Rattle.cedar_store_model.specs.Answer.{Decision, Answer}
use Rattle.cedar_schema_model.specs.BagLaws.{HasTwice}
use Rattle.cedar_typechecker_model.specs.Slice.{InSlice}
use Rattle.cedar_gate_model.specs.Transcript.{Step, Entry, round, bound, decided, after}
use Rattle.cedar_gate_model.specs.Moment.{Moment, at_first}
use Rattle.cedar_gate_model.specs.Session.{Setup, State, at_start, value_of, world_now, IsWantedNow, with_bound}
use Rattle.cedar_gate_model.specs.Runs.{End, answered, opening_refused, with_asked, Runs}
use Rattle.cedar_gate_model.specs.GateLaws.{moment_after, asked_in, rounds_after, last_rounds}
use Rattle.cedar_gate_model.specs.RunLaws.{bindings_in, last_state}
use Rattle.cedar_gate_model.specs.RunsAsk.{IsMadeContext, end_state}
use Rattle.cedar_gate_model.proofs.Gate.Slices.{near_kept, known_kept, context_kept}
use Rattle.cedar_typechecker_model.proofs.Mentions.{IsRoot, root_cases, root_from}
use Rattle.cedar_gate_model.proofs.Gate.RisingUids.{rising_once, apart_once}
use Rattle.cedar_gate_model.proofs.Runs.Loading.{Settled, near_of_loaded, round_is_below, settles_more, slice_is_loaded}
use Rattle.cedar_gate_model.proofs.Runs.Did.{Did, run_did}
use Rattle.cedar_gate_model.proofs.Runs.Contexts as contexts
use Rattle.cedar_gate_model.proofs.Runs.Contexts.{Grows, was_open, binding_grows, entry_kept}

module _ (may : State → Option Decision → Type 0) (x : Setup) where
  abbrev pub Done : State → List (Text × Made) → List Entry → Type 0
  Done s bs es = Did may x [] s bs es

  -- the moment of a state asked for the same
  pub asked_last : (m : Moment) (s : State) (bs : List (Text × Made)) (es : List Entry) → m.asked ≡ s.asked → Done s bs es → (moment_after m es).asked ≡ (last_state s bs es).asked
  asked_last m s bs [] e d = e
  asked_last m s bs (round uids ∷ es) e d = asked_last (after m (round uids)) (with_asked s uids) bs es (ap (λ l. l ++ uids) e) d.1
  asked_last m s [] (bound k ∷ es) e d = absurd d
  asked_last m s (b ∷ bs) (bound k ∷ es) e d = asked_last (after m (bound k)) (with_bound s b.0 b.1) bs es e d.2
  asked_last m s bs (decided o ∷ es) e d = asked_last m s bs es e d.1

  -- nothing is asked for twice
  pub once : (s : State) (bs : List (Text × Made)) (es : List Entry) → (HasTwice s.asked → ⊥) → Done s bs es → HasTwice (last_state s bs es).asked → ⊥
  once s bs [] a d h = a h
  once s bs (round uids ∷ es) a d h =
      let w = (d.0).wanted in
      once (with_asked s uids) bs es (apart_once s.asked uids a (rising_once uids w.in_order) (λ u k m. ((w.exact u).0 m).1 k)) d.1 h
  once s [] (bound k ∷ es) a d h = absurd d
  once s (b ∷ bs) (bound k ∷ es) a d h = once (with_bound s b.0 b.1) bs es a d.2 h
  once s bs (decided o ∷ es) a d h = once s bs es a d.1 h

  -- values stay
  grown : (s : State) (bs : List (Text × Made)) (es : List Entry) → Done s bs es → Grows (value_of s) (value_of (last_state s bs es))
  grown s bs [] d n m e = e
  grown s bs (round uids ∷ es) d n m e = grown (with_asked s uids) bs es d.1 n m e
  grown s [] (bound k ∷ es) d n m e = absurd d
  grown s (b ∷ bs) (bound k ∷ es) d n m e = grown (with_bound s b.0 b.1) bs es d.2 n m (binding_grows s b.0 b.1 (was_open x s b.0 b.1 d.1) n m e)
  grown s bs (decided o ∷ es) d n m e = grown s bs es d.1 n m e

  -- what is near stays near where more is bound, over the whole store
  root_stays : IsMadeContext x.start.context → (s t : State) → Grows (value_of s) (value_of t) → (u : Uid) → IsRoot (world_now x s) u → IsRoot (world_now x t) u
  root_stays made s t grows u h =
      root_from (world_now x t) u
      (⊎_elim (λ k. inl (known_kept _ _ u (entry_kept s t grows (codes "principal") x.start.principal) k))
      (λ k. inr (⊎_elim (λ q. inl (known_kept _ _ u (entry_kept s t grows (codes "resource") x.start.resource) q)) (λ q. inr (context_kept _ _ u (contexts.context_kept x s t grows x.start.context made) q)) k)) (root_cases (world_now x s) u h))

  pub wanted_in_slice : IsMadeContext x.start.context → (s t : State) → Grows (value_of s) (value_of t) → (u : Uid) → IsWantedNow x s u → InSlice x.schema x.level (world_now x t) u
  wanted_in_slice made s t grows u h =
      (near_kept (world_now x s) (world_now x t) (root_stays made s t grows) (λ v y k. k) x.level u (near_of_loaded x.schema (world_now x s) s.asked x.level u (h.0).0), (h.0).1)

  pub within : IsMadeContext x.start.context → (s : State) (bs : List (Text × Made)) (es : List Entry) → Done s bs es → (u : Uid) → Contains (last_state s bs es).asked u → Contains s.asked u ⊎ InSlice x.schema x.level (world_now x (last_state s bs es)) u
  within made s bs [] d u k = inl k
  within made s bs (round uids ∷ es) d u k =
      let t = last_state (with_asked s uids) bs es in
      ⊎_elim
      (λ a. ⊎_elim (λ b. inl b) (λ b. inr (wanted_in_slice made s t (grown (with_asked s uids) bs es d.1) u (((d.0).wanted.exact u).0 b))) (Contains-append_cases s.asked uids u a))
      (λ a. inr a)
      (within made (with_asked s uids) bs es d.1 u k)
  within made s [] (bound k ∷ es) d u a = absurd d
  within made s (b ∷ bs) (bound k ∷ es) d u a = within made (with_bound s b.0 b.1) bs es d.2 u a
  within made s bs (decided o ∷ es) d u a = within made s bs es d.1 u a

  -- rounds
  length_more : (found : List (List Uid)) (uids : List Uid) → length (found ++ uids ∷ []) ≡ suc (length found)
  length_more found uids = let e = length-append found (uids ∷ []) in omega (arith, e)

  pub few : (s : State) (bs : List (Text × Made)) (es : List Entry) (found : List (List Uid)) → Done s bs es → Settled x.schema (world_now x s) s.asked (length found) → length found ≤ x.level → length (rounds_after es found) ≤ x.level
  few s bs [] found d settled l = l
  few s bs (round uids ∷ es) found d settled l =
      let r = d.0 in
      let w = world_now x s in
      let b = round_is_below x.schema w x.level s.asked uids (length found) r.some_wanted r.wanted.exact settled in
      let e = length_more found uids in
      few (with_asked s uids) bs es (found ++ uids ∷ []) d.1
      (subst (Settled x.schema w (s.asked ++ uids)) (sym e) (settles_more x.schema w x.level s.asked uids (length found) r.wanted.exact settled b)) (omega (arith, e, b))
  few s [] (bound k ∷ es) found d settled l = absurd d
  few s (b ∷ bs) (bound k ∷ es) found d settled l = few (with_bound s b.0 b.1) bs es [] d.2 (λ u k. absurd k) (omega arith)
  few s bs (decided o ∷ es) found d settled l = few s bs es found d.1 settled l

module _ (may : State → Option Decision → Type 0) (x : Setup) (ps : List Policy) (steps : List Step) (es : List Entry) where
  nothing_once : HasTwice {X = Uid} [] → ⊥
  nothing_once h = h

  pub runs_ask_once : (end : End) → Runs may x ps steps es end → HasTwice (asked_in es) → ⊥
  runs_ask_once end h =
      ⊎_elim (λ a. subst (λ l. HasTwice (asked_in l) → ⊥) (sym a.2) nothing_once)
      (λ a. let d = (a.1).0 in subst (λ l. HasTwice l → ⊥) (sym (asked_last may x at_first at_start (bindings_in steps) es refl d)) (once may x at_start (bindings_in steps) es nothing_once d))
      (run_did may x ps steps es end h)

  pub runs_ask_in_the_slice : (end : End) → IsMadeContext x.start.context → Runs may x ps steps es end → (u : Uid) → Contains (asked_in es) u → InSlice x.schema x.level (world_now x (end_state steps es)) u
  runs_ask_in_the_slice end made h u k =
      ⊎_elim (λ a. absurd (contains_none u (subst (λ l. Contains (asked_in l) u) a.2 k)))
      (λ a.
      let d = (a.1).0 in
      ⊎_elim (λ b. absurd (contains_none u b)) (λ b. b)
      (within may x made at_start (bindings_in steps) es d u (subst (λ l. Contains l u) (asked_last may x at_first at_start (bindings_in steps) es refl d) k)))
      (run_did may x ps steps es end h)

  pub runs_have_few_rounds : (end : End) → Runs may x ps steps es end → length (last_rounds es) ≤ x.level
  runs_have_few_rounds end h =
      ⊎_elim (λ a. subst (λ l. length (last_rounds l) ≤ x.level) (sym a.2) (omega arith))
      (λ a. few may x at_start (bindings_in steps) es [] (a.1).0 (λ u k. absurd k) (omega arith))
      (run_did may x ps steps es end h)

  pub runs_ask_the_slice : (a : Answer) → IsMadeContext x.start.context → Runs may x ps steps es (answered a) → (u : Uid) → Contains (asked_in es) u ↔ InSlice x.schema x.level (world_now x (end_state steps es)) u
  runs_ask_the_slice a made h u = (
    runs_ask_in_the_slice (answered a) made h u,
    λ k.
        ⊎_elim (λ b. let q : answered a ≡ opening_refused b.0 = b.1 in cc)
        (λ b.
        let t = end_state steps es in
        subst (λ l. Contains l u) (sym (asked_last may x at_first at_start (bindings_in steps) es refl (b.1).0)) (slice_is_loaded x.schema (world_now x t) x.level t.asked ((b.1).1).0 u k))
        (run_did may x ps steps es (answered a) h),
  )

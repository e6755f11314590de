-- A world that completes a state of a session, with its names put right, completes what an evaluation knows there.
use Rattle.std.proofs.Common.{◌≡◌, ◌∙◌, Bool, true, false, cond, Option, Some, None, codes, ⊎_elim, refl, sym, ap, subst}
use Rattle.std.specs.Prelude.{Contains, IsSome}
use Rattle.cedar_expr_model.specs.Name.{Text}
use Rattle.cedar_expr_model.specs.Uid.{Uid}
use Rattle.cedar_expr_model.specs.Uids.{is_uid}
use Rattle.cedar_expr_model.specs.Value.{V, record_of}
use Rattle.cedar_expr_model.specs.Tree.{CoreType, Tree, record_literal, TreeFields}
use Rattle.cedar_expr_model.specs.Made.{Made, made_record, bare_fields}
use Rattle.cedar_expr_model.specs.Parts.{Unknown, unknowns}
use Rattle.cedar_expr_model.specs.Restricted.{is_restricted, offence}
use Rattle.cedar_expr_model.specs.Substitution.{substituted}
use Rattle.cedar_expr_model.specs.Unknowns.{has_unknown}
use Rattle.cedar_expr_model.proofs.Gathering.{each_in}
use Rattle.cedar_store_model.specs.Outcome.{val}
use Rattle.cedar_store_model.specs.World.{World, Found, held, missing, not_loaded}
use Rattle.cedar_store_model.specs.Meaning.{Means, outcome_of}
use Rattle.cedar_store_model.specs.Knowledge.{IsSettled}
use Rattle.cedar_store_model.specs.Policy.{condition}
use Rattle.cedar_store_model.specs.Answer.{Decision, with_slots, answer_of, decision_of}
use Rattle.cedar_store_model.proofs.Conditions.{condition_asked}
use Rattle.cedar_store_model.proofs.Meaning.{means_outcome, outcome_means}
use Rattle.cedar_store_model.proofs.Named.{bound_value}
use Rattle.cedar_store_model.proofs.Stores.{same_answers}
use Rattle.cedar_evaluator_model.specs.OfLaws.Completable.{is_free_name}
use Rattle.cedar_evaluator_model.specs.Completion.{Fits, PartIs, FitsAnnotations}
use Rattle.cedar_evaluator_model.specs.OfLaws.Completing.{EntryMeans, ContextMeans, FoundMeans}
use Rattle.cedar_evaluator_model.specs.OfLaws.Completing as evaluator
use Rattle.cedar_evaluator_model.specs.Known.{known_found, known_context}
use Rattle.cedar_evaluator_model.specs.Response.{response_of}
use Rattle.cedar_evaluator_model.specs.Members.{decision_in_session}
use Rattle.cedar_evaluator_model.specs.Scope.{Scope, unknown_uid, Context, closed, residual_fields, unknown_context, Left, value_left, residual, stopped}
use Rattle.cedar_evaluator_model.specs.OfLaws.Standing.{StandsFor}
use Rattle.cedar_evaluator_model.specs.OfLaws.Whole.{LeavesNothing}
use Rattle.cedar_evaluator_model.specs.OfLaws.WellMade.{IsMadeWell, IsFoundMadeWell, IsContextMadeWell, AllMadeWell}
use Rattle.cedar_evaluator_model.proofs.Completable.{some_entity, name_means, named, uid_is_named, free_is_kept, named_whole, found_means}
use Rattle.cedar_evaluator_model.proofs.Settled.{same_meant}
use Rattle.cedar_evaluator_model.proofs.Residuals.Completing.{completes_at}
use Rattle.cedar_evaluator_model.proofs.Residuals.Decisions as decisions
use Rattle.cedar_evaluator_model.proofs.Residuals.Node as stood
use Rattle.cedar_evaluator_model.proofs.Residuals.Slots.{substituted_outcome, substituted_fits, value_with_slots}
use Rattle.cedar_gate_model.specs.Moment.{ContextCompleted, context_known}
use Rattle.cedar_evaluator_model.specs.Functions.{with_functions}
use Rattle.cedar_gate_model.specs.Session.{Setup, State, value_of, context_left, context_now, scope_now, CompletesNow}
use Rattle.cedar_gate_model.specs.Runs.{MayDecide}
use Rattle.cedar_gate_model.specs.RunsAsk.{IsMadeContext}
use Rattle.cedar_gate_model.specs.RunsAnswer.{Course, session_of, IsAdmitted, MakeFairly, IsOpened, IsKnownStore}
use Rattle.cedar_gate_model.proofs.Gate.LegalRuns.{moment_of}
use Rattle.cedar_evaluator_model.proofs.Restricted.{evaluated_clean, Clean, none_is, substituted_restricted}
use Rattle.cedar_gate_model.proofs.Runs.Completing.{Stands, taken_value}
use Rattle.cedar_gate_model.proofs.Runs.Contexts.{bound_context, left_context}
use Rattle.cedar_gate_model.proofs.Runs.Deciding.{none_unknown, none_has_unknowns, leaves_nothing}
use Rattle.cedar_gate_model.proofs.Runs.Knowing.{known_there, open_is_uid}
use Rattle.cedar_gate_model.proofs.Runs.Legal as legal
use Rattle.cedar_gate_model.proofs.Runs.Owing.{each_all}
use Rattle.cedar_gate_model.proofs.Runs.WellMade.{makes_well, evaluated_well}
use Rattle.cedar_gate_model.proofs.Runs.Names.{no_store, there, when_is, bare_state, stands, sound_of, free_in_context, completes_bare, means_bound, kept, entry_means, context_record, bare_means}

module _ (c : Course) (admitted : IsAdmitted c) (makes_fairly : MakeFairly c.functions) (s : State) (store : Uid → Found Made) (start : IsOpened (session_of c) s) (stands_on : IsKnownStore c s store) (w : World) (complete : CompletesNow (session_of c) s w) where
  abbrev x : Setup
  x = session_of c

  abbrev pub scope : Scope
  scope = scope_now x s store

  abbrev mine : State
  mine = bare_state x start.opened s start.bound

  -- the store
  found_now : (u : Uid) → FoundMeans (named w) u (store u) (w.store u)
  found_now u = ⊎_elim (λ q. there (store u) (stands_on.known u ∙ q)) (λ q. open_there (store u) (stands_on.known u ∙ q) (open_is_uid x s u q)) (known_there x s w complete u)
    where
      there : (f : Found Made) → known_found f ≡ w.store u → FoundMeans (named w) u f (w.store u)
      there (held e) q = found_means w u (held e) (w.store u) (subst IsSettled (sym q) ((complete.request).whole.store u)) (λ z. cc) (sym q)
      there missing q = found_means w u missing (w.store u) tt (λ z. cc) (sym q)
      there not_loaded q = absurd (subst IsSettled (sym q) ((complete.request).whole.store u))

      open_there : (f : Found Made) → known_found f ≡ not_loaded → is_uid u ≡ true → FoundMeans (named w) u f (w.store u)
      open_there (held e) q i = cc
      open_there missing q i = cc
      open_there not_loaded q i = found_means w u not_loaded (w.store u) tt (λ z. i) tt

  -- the context
  abbrev env : Text → Option Made
  env = value_of s

  abbrev taken : Stands x mine
  taken = stands x start.opened s start.bound

  calls_nothing : LeavesNothing w.table
  calls_nothing = subst LeavesNothing (sym (complete.request).table) (leaves_nothing c admitted)

  well_valued : (n : Text) (o : Option Made) → env n ≡ o → IsMadeWell w.table o
  well_valued n None e = tt
  well_valued n (Some m) e = subst (λ t. IsMadeWell t (Some m)) (sym (complete.request).table) (taken_value x mine taken n m e).1

  -- the world in which the context's fields were evaluated
  abbrev apart : World
  apart = record (named w) { slots = λ z. None; store = λ u. missing }

  nothing_found : (u : Uid) (b : Bool) → is_uid u ≡ b → FoundMeans apart u (cond b not_loaded missing) missing
  nothing_found u true e = uid_is_named w u e
  nothing_found u false e = refl

  some_uid : (n : Text) (o : Option Uid) → IsSome o → name_means w n ≡ some_entity o → EntryMeans apart n (unknown_uid None) o
  some_uid n o i e = let u = there o i in (u.0, u.1, tt, e ∙ ap some_entity u.1)

  completes_apart : evaluator.Completes apart (with_functions x.functions)
  completes_apart =
      let all = named_whole w (complete.request).whole in
      let r = context_record x start.opened s start.bound w complete in
      record {
        whole = record { principal = all.principal; action = all.action; resource = all.resource; context = all.context; unknowns = all.unknowns; store = λ u. tt };
        principal = some_uid (codes "principal") w.principal all.principal refl;
        action = some_uid (codes "action") w.action all.action refl;
        resource = some_uid (codes "resource") w.resource all.resource refl;
        context = (r.0, r.1, r.1);
        slots = λ z. refl;
        unknowns = λ n. tt;
        table = (complete.request).table;
        store = λ u. nothing_found u (is_uid u) refl;
      }

  well_found : (b : Bool) → IsFoundMadeWell x.functions.table (cond b not_loaded missing)
  well_found true = tt
  well_found false = tt

  well_apart : AllMadeWell (with_functions x.functions)
  well_apart = record { context = tt; values = λ n. tt; store = λ u. well_found (is_uid u); calls = (makes_well x.functions makes_fairly) }

  module _ (fs : TreeFields) (is : x.start.context ≡ residual_fields fs) (made : (has_unknown (record_literal fs) ≡ true) × (is_restricted (record_literal fs) ≡ true)) (v : V) (means : PartIs w (record_literal fs) v) where
    abbrev fields : Tree
    fields = record_literal fs

    abbrev put : Tree
    put = substituted env fields

    clear : offence fields ≡ None
    clear = none_is (offence fields) made.1

    free : (u : Unknown) → Contains (unknowns fields) u → is_free_name u.name ≡ true
    free = free_in_context x start.opened fs is

    fields_apart : outcome_of apart fields ≡ Some (val v)
    fields_apart =
        let empty = record w { slots = λ z. None } in
        no_store (record (named w) { slots = λ z. None }) (λ u. missing) fields clear
        ∙ same_meant empty (name_means w) calls_nothing fields ((each_in (λ n a. bound_value (name_means w n) ≡ bound_value (w.unknowns n)) fields).0 (λ u k. ap bound_value (free_is_kept w u.name (free u k))))
        ∙ means_outcome empty fields (val v) (means.0 (λ z. None))

    put_apart : Means apart put (val v)
    put_apart = outcome_means apart put (val v) (sym (substituted_outcome apart env (λ n. well_valued n (env n) refl) (kept x start.opened s start.bound w complete) fields) ∙ fields_apart)

    put_fits : FitsAnnotations apart put
    put_fits =
        let P : Text → Option CoreType → Type 0 = λ n a. Fits a (name_means w n) in
        (each_in P put).1 (substituted_fits P env fields ((each_in P fields).0 (λ u k. subst (Fits u.annotation) (sym (free_is_kept w u.name (free u k))) (means.1 u k))))

    left_means : (r : Tree) → context_left x.functions s fs ≡ residual r → PartIs (named w) r v
    left_means r e =
        let stand : StandsFor apart put (residual r) = subst (StandsFor apart put) e (stood.residuals_stand (with_functions x.functions) (makes_fairly.answers).agrees well_apart 512 put apart completes_apart put_fits) in
        let open_one : Clean put (residual r) = subst (Clean put) e (evaluated_clean x.functions 512 put (substituted_restricted env fields clear)) in
        let here : Means apart r (val v) = stand (val v) put_apart in
        let back = sym (no_store (record (named w) { slots = λ z. None }) (λ u. missing) r open_one.1) ∙ means_outcome apart r (val v) here in (
          value_with_slots (named w) r v (outcome_means (record (named w) { slots = λ z. None }) r (val v) back),
          stood.residuals_fit (with_functions x.functions) (makes_fairly.answers).agrees well_apart 512 put r e apart completes_apart put_fits,
        )

  value_known : (y : V) → known_context (context_now x.functions s x.start.context) ≡ Some y → w.context ≡ Some y
  value_known y e =
      let same = legal.context_same c admitted mine w taken (sound_of x start.opened s.bound start.bound) (completes_bare x start.opened s start.bound w complete) x.start.context refl admitted.context (complete.request).context in
      when_is (context_known (moment_of mine) x.start.context) w.context y (sym e ∙ same)

  open_means : ContextMeans (named w) unknown_context w.context
  open_means = bare_means x start.opened s start.bound w complete

  bound_now : x.start.context ≡ unknown_context → (q : Option Made) → value_of s (codes "context") ≡ q → ContextMeans (named w) (bound_context q) w.context
  bound_now is None e = open_means
  bound_now is (Some (made_record gs)) e = (means_bound x start.opened s start.bound w complete (codes "context") (made_record gs) e).1.3 refl
  bound_now is (Some m) e = open_means

  left_now : (fs : TreeFields) → x.start.context ≡ residual_fields fs → (has_unknown (record_literal fs) ≡ true) × (is_restricted (record_literal fs) ≡ true) → (v : V) → w.context ≡ Some v → PartIs w (record_literal fs) v
      → (l : Left) → context_left x.functions s fs ≡ l → ContextMeans (named w) (left_context l) w.context
  left_now fs is made v h means (value_left (made_record gs)) e = value_known (record_of (bare_fields gs)) (ap (λ k. known_context (context_now x.functions s k)) is ∙ ap (λ l. known_context (left_context l)) e)
  left_now fs is made v h means (value_left m) e = open_means
  left_now fs is made v h means (residual (record_literal gs)) e = (v, h, left_means fs is made v means (record_literal gs) e)
  left_now fs is made v h means (residual r) e = open_means
  left_now fs is made v h means (stopped why) e = open_means

  context_now_means : (k : Context) → x.start.context ≡ k → IsMadeContext k → ContextCompleted w k → ContextMeans (named w) (context_now x.functions s k) w.context
  context_now_means (closed fs) is made h = h
  context_now_means (residual_fields fs) is made h = left_now fs is made h.0 h.1 h.2 (context_left x.functions s fs) refl
  context_now_means unknown_context is made h = bound_now is (value_of s (codes "context")) refl

  -- the world with its names put right
  abbrev pub righted : World
  righted = record (named w) { slots = λ z. None }

  pub completes_now : evaluator.Completes righted scope
  completes_now =
      let all = named_whole w (complete.request).whole in
      let entry = entry_means x start.opened s start.bound w complete in
      completes_at (named w) (λ z. None) (record scope { slots = (named w).slots })
      (record {
        whole = all;
        principal = entry (codes "principal") x.start.principal w.principal (complete.request).principal (λ m h. h.1.0 refl) refl;
        action = entry (codes "action") x.start.action w.action (complete.request).action (λ m h. h.1.1 refl) refl;
        resource = entry (codes "resource") x.start.resource w.resource (complete.request).resource (λ m h. h.1.2 refl) refl;
        context = context_now_means x.start.context refl admitted.context (complete.request).context;
        slots = λ z. refl;
        unknowns = kept x start.opened s start.bound w complete;
        table = (complete.request).table;
        store = found_now;
      })

  pub answers_alike : answer_of righted c.submission.policies ≡ answer_of w c.submission.policies
  answers_alike =
      same_answers righted w c.submission.policies
      (λ p k.
      let u = with_slots w p.bindings in
      condition_asked righted p
      ∙ same_meant u (name_means w) calls_nothing (condition p) (none_unknown (condition p) (none_has_unknowns c admitted p k) (λ n a. bound_value (name_means w n) ≡ bound_value (u.unknowns n)))
      ∙ sym (condition_asked w p))

  -- what is known is well made
  context_left_well : (fs : TreeFields) → is_restricted (record_literal fs) ≡ true → (l : Left) → context_left x.functions s fs ≡ l → IsContextMadeWell x.functions.table (left_context l)
  context_left_well fs r (value_left (made_record gs)) e =
      evaluated_well (with_functions x.functions) (λ n. refl) (makes_well x.functions makes_fairly) 512 (substituted env (record_literal fs)) (substituted_restricted env (record_literal fs) (none_is (offence (record_literal fs)) r)) (made_record gs) e
  context_left_well fs r (value_left m) e = tt
  context_left_well fs r (residual (record_literal gs)) e = tt
  context_left_well fs r (residual t) e = tt
  context_left_well fs r (stopped why) e = tt

  bound_well : (q : Option Made) → value_of s (codes "context") ≡ q → IsContextMadeWell x.functions.table (bound_context q)
  bound_well None e = tt
  bound_well (Some (made_record gs)) e = (taken_value x mine taken (codes "context") (made_record gs) e).1
  bound_well (Some m) e = tt

  context_well : (k : Context) → x.start.context ≡ k → IsMadeContext k → IsContextMadeWell x.functions.table (context_now x.functions s k)
  context_well (closed fs) is made = subst (IsContextMadeWell x.functions.table) is stands_on.context
  context_well (residual_fields fs) is made = context_left_well fs made.1 (context_left x.functions s fs) refl
  context_well unknown_context is made = bound_well (value_of s (codes "context")) refl

  value_well : (n : Text) (o : Option Made) → env n ≡ o → IsMadeWell x.functions.table o
  value_well n None e = tt
  value_well n (Some m) e = (taken_value x mine taken n m e).1

  pub all_well : AllMadeWell scope
  all_well = record { context = context_well x.start.context refl admitted.context; values = λ n. value_well n (env n) refl; store = stands_on.well; calls = (makes_well x.functions makes_fairly) }

  pub decision_holds : (d : Decision) → decision_in_session (response_of scope c.submission.limit c.submission.policies) ≡ Some d → d ≡ decision_of w c.submission.policies
  decision_holds d e =
      decisions.given scope (makes_fairly.answers).agrees all_well c.submission.limit c.submission.policies d e righted completes_now
      (each_all (λ p. FitsAnnotations righted (condition p)) c.submission.policies (λ p k. (each_in (λ n a. Fits a (righted.unknowns n)) (condition p)).1 (none_unknown (condition p) (none_has_unknowns c admitted p k) (λ n a. Fits a (righted.unknowns n)))))
      ∙ ap (λ a. a.decision) answers_alike

pub sessions_are_completed : (c : Course) (s : State) (store : Uid → Found Made) → IsAdmitted c → MakeFairly c.functions → IsOpened (session_of c) s → IsKnownStore c s store
    → (w : World) → CompletesNow (session_of c) s w
    → (v : World) × evaluator.Completes v (scope_now (session_of c) s store) × (answer_of v c.submission.policies ≡ answer_of w c.submission.policies)
sessions_are_completed c s store admitted fair start known w complete =
    (righted c admitted fair s store start known w complete, completes_now c admitted fair s store start known w complete, answers_alike c admitted fair s store start known w complete)

pub evaluated_decisions_hold : (c : Course) (s : State) (store : Uid → Found Made) → IsAdmitted c → MakeFairly c.functions → IsOpened (session_of c) s → IsKnownStore c s store
    → (d : Decision) → decision_in_session (response_of (scope_now (session_of c) s store) c.submission.limit c.submission.policies) ≡ Some d → MayDecide (session_of c) c.submission.policies s (Some d)
evaluated_decisions_hold c s store admitted fair start known d e w complete = decision_holds c admitted fair s store start known w complete d e

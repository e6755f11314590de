-- Runs that differ in the order of their steps or policies, in level, or in the store outside of the slice answer alike.
use Rattle.std.proofs.Common.{◌≡◌, ◌∙◌, ℕ, Bool, true, false, cond, List, [], ◌∷◌, Option, Some, None, codes, inl, inr, ⊎_elim, ◌⊎◌, refl, sym, ap, subst}
use Rattle.std.specs.Prelude.{Contains, unwrap_or, option_map, option_and_then}
use Rattle.std.specs.Option.{option_map_or}
use Rattle.std.specs.List.Sorted.{IsPermutation}
use Rattle.std.proofs.lemmas.List.Sorted.{IsPermutation-sym, Contains-permutation}
use Rattle.cedar_expr_model.specs.Name.{Text}
use Rattle.cedar_expr_model.specs.Uid.{Uid}
use Rattle.cedar_expr_model.specs.Made.{Made, bare}
use Rattle.cedar_expr_model.specs.Value.{V}
use Rattle.cedar_expr_model.specs.Tree.{record_literal}
use Rattle.cedar_expr_model.specs.Substitution.{Bindings, substituted}
use Rattle.cedar_expr_model.proofs.Lists.{contains_head, contains_tail, contains_cases, contains_none}
use Rattle.cedar_store_model.specs.World.{Entity, held}
use Rattle.cedar_store_model.specs.Store.{found_as, if_uid, whole}
use Rattle.cedar_store_model.specs.Laws.{with_store}
use Rattle.cedar_store_model.specs.Policy.{Policy}
use Rattle.cedar_store_model.specs.Answer.{Decision, Answer, answer_of}
use Rattle.cedar_store_model.specs.AnswerLaws.{SameMembers}
use Rattle.cedar_store_model.proofs.Reports.{order_is_free}
use Rattle.cedar_schema_model.specs.Schema.{declares_action}
use Rattle.cedar_schema_model.specs.ActionEntities.{as_entity}
use Rattle.cedar_evaluator_model.specs.Known.{known_entry, known_context}
use Rattle.cedar_evaluator_model.specs.Reauthorize.{context_from}
use Rattle.cedar_evaluator_model.specs.Scope.{Entry, uid, unknown_uid, Context, closed, residual_fields, unknown_context, value_left}
use Rattle.cedar_evaluator_model.specs.Functions.{Functions, left_of_restricted}
use Rattle.cedar_gate_model.specs.Session.{Setup, State, at_start, value_of, uid_in, entry_now, context_now, whole_store, world_now, with_bound}
use Rattle.cedar_typechecker_model.specs.Slice.{InSlice}
use Rattle.cedar_typechecker_model.specs.Reach.{IsInReach}
use Rattle.cedar_gate_model.specs.Transcript as transcript
use Rattle.cedar_gate_model.specs.Transcript.{Step, round, bound, decided}
use Rattle.cedar_gate_model.specs.Runs.{answered, opening_refused, MayDecide, with_asked}
use Rattle.cedar_gate_model.specs.RunLaws.{bindings_in, last_state}
use Rattle.cedar_gate_model.specs.RunsAsk.{end_state}
use Rattle.cedar_gate_model.specs.RunsAnswer.{Course, session_of, IsProper, MayRun, end_world, with_unknowns}
use Rattle.cedar_gate_model.specs.RunsAlike.{bound_by, course_world, by_steps, by_policies, at_level, over_store}
use Rattle.cedar_gate_model.proofs.Gate.Reach.{only_the_slice_answers}
use Rattle.cedar_gate_model.proofs.Gate.Slices.{near_kept}
use Rattle.cedar_gate_model.proofs.Runs.Answering.{at_end, fit}
use Rattle.cedar_gate_model.proofs.Runs.Asking.{runs_ask_in_the_slice}
use Rattle.cedar_gate_model.proofs.Runs.Completing.{found_bound, head_value}
use Rattle.cedar_gate_model.proofs.Runs.Contexts.{was_open, binding_grows}
use Rattle.cedar_gate_model.proofs.Runs.Deciding.{unknowns_say_nothing, none_has_unknowns, leaves_nothing, answer_is}
use Rattle.cedar_gate_model.proofs.Runs.Did.{Did, Consumed, run_did}
use Rattle.cedar_gate_model.proofs.Runs.Ordered.{follows_so}
use Rattle.cedar_gate_model.proofs.Runs.Outside.{runs_stay}

-- The world of a session by the values that are bound.
module _ (v w : Bindings) (same : (n : Text) → v n ≡ w n) where
  entry_alike : (n : Text) (e : Entry) → known_entry (option_map_or uid (uid_in (v n)) e) ≡ known_entry (option_map_or uid (uid_in (w n)) e)
  entry_alike n e = ap (λ o. known_entry (option_map_or uid (uid_in o) e)) (same n)

  all_same : v ≡ w
  all_same = λ i n. same n i

entry_same : (s t : State) → ((n : Text) → value_of s n ≡ value_of t n) → (n : Text) (e : Entry) → known_entry (entry_now s n e) ≡ known_entry (entry_now t n e)
entry_same s t same n (uid u) = refl
entry_same s t same n (unknown_uid k) = entry_alike (value_of s) (value_of t) same n (unknown_uid k)

context_same : (f : Functions) (s t : State) → ((n : Text) → value_of s n ≡ value_of t n) → (c : Context) → known_context (context_now f s c) ≡ known_context (context_now f t c)
context_same f s t same (closed fs) = refl
context_same f s t same (residual_fields fs) =
    ap (λ (e : Bindings). known_context (unwrap_or (context_from (left_of_restricted f (substituted e (record_literal fs)))) unknown_context)) (all_same (value_of s) (value_of t) same)
context_same f s t same unknown_context = ap (λ o. known_context (unwrap_or (option_and_then (λ m. context_from (value_left m)) o) unknown_context)) (same (codes "context"))

pub worlds_alike : (x : Setup) (s t : State) → ((n : Text) → value_of s n ≡ value_of t n) → world_now x s ≡ world_now x t
worlds_alike x s t same =
    λ i. record {
      principal = entry_same s t same (codes "principal") x.start.principal i;
      action = entry_same s t same (codes "action") x.start.action i;
      resource = entry_same s t same (codes "resource") x.start.resource i;
      context = context_same x.functions s t same x.start.context i;
      slots = λ k. None;
      unknowns = λ n. option_map bare (same n i);
      table = x.functions.table;
      store = whole_store x;
    }

-- What an answered run bound.
module _ (may : State → Option Decision → Type 0) (x : Setup) (ps : List Policy) where
  all_bound : (s : State) (bs : List (Text × Made)) (es : List transcript.Entry) (a : Answer) → Did may x ps s bs es → Consumed may x ps bs es (answered a) → (last_state s bs es).bound ≡ bound_by s.bound bs
  all_bound s bs [] a d q = ap (bound_by s.bound) (sym q)
  all_bound s bs (round uids ∷ es) a d q = all_bound (with_asked s uids) bs es a d.1 q
  all_bound s [] (bound k ∷ es) a d q = absurd d
  all_bound s (b ∷ bs) (bound k ∷ es) a d q = all_bound (with_bound s b.0 b.1) bs es a d.2 q
  all_bound s bs (decided o ∷ es) a d q = all_bound s bs es a d.1 q

  -- each binding has its value
  abbrev pub Valued : State → Type 0
  Valued s = (b : Text × Made) → Contains s.bound b → value_of s b.0 ≡ Some b.1

  valued : (s : State) (bs : List (Text × Made)) (es : List transcript.Entry) → Did may x ps s bs es → Valued s → Valued (last_state s bs es)
  valued s bs [] d h = h
  valued s bs (round uids ∷ es) d h = valued (with_asked s uids) bs es d.1 h
  valued s [] (bound k ∷ es) d h = absurd d
  valued s (b ∷ bs) (bound k ∷ es) d h =
      valued (with_bound s b.0 b.1) bs es d.2
      (λ c k. contains_cases (value_of (with_bound s b.0 b.1) c.0 ≡ Some c.1) b s.bound c k
      (λ e. subst (λ z. value_of (with_bound s b.0 b.1) z.0 ≡ Some z.1) e (head_value x s b.0 b.1))
      (λ a. binding_grows s b.0 b.1 (was_open x s b.0 b.1 d.1) c.0 c.1 (h c a)))
  valued s bs (decided o ∷ es) d h = valued s bs es d.1 h

-- what is bound are the bindings
bound_before : (done bs : List (Text × Made)) (b : Text × Made) → Contains done b → Contains (bound_by done bs) b
bound_before done [] b k = k
bound_before done (c ∷ bs) b k = bound_before (c ∷ done) bs b (contains_tail c done b k)

bound_there : (done bs : List (Text × Made)) (b : Text × Made) → Contains bs b → Contains (bound_by done bs) b
bound_there done [] b k = absurd (contains_none b k)
bound_there done (c ∷ bs) b k =
    contains_cases (Contains (bound_by (c ∷ done) bs) b) c bs b k
    (λ e. bound_before (c ∷ done) bs b (subst (λ z. Contains (z ∷ done) b) (sym e) (contains_head b done)))
    (bound_there (c ∷ done) bs b)

bound_from : (done bs : List (Text × Made)) (b : Text × Made) → Contains (bound_by done bs) b → Contains done b ⊎ Contains bs b
bound_from done [] b k = inl k
bound_from done (c ∷ bs) b k =
    ⊎_elim
    (λ a. contains_cases (Contains done b ⊎ Contains (c ∷ bs) b) c done b a (λ e. inr (subst (λ z. Contains (z ∷ bs) b) (sym e) (contains_head b bs))) (λ m. inl m))
    (λ a. inr (contains_tail c bs b a))
    (bound_from (c ∷ done) bs b k)

only_bound : (bs : List (Text × Made)) (b : Text × Made) → Contains (bound_by [] bs) b → Contains bs b
only_bound bs b k = ⊎_elim (λ a. absurd (contains_none b a)) (λ a. a) (bound_from [] bs b k)

module _ (c : Course) (es : List transcript.Entry) (a : Answer) (run : MayRun c es (answered a)) where
  ends_bound : (end_state c.steps es).bound ≡ bound_by [] (bindings_in c.steps)
  ends_bound =
      let x = session_of c in
      let ps = c.submission.policies in
      ⊎_elim (λ b. let q : answered a ≡ opening_refused b.0 = b.1 in cc) (λ b. all_bound (MayDecide x ps) x ps at_start (bindings_in c.steps) es a (b.1).0 (b.1).2)
      (run_did (MayDecide x ps) x ps c.steps es (answered a) run)

  pub ends_are_the_courses : end_world c es ≡ course_world c
  ends_are_the_courses = ap (λ bs. world_now (session_of c) (record { bound = bs; asked = [] })) ends_bound

  pub course_answer : a ≡ answer_of (course_world c) c.submission.policies
  course_answer = answer_is c es a run ∙ ap (λ w. answer_of w c.submission.policies) ends_are_the_courses

  -- each binding of the steps has its value at the end
  course_valued : (b : Text × Made) → Contains (bindings_in c.steps) b → value_of (record { bound = bound_by [] (bindings_in c.steps); asked = [] }) b.0 ≡ Some b.1
  course_valued b k =
      let x = session_of c in
      let ps = c.submission.policies in
      ⊎_elim (λ d. let q : answered a ≡ opening_refused d.0 = d.1 in cc)
      (λ d.
      let h = valued (MayDecide x ps) x ps at_start (bindings_in c.steps) es (d.1).0 (λ e m. absurd (contains_none e m)) in
      let there = subst (λ z. Contains z b) (sym ends_bound) (bound_there [] (bindings_in c.steps) b k) in
      subst (λ z. value_of (record { bound = z; asked = [] }) b.0 ≡ Some b.1) ends_bound (h b there))
      (run_did (MayDecide x ps) x ps c.steps es (answered a) run)

-- values that are bound alike
abbrev bound_state : List (Text × Made) → State
bound_state bs = record { bound = bound_by [] bs; asked = [] }

module _ (bs cs : List (Text × Made)) (into : (b : Text × Made) → Contains bs b → Contains cs b)
    (right : (b : Text × Made) → Contains cs b → value_of (bound_state cs) b.0 ≡ Some b.1) where
  value_moves : (n : Text) (m : Made) → value_of (bound_state bs) n ≡ Some m → value_of (bound_state cs) n ≡ Some m
  value_moves n m e =
      let r = found_bound (bound_by [] bs) n m e in
      let h = right r.0 (into r.0 (only_bound bs r.0 r.1)) in
      subst (λ z. value_of (bound_state cs) z ≡ Some m) r.2 (h ∙ ap Some r.3)

same_option : {A : Type 0} (o p : Option A) → ((a : A) → o ≡ Some a → p ≡ Some a) → ((a : A) → p ≡ Some a → o ≡ Some a) → o ≡ p
same_option (Some a) p f g = sym (f a refl)
same_option None None f g = refl
same_option None (Some a) f g = g a refl

pub steps_may_move : (c : Course) (steps : List Step) (es fs : List transcript.Entry) (a b : Answer) → SameMembers (bindings_in c.steps) (bindings_in steps) → MayRun c es (answered a) → MayRun (by_steps c steps) fs (answered b) → a ≡ b
steps_may_move c steps es fs a b same run other =
    let bs = bindings_in c.steps in
    let cs = bindings_in steps in
    let right = course_valued c es a run in
    let left = course_valued (by_steps c steps) fs b other in
    course_answer c es a run
    ∙ ap (λ w. answer_of w c.submission.policies)
    (worlds_alike (session_of c) (bound_state bs) (bound_state cs)
    (λ n. same_option (value_of (bound_state bs) n) (value_of (bound_state cs) n) (value_moves bs cs (λ z. (same z).0) left n) (value_moves cs bs (λ z. (same z).1) right n)))
    ∙ sym (course_answer (by_steps c steps) fs b other)

pub levels_answer_alike : (c : Course) (n : ℕ) (es fs : List transcript.Entry) (a b : Answer) → MayRun c es (answered a) → MayRun (at_level c n) fs (answered b) → a ≡ b
levels_answer_alike c n es fs a b run other = course_answer c es a run ∙ sym (course_answer (at_level c n) fs b other)

pub moved_policies_answer_alike : (c : Course) (qs : List Policy) (es fs : List transcript.Entry) (a b : Answer) → IsPermutation c.submission.policies qs → MayRun c es (answered a) → MayRun (by_policies c qs) fs (answered b)
    → (a.decision ≡ b.decision) × SameMembers a.reasons b.reasons × SameMembers a.errors b.errors
moved_policies_answer_alike c qs es fs a b moved run other =
    let ps = c.submission.policies in
    let w = course_world c in
    let h = order_is_free w ps qs (λ p. (Contains-permutation ps qs p moved, Contains-permutation qs ps p (IsPermutation-sym ps qs moved))) in
    let e = course_answer c es a run in
    let f = course_answer (by_policies c qs) fs b other in (
      ap (λ z. z.decision) e ∙ h.0 ∙ sym (ap (λ z. z.decision) f),
      subst (λ z. SameMembers z b.reasons) (sym (ap (λ z. z.reasons) e)) (subst (λ z. SameMembers (answer_of w ps).reasons z) (sym (ap (λ z. z.reasons) f)) h.1),
      subst (λ z. SameMembers z b.errors) (sym (ap (λ z. z.errors) e)) (subst (λ z. SameMembers (answer_of w ps).errors z) (sym (ap (λ z. z.errors) f)) h.2),
    )

pub moved_policies_run : (c : Course) (qs : List Policy) (es : List transcript.Entry) (a : Answer) → IsPermutation c.submission.policies qs → MayRun c es (answered a)
    → MayRun (by_policies c qs) es (answered (answer_of (end_world c es) qs))
moved_policies_run c qs es a moved run =
    let ps = c.submission.policies in
    (run.0, follows_so ps qs (λ p. (Contains-permutation ps qs p moved, Contains-permutation qs ps p (IsPermutation-sym ps qs moved))) (session_of c) at_start c.steps es a run.1)

-- stores that differ outside of the slice
same_reach : (u : Uid) (d : Bool) (e : Entity V) (o p : Option (Entity V)) → (d ≡ false → p ≡ o) → cond d (held e) (if_uid u (found_as whole p)) ≡ cond d (held e) (if_uid u (found_as whole o))
same_reach u true e o p h = refl
same_reach u false e o p h = ap (λ z. if_uid u (found_as whole z)) (h refl)

never : (b : Bool) → b ≡ true → b ≡ false → ⊥
never true e f = cc
never false e f = cc

module _ (c : Course) (store : Uid → Option (Entity V)) (proper : IsProper c) (same : (u : Uid) → InSlice (session_of c).schema (session_of c).level (course_world c) u → store u ≡ c.store u) where
  -- over the other store the world at the end has the same answer
  outside_moves : (es : List transcript.Entry) (a : Answer) → MayRun c es (answered a)
      → answer_of (with_store (end_world c es) (whole_store (session_of (over_store c store)))) c.submission.policies ≡ answer_of (end_world c es) c.submission.policies
  outside_moves es a run =
      let x = session_of c in
      let ps = c.submission.policies in
      let w = end_world c es in
      let other_store = whole_store (session_of (over_store c store)) in
      let clear = unknowns_say_nothing in
      let near : (u : Uid) → InSlice x.schema x.level (with_unknowns w) u → store u ≡ c.store u =
      λ u h. same u (subst (λ z. InSlice x.schema x.level z u) (ends_are_the_courses c es a run) (near_kept (with_unknowns w) w (λ v k. k) (λ v y k. k) x.level u h.0, h.1)) in
      let agree : (u : Uid) → IsInReach x.schema x.level (with_unknowns w) u → other_store u ≡ (with_unknowns w).store u =
      λ u h. same_reach u (declares_action x.schema u) (as_entity x.schema u) (c.store u) (store u) (λ f. ⊎_elim (near u) (λ e. absurd (never (declares_action x.schema u) e f)) h) in
      sym (clear (with_store w other_store) ps (leaves_nothing c proper.admitted) (none_has_unknowns c proper.admitted))
      ∙ only_the_slice_answers c.submission (with_unknowns w) proper.admitted.accepted (at_end c proper es a run (λ stands opened nothing fine. fit c proper.admitted (end_state c.steps es) stands opened nothing fine)) other_store agree
      ∙ clear w ps (leaves_nothing c proper.admitted) (none_has_unknowns c proper.admitted)

  pub outside_says_nothing : (es fs : List transcript.Entry) (a b : Answer) → MayRun c es (answered a) → MayRun (over_store c store) fs (answered b) → a ≡ b
  outside_says_nothing es fs a b run other =
      answer_is c es a run ∙ sym (outside_moves es a run)
      ∙ ap (λ z. answer_of (with_store z (whole_store (session_of (over_store c store)))) c.submission.policies) (ends_are_the_courses c es a run) ∙ sym (course_answer (over_store c store) fs b other)

  -- and the run is one over the other store too
  pub outside_runs_stay : (es : List transcript.Entry) (a : Answer) → MayRun c es (answered a) → MayRun (over_store c store) es (answered a)
  outside_runs_stay es a run =
      let x = session_of c in
      let ps = c.submission.policies in
      let asked = runs_ask_in_the_slice (MayDecide x ps) x ps c.steps es (answered a) proper.admitted.context run in
      (run.0, runs_stay x ps store c.steps es a (λ u k. same u (subst (λ z. InSlice x.schema x.level z u) (ends_are_the_courses c es a run) (asked u k))) (outside_moves es a run) run.1)

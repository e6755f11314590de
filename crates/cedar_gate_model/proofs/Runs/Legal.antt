-- What a run of a proper course does is legal, whatever its context.
use Rattle.std.proofs.Common.{◌≡◌, ◌↔◌, ◌∙◌, ℕ, Bool, true, false, List, [], ◌∷◌, map, Option, Some, None, codes, inl, inr, ⊎_elim, ◌⊎◌, refl, sym, ap, subst, option_map, is_some}
use Rattle.std.specs.Prelude.{Contains}
use Rattle.std.specs.List.{list_any, list_all}
use Rattle.std.specs.Str.{bytes_eq}
use Rattle.cedar_expr_model.specs.Name.{Text, Name}
use Rattle.cedar_expr_model.specs.Uid.{Uid}
use Rattle.cedar_expr_model.specs.Value.{V}
use Rattle.cedar_expr_model.specs.Builder.{built_fields, tree_fields}
use Rattle.cedar_expr_model.specs.Lists.{when}
use Rattle.cedar_expr_model.specs.Made.{Made, bare}
use Rattle.cedar_expr_model.specs.Parts.{Unknown, subexpressions, unknown_here, unknowns}
use Rattle.cedar_expr_model.specs.Restricted.{is_restricted}
use Rattle.cedar_expr_model.specs.Substitution.{substituted}
use Rattle.cedar_expr_model.specs.OfLaws.Fair.{IsTaken}
use Rattle.cedar_expr_model.specs.Tree.{Tree, record_literal, TreeFields}
use Rattle.cedar_expr_model.specs.Unknowns.{has_unknown}
use Rattle.cedar_expr_model.proofs.Lists.{contains_head, contains_tail, all_each, all_from, any_from}
use Rattle.cedar_expr_model.proofs.Substituting.{bound_leaves_none}
use Rattle.cedar_store_model.specs.Outcome.{val}
use Rattle.cedar_store_model.specs.World.{World}
use Rattle.cedar_store_model.specs.OfLaws.Extends.{Keeps}
use Rattle.cedar_store_model.specs.Meaning.{outcome_of}
use Rattle.cedar_store_model.specs.Policy.{Policy}
use Rattle.cedar_store_model.proofs.Known.{what_is_there}
use Rattle.cedar_store_model.proofs.Meaning.{means_outcome}
use Rattle.cedar_evaluator_model.proofs.Residuals.Groups.{kept_has}
use Rattle.cedar_evaluator_model.specs.Known.{known_context}
use Rattle.cedar_evaluator_model.specs.Scope.{Context, closed, residual_fields, unknown_context, leaves_unknown, Left, value_left, residual, stopped}
use Rattle.cedar_evaluator_model.specs.OfLaws.Calls.{bare_called}
use Rattle.cedar_evaluator_model.specs.OfLaws.WellMade.{IsWellMade, IsMadeWell}
use Rattle.cedar_evaluator_model.proofs.Residuals.Slots.{substituted_outcome}
use Rattle.cedar_gate_model.specs.GateLaws.{SameRoots}
use Rattle.cedar_gate_model.specs.Moment.{ContextCompleted, at_first, context_known, is_bound}
use Rattle.cedar_evaluator_model.specs.Functions.{with_functions}
use Rattle.cedar_gate_model.specs.RunLaws.{bindings_in, last_state, case_of}
use Rattle.cedar_gate_model.specs.Runs.{End, MayDecide, IsRoundNow, with_asked}
use Rattle.cedar_gate_model.specs.RunsAnswer.{Course, session_of, IsAdmitted, IsProper, MayRun}
use Rattle.cedar_gate_model.specs.RunsAsk.{IsMadeContext, end_state}
use Rattle.cedar_gate_model.specs.Session.{Setup, State, at_start, value_of, context_left, context_now, known_now, ContextFails, context_fails, with_bound, CompletesNow}
use Rattle.cedar_typechecker_model.specs.Slice.{InSlice}
use Rattle.cedar_gate_model.specs.Transcript as transcript
use Rattle.cedar_gate_model.specs.Transcript.{round, bound, decided, IsRound, AreLegal}
use Rattle.cedar_gate_model.proofs.Gate.LegalRuns as before
use Rattle.cedar_gate_model.proofs.Gate.LegalRuns.{moment_of, seen, BoundOrOpen, bound_or_open, store_same, near_same, decision_is_legal, completes_before}
use Rattle.cedar_evaluator_model.proofs.Restricted.{none_is, substituted_restricted}
use Rattle.cedar_gate_model.proofs.Runs.Closing.{IsShut, evaluated_shut, record_evaluated}
use Rattle.cedar_gate_model.proofs.Runs.Completing.{Stands, stands_at_start, asked_more, bound_more, taken_value}
use Rattle.cedar_gate_model.proofs.Runs.Contexts.{puts, value_is_valued, left_context, residual_unknown}
use Rattle.cedar_gate_model.proofs.Runs.Deciding.{leaves_nothing}
use Rattle.cedar_gate_model.proofs.Runs.Did.{Did, run_did}
use Rattle.cedar_gate_model.proofs.Runs.Restricted.{value_is_meant}

-- an expression that has an unknown has one
pub some_unknown_of : (t : Tree) → has_unknown t ≡ true → (u : Unknown) × Contains (unknowns t) u
some_unknown_of t e =
    let r = any_from (λ s. is_some (unknown_here s)) (subexpressions t) e in
    let u = what_is_there (unknown_here r.0) r.2 in
    (u.0, kept_has unknown_here (subexpressions t) r.0 u.0 r.1 u.1)

module _ (c : Course) (admitted : IsAdmitted c) where
  abbrev pub x : Setup
  x = session_of c

  abbrev pub ps : List Policy
  ps = c.submission.policies

  pub calls_leave_nothing : (f : Name) (ms : List Made) (n : Text) → IsTaken x.functions.table f (map bare ms) → x.functions.calls f ms ≡ leaves_unknown n → ⊥
  calls_leave_nothing f ms n t e = leaves_nothing c admitted f (map bare ms) n t (sym ((admitted.fair).agrees f ms t) ∙ ap bare_called e)

  -- nothing is bound yet, or the context doesn't fail
  abbrev pub Sound : State → Type 0
  Sound s = (s.bound ≡ []) ⊎ (ContextFails x.functions s c.start.context → ⊥)

  failing_same : (s t : State) → s.bound ≡ t.bound → (k : Context) → ContextFails x.functions t k → ContextFails x.functions s k
  failing_same s t e (closed fs) h = h
  failing_same s t e (residual_fields fs) h = subst (λ bs. ContextFails x.functions (record { bound = bs; asked = [] }) (residual_fields fs)) (sym e) h
  failing_same s t e unknown_context h = h

  sound_asked : (s : State) (uids : List Uid) → Sound s → Sound (with_asked s uids)
  sound_asked s uids h = ⊎_elim (λ e. inl e) (λ k. inr (λ f. k (failing_same s (with_asked s uids) refl c.start.context f))) h

  module _ (s : State) (w : World) (stands : Stands x s) (sound : Sound s) (complete : CompletesNow x s w) where
    at_name : (n : Text) → BoundOrOpen w n s.bound
    at_name n = bound_or_open w n s.bound complete.bound

    well : (n : Text) (o : Option Made) → value_of s n ≡ o → IsMadeWell w.table o
    well n None e = tt
    well n (Some m) e = subst (λ t. IsMadeWell t (Some m)) (sym (complete.request).table) (taken_value x s stands n m e).1

    keeps : (n : Text) (o : Option Made) → value_of s n ≡ o → Keeps (option_map bare o) (w.unknowns n)
    keeps n None e = tt
    keeps n (Some m) e =
        ⊎_elim (λ r. (let q : r.0 ≡ m = (let z : Some r.0 ≡ Some m = sym r.1 ∙ e in cc) in (r.3).0 ∙ ap (λ k. Some (bare k)) q)) (λ r. (let z : Some m ≡ None = sym e ∙ r.0 in cc)) (at_name n)

    bound_value : (n : Text) → is_bound (moment_of s) n ≡ true → (m : Made) × (value_of s n ≡ Some m)
    bound_value n e = ⊎_elim (λ r. (r.0, r.1)) (λ r. (let z : true ≡ false = sym e ∙ r.1 in cc)) (at_name n)

    value_bound : (n : Text) (m : Made) → value_of s n ≡ Some m → is_bound (moment_of s) n ≡ true
    value_bound n m e = ⊎_elim (λ r. r.2) (λ r. (let z : Some m ≡ None = sym e ∙ r.0 in cc)) (at_name n)

    module _ (fs : TreeFields) (is : c.start.context ≡ residual_fields fs) (made : (has_unknown (record_literal fs) ≡ true) × (is_restricted (record_literal fs) ≡ true)) (v : V) (means : outcome_of w (record_literal fs) ≡ Some (val v)) where
      abbrev fields : Tree
      fields = record_literal fs

      abbrev left : Left
      left = context_left x.functions s fs

      nothing_bound : list_all (λ (u : Unknown). is_bound (moment_of s) u.name) (unknowns fields) ≡ true → s.bound ≡ [] → ⊥
      nothing_bound h k =
          let u = some_unknown_of fields made.0 in
          let b = all_each (λ (y : Unknown). is_bound (moment_of s) y.name) (unknowns fields) h u.0 u.1 in
          let f : list_any (bytes_eq (u.0).name) (map (λ (z : Text × Made). z.0) s.bound) ≡ false = ap (λ l. list_any (bytes_eq (u.0).name) (map (λ (z : Text × Made). z.0) l)) k in
          let lie : true ≡ false = sym b ∙ f in
          cc

      all_bound : list_all (λ (u : Unknown). is_bound (moment_of s) u.name) (unknowns fields) ≡ true → (l : Left) → left ≡ l → known_context (left_context l) ≡ Some v
      all_bound h (value_left m) e =
          let clear = none_is _ made.1 in
          let r = record_evaluated (with_functions x.functions) 512 (tree_fields (built_fields (puts (value_of s)) fs)) m e in
          let value = value_is_meant (with_functions x.functions) w (admitted.fair).agrees (λ n. refl) (complete.request).table 512 (substituted (value_of s) fields) (substituted_restricted (value_of s) fields clear) m e in
          let same : Some (val v) ≡ Some (val (bare m)) = sym means ∙ substituted_outcome w (value_of s) (λ n. well n (value_of s n) refl) (λ n. keeps n (value_of s n) refl) fields ∙ value in
          let q : v ≡ bare m = cc in
          ap (λ k. known_context (left_context (value_left k))) (sym r.1) ∙ ap (λ k. Some (bare k)) r.1 ∙ ap Some (sym q)
      all_bound h (residual r) e =
          let clear = none_is _ made.1 in
          let none = bound_leaves_none (value_of s) fields (λ u k. bound_value u.name (all_each (λ (y : Unknown). is_bound (moment_of s) y.name) (unknowns fields) h u k)) in
          absurd (subst (IsShut (with_functions x.functions) calls_leave_nothing) e (evaluated_shut (with_functions x.functions) calls_leave_nothing 512 (substituted (value_of s) fields) (substituted_restricted (value_of s) fields clear) none))
      all_bound h (stopped why) e = ⊎_elim (λ k. absurd (nothing_bound h k)) (λ k. absurd (k (subst (ContextFails x.functions s) (sym is) (why, e)))) sound

      some_open : list_all (λ (u : Unknown). is_bound (moment_of s) u.name) (unknowns fields) ≡ false → (l : Left) → left ≡ l → known_context (left_context l) ≡ None
      some_open h (value_left m) e =
          let all = all_from (λ (y : Unknown). is_bound (moment_of s) y.name) (unknowns fields) (λ u k. (let r = value_is_valued x.functions (value_of s) fields made.1 m e u k in value_bound u.name r.0 r.1)) in
          let lie : true ≡ false = sym all ∙ h in cc
      some_open h (residual r) e = residual_unknown r
      some_open h (stopped why) e = refl

      by_bound : (b : Bool) → list_all (λ (u : Unknown). is_bound (moment_of s) u.name) (unknowns fields) ≡ b → known_context (left_context left) ≡ when b (Some v)
      by_bound true h = all_bound h left refl
      by_bound false h = some_open h left refl

    pub context_same : (k : Context) → c.start.context ≡ k → IsMadeContext k → ContextCompleted w k → known_context (context_now x.functions s k) ≡ when (context_known (moment_of s) k) w.context
    context_same (closed fs) is made h = before.context_same x s w (closed fs) tt (at_name (codes "context")) h
    context_same unknown_context is made h = before.context_same x s w unknown_context tt (at_name (codes "context")) h
    context_same (residual_fields fs) is made h =
        by_bound fs is made h.0 (means_outcome w (record_literal fs) (val h.0) ((h.2).0 w.slots)) (list_all (λ (u : Unknown). is_bound (moment_of s) u.name) (unknowns (record_literal fs))) refl
        ∙ ap (when (context_known (moment_of s) (residual_fields fs))) (sym h.1)

    roots_same : SameRoots (known_now x s) (seen x w s)
    roots_same = record {
      principal = before.entry_same s w (codes "principal") x.start.principal w.principal (at_name (codes "principal")) (λ m k. k.1.0 refl) (complete.request).principal;
      resource = before.entry_same s w (codes "resource") x.start.resource w.resource (at_name (codes "resource")) (λ m k. k.1.2 refl) (complete.request).resource;
      context = context_same c.start.context refl admitted.context (complete.request).context;
    }

    slice_same : (n : ℕ) (u : Uid) → InSlice x.schema n (seen x w s) u ↔ InSlice x.schema n (known_now x s) u
    slice_same n u = let r = near_same (known_now x s) (seen x w s) roots_same (store_same x s w complete) n u in (λ k. (r.0 k.0, k.1), λ k. (r.1 k.0, k.1))

    round_is_legal : (uids : List Uid) → IsRoundNow x s uids → IsRound (case_of x ps) w (moment_of s) uids
    round_is_legal uids r = record {
      some_wanted = r.some_wanted;
      in_order = r.wanted.in_order;
      exact = λ u. let e = r.wanted.exact u in let q = slice_same x.level u in (λ k. let i = e.0 k in (q.1 i.0, i.1), λ k. e.1 (q.0 k.0, k.1));
    }

  pub legal : (w : World) (s : State) (bs : List (Text × Made)) (es : List transcript.Entry) → ((b : Text × Made) → Contains bs b → IsWellMade x.functions.table b.1) → Did (MayDecide x ps) x ps s bs es → Stands x s → Sound s → CompletesNow x (last_state s bs es) w
      → AreLegal (case_of x ps) w (moment_of s) es
  legal w s bs [] well d stands sound done = tt
  legal w s bs (round uids ∷ es) well d stands sound done = (
    round_is_legal s w stands sound (completes_before x s bs (round uids ∷ es) w done) uids d.0,
    legal w (with_asked s uids) bs es well d.1 (asked_more x s uids (d.0).taken stands) (sound_asked s uids sound) done,
  )
  legal w s [] (bound k ∷ es) well d stands sound done = absurd d
  legal w s (b ∷ bs) (bound k ∷ es) well d stands sound done =
      let rest = legal w (with_bound s b.0 b.1) bs es (λ e m. well e (contains_tail b bs e m)) d.2 (bound_more x s b d.1 (well b (contains_head b bs)) stands) (inr (d.1 context_fails)) done in
      (tt, subst (λ z. AreLegal (case_of x ps) w (record { bound = z ∷ map (λ (e : Text × Made). e.0) s.bound; asked = s.asked }) es) (sym d.0) rest)
  legal w s bs (decided o ∷ es) well d stands sound done =
      (decision_is_legal x ps s w o (completes_before x s bs (decided o ∷ es) w done) d.0, legal w s bs es well d.1 stands sound done)

pub runs_are_legal : (c : Course) (es : List transcript.Entry) (end : End) → IsProper c → MayRun c es end → (w : World) → CompletesNow (session_of c) (end_state c.steps es) w
    → AreLegal (case_of (session_of c) c.submission.policies) w at_first es
runs_are_legal c es end proper run w done =
    let k = session_of c in
    let ps = c.submission.policies in
    ⊎_elim (λ a. subst (λ l. AreLegal (case_of k ps) w at_first l) (sym a.2) tt)
    (λ a. legal c proper.admitted w at_start (bindings_in c.steps) es proper.values (a.1).0 (stands_at_start k) (inl refl) done)
    (run_did (MayDecide k ps) k ps c.steps es end run)

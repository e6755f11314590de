-- The bounds that a session gives: they hold in every completion, are given where all is bound, and are the reasons where all is held.
use Rattle.std.proofs.Common.{◌≡◌, ◌∙◌, Bool, true, false, cond, not, ◌||◌, ◌&&◌, is_some, List, [], ◌∷◌, ◌++◌, Option, Some, None, codes, inl, inr, ⊎_elim, refl, sym, ap, subst}
use Rattle.std.specs.Prelude.{Contains, IsSome, filter}
use Rattle.std.specs.List.{list_any}
use Rattle.std.specs.Map.{lookup}
use Rattle.std.specs.Str.{bytes_eq}
use Rattle.std.proofs.lemmas.List.{append-nil}
use Rattle.std.proofs.lemmas.Slice.Eq.{bytes_eq-Decides}
use Rattle.cedar_expr_model.specs.Builder.{built_fields, tree_fields}
use Rattle.cedar_expr_model.specs.Made.{Made, made_record}
use Rattle.cedar_expr_model.specs.Name.{Text, Name}
use Rattle.cedar_expr_model.specs.Parts.{Unknown, unknowns}
use Rattle.cedar_expr_model.specs.Restricted.{is_restricted}
use Rattle.cedar_expr_model.specs.Substitution.{substituted}
use Rattle.cedar_expr_model.specs.Tree.{Tree, record_literal, TreeFields}
use Rattle.cedar_expr_model.specs.Uid.{Uid}
use Rattle.cedar_expr_model.specs.Unknowns.{has_unknown}
use Rattle.cedar_expr_model.proofs.Gathering.{each_in}
use Rattle.cedar_expr_model.proofs.Lists.{contains_head, contains_tail, contains_cases, contains_none, any_has, any_from, filter_has, filter_only, hold_left, hold_right, map_has, map_from}
use Rattle.cedar_expr_model.proofs.Substituting.{bound_leaves_none}
use Rattle.cedar_store_model.specs.Answer.{with_slots, policy_outcome, satisfied, permits, satisfied_permits, satisfied_forbids, determining, ids, answer_of, reasons_of}
use Rattle.cedar_store_model.specs.Meaning.{Means, outcome_of}
use Rattle.cedar_store_model.specs.Outcome.{Res}
use Rattle.cedar_store_model.specs.Looks.{Looks}
use Rattle.cedar_store_model.specs.Policy.{Policy, Effect, permit, forbid, condition}
use Rattle.cedar_store_model.specs.World.{World, Found}
use Rattle.cedar_store_model.proofs.Conditions.{condition_asked}
use Rattle.cedar_store_model.proofs.Known.{what_is_there}
use Rattle.cedar_store_model.proofs.Meaning.{means_outcome, outcome_means}
use Rattle.cedar_store_model.proofs.Slices.{same_means}
use Rattle.cedar_store_model.proofs.Stores.{same_answers}
use Rattle.cedar_schema_model.specs.BagLaws.{HasTwice}
use Rattle.cedar_evaluator_model.specs.Completion.{Fits, FitsAnnotations}
use Rattle.cedar_evaluator_model.specs.Evaluation.{evaluated}
use Rattle.cedar_evaluator_model.specs.Known.{known_entry, known_context, known_found, known_world}
use Rattle.cedar_evaluator_model.specs.Laws.{WithinLimit}
use Rattle.cedar_evaluator_model.specs.Members.{Bounds, of_true, of_residual, if_none, must_be_determining, may_be_determining, met_limit, in_order}
use Rattle.cedar_evaluator_model.specs.OfLaws.Whole.{NothingUnknown, HoldsValues}
use Rattle.cedar_evaluator_model.specs.Response.{Noted, verdict, if_residual, group, response_of, with_bindings}
use Rattle.cedar_evaluator_model.specs.ResponseLaws.{AreAmong}
use Rattle.cedar_evaluator_model.specs.Scope.{Scope, Entry, uid, unknown_uid, Context, closed, residual_fields, unknown_context, Left, value_left, residual, stopped}
use Rattle.cedar_evaluator_model.specs.Steps.{errs, truth_left}
use Rattle.cedar_evaluator_model.proofs.Limits.{none_met, not_met, no_limit_within}
use Rattle.cedar_evaluator_model.proofs.Reached.{owed_unless_limit}
use Rattle.cedar_evaluator_model.proofs.Residuals.Decisions as decisions
use Rattle.cedar_evaluator_model.proofs.Residuals.Groups.{group_from, residual_only}
use Rattle.cedar_evaluator_model.proofs.Responses.{Same, SameVerdict, same_verdict, response_is_answer}
use Rattle.cedar_evaluator_model.proofs.Settled.{settled_there}
use Rattle.cedar_gate_model.specs.GateLaws.{Holds}
use Rattle.cedar_evaluator_model.specs.Functions.{with_functions}
use Rattle.cedar_gate_model.specs.RunsAnswer.{Course, session_of, IsAdmitted, MakeFairly, IsOpened, IsKnownStore}
use Rattle.cedar_gate_model.specs.RunsAsk.{IsMadeContext}
use Rattle.cedar_gate_model.specs.Early.{bounds_now, HoldsLookups, BoundsInPart, KeepsBounds}
use Rattle.cedar_gate_model.specs.Session.{Setup, State, value_of, uid_in, context_left, entry_now, context_now, scope_now, known_now, world_now, HasOpenName, entry_named, is_open_entry, is_open_context, ContextFails, CompletesNow}
use Rattle.cedar_gate_model.proofs.Gate.Accepting.{accepted_good, acceptance_reads}
use Rattle.cedar_evaluator_model.proofs.Restricted.{none_is, substituted_restricted}
use Rattle.cedar_gate_model.proofs.Runs.Closing.{IsShut, evaluated_shut, record_evaluated}
use Rattle.cedar_gate_model.proofs.Runs.Completing.{Stands, taken_value, store_settled}
use Rattle.cedar_gate_model.proofs.Runs.Contexts.{puts, bound_context, left_context, entry_value}
use Rattle.cedar_gate_model.proofs.Runs.Deciding.{none_unknown, none_has_unknowns, leaves_nothing}
use Rattle.cedar_gate_model.proofs.Runs.Forcing.{known_same, ready}
use Rattle.cedar_gate_model.proofs.Runs.Legal.{some_unknown_of, calls_leave_nothing}
use Rattle.cedar_gate_model.proofs.Runs.Names.{bare_state, stands, sound_of, there}
use Rattle.cedar_gate_model.proofs.Runs.Knowing.{known_whole, known_values}
use Rattle.cedar_gate_model.proofs.Runs.Owing.{each_all}
use Rattle.cedar_gate_model.proofs.Runs.Scoped.{righted, completes_now, answers_alike, all_well}

-- bounds that are given hold in every completion
pub given_bounds_hold : (c : Course) (s : State) (store : Uid → Found Made) → IsAdmitted c → MakeFairly c.functions → IsOpened (session_of c) s → IsKnownStore c s store
    → (b : Bounds) → bounds_now c s store ≡ Some b → (w : World) → CompletesNow (session_of c) s w → Holds (record { must = b.must; may = b.may }) w c.submission.policies
given_bounds_hold c s store admitted fair start known b e w complete =
    let ps = c.submission.policies in
    let v = righted c admitted fair s store start known w complete in
    let fits = each_all (λ p. FitsAnnotations v (condition p)) ps (λ p k. (each_in (λ n a. Fits a (v.unknowns n)) (condition p)).1 (none_unknown (condition p) (none_has_unknowns c admitted p k) (λ n a. Fits a (v.unknowns n)))) in
    let h = decisions.bounds_hold (scope_now (session_of c) s store) (fair.answers).agrees (all_well c admitted fair s store start known w complete) c.submission.limit ps b e v (completes_now c admitted fair s store start known w complete) fits in
    let same : reasons_of v ps ≡ reasons_of w ps = ap (λ a. a.reasons) (answers_alike c admitted fair s store start known w complete) in
    record { within = subst (λ rs. AreAmong b.must rs) same h.0; covers = subst (λ rs. AreAmong rs b.may) same h.1 }

-- where the ids of policies are distinct, the ids of some of them in the order of all are those of the ones in their order
module _ (ps : List Policy) (once : HasTwice (ids ps) → ⊥) where
  one_of_id : (qs : List Policy) → (HasTwice (ids qs) → ⊥) → (p q : Policy) → Contains qs p → Contains qs q → p.id ≡ q.id → p ≡ q
  one_of_id [] h p q i j e = absurd (contains_none p i)
  one_of_id (r ∷ rs) h p q i j e =
      contains_cases (p ≡ q) r rs p i
      (λ a. contains_cases (p ≡ q) r rs q j (λ b. sym a ∙ b) (λ b. absurd (h (inl (subst (λ t. Contains (ids rs) t) (sym e ∙ ap (λ (z : Policy). z.id) (sym a)) (map_has (λ (z : Policy). z.id) rs q b))))))
      (λ a. contains_cases (p ≡ q) r rs q j (λ b. absurd (h (inl (subst (λ t. Contains (ids rs) t) (e ∙ ap (λ (z : Policy). z.id) (sym b)) (map_has (λ (z : Policy). z.id) rs p a))))) (λ b. one_of_id rs (λ k. h (inr k)) p q a b e))

  module _ (takes : Policy → Bool) where
    abbrev ids_taken : List Text
    ids_taken = ids (filter takes ps)

    is_taken : (p : Policy) → Contains ps p → list_any (bytes_eq p.id) ids_taken ≡ takes p
    is_taken p k = by_test (takes p) refl (list_any (bytes_eq p.id) ids_taken) refl
      where
        by_test : (a : Bool) → takes p ≡ a → (b : Bool) → list_any (bytes_eq p.id) ids_taken ≡ b → list_any (bytes_eq p.id) ids_taken ≡ takes p
        by_test true e b f = any_has (bytes_eq p.id) ids_taken p.id (map_has (λ (z : Policy). z.id) (filter takes ps) p (filter_has takes ps p k e)) ((bytes_eq-Decides p.id p.id).1 refl) ∙ sym e
        by_test false e false f = f ∙ sym e
        by_test false e true f =
            let r = any_from (bytes_eq p.id) ids_taken f in
            let q = map_from (λ (z : Policy). z.id) (filter takes ps) r.0 r.1 in
            let m = filter_only takes ps q.0 q.1 in
            let same = one_of_id ps once p q.0 k m.0 ((bytes_eq-Decides p.id r.0).0 r.2 ∙ sym q.2) in
            let lie : false ≡ true = sym e ∙ ap takes same ∙ m.1 in
            cc

    kept_ids : (qs : List Policy) (is : List Text) → ((p : Policy) → Contains qs p → list_any (bytes_eq p.id) is ≡ takes p) → filter (λ i. list_any (bytes_eq i) is) (ids qs) ≡ ids (filter takes qs)
    kept_ids [] is h = refl
    kept_ids (q ∷ qs) is h =
        let rest = kept_ids qs is (λ p k. h p (contains_tail q qs p k)) in
        (λ i. cond (h q (contains_head q qs) i) (q.id ∷ rest i) (rest i)) ∙ next (takes q)
      where
        next : (b : Bool) → cond b (q.id ∷ ids (filter takes qs)) (ids (filter takes qs)) ≡ ids (cond b (q ∷ filter takes qs) (filter takes qs))
        next true = refl
        next false = refl

    ordered : in_order ps ids_taken ≡ ids_taken
    ordered = kept_ids ps ids_taken is_taken

  both_ordered : (qs rs : List Policy) → in_order ps (ids qs) ≡ ids qs → in_order ps (ids rs) ≡ ids rs → in_order ps (ids (determining qs rs)) ≡ ids (determining qs rs)
  both_ordered qs [] h k = h
  both_ordered qs (r ∷ rs) h k = k

  pub reasons_ordered : (w : World) → in_order ps (reasons_of w ps) ≡ reasons_of w ps
  reasons_ordered w =
      both_ordered (satisfied_permits w ps) (satisfied_forbids w ps) (ordered (λ p. permits p.effect && satisfied w p)) (ordered (λ p. not (permits p.effect) && satisfied w p))

-- without residuals what may determine the decision is what must
may_is_must : (tp tf : List Noted) (rp rf : List (Noted × Tree)) → rp ≡ [] → rf ≡ []
    → if_none tf (of_true permit tp ++ (of_residual permit rp ++ of_residual forbid rf)) (of_true forbid tf ++ of_residual forbid rf) ≡ if_none tf (if_none rf (of_true permit tp) (of_true forbid tf)) (of_true forbid tf)
may_is_must tp tf rp rf e f =
    (λ i. if_none tf (of_true permit tp ++ (of_residual permit (e i) ++ of_residual forbid (f i))) (of_true forbid tf ++ of_residual forbid (f i)))
    ∙ (λ i. if_none tf (append-nil (of_true permit tp) i) (append-nil (of_true forbid tf) i))
    ∙ (λ i. if_none tf (if_none (sym f i) (of_true permit tp) (of_true forbid tf)) (of_true forbid tf))

none_there : {A : Type 0} (xs : List A) → ((x : A) → Contains xs x → ⊥) → xs ≡ []
none_there [] h = refl
none_there (x ∷ xs) h = absurd (h x (contains_head x xs))

never_residual : (o : _) (l : Left) (r : Tree) → SameVerdict o l → l ≡ residual r → ⊥
never_residual o l r (inl (b, x, y)) e = let lie : truth_left b ≡ residual r = sym y ∙ e in cc
never_residual o l r (inr (f, x, y)) e = let lie : errs f ≡ residual r = sym y ∙ e in cc

some_of : {A : Type 0} (o : Option A) → (o ≡ None → ⊥) → IsSome o
some_of None h = absurd (h refl)
some_of (Some a) h = refl

module _ (c : Course) (admitted : IsAdmitted c) (s : State) (start : IsOpened (session_of c) s) (all : HasOpenName c.start s → ⊥) where
  abbrev x : Setup
  x = session_of c

  abbrev ps : List Policy
  ps = c.submission.policies

  abbrev mine : State
  mine = bare_state x start.opened s start.bound

  abbrev taken : Stands x mine
  taken = stands x start.opened s start.bound

  -- what was open is bound
  name_bound : (n : Text) (o : Option Made) → value_of s n ≡ o → (is_open_entry (entry_named x.start n) || is_open_context x.start.context n) ≡ true → IsSome o
  name_bound n (Some m) e h = refl
  name_bound n None e h = absurd (all (n, ap (λ z. not (is_some z) && (is_open_entry (entry_named x.start n) || is_open_context x.start.context n)) e ∙ h))

  uid_there : (n : Text) (k : Option Name) → entry_named x.start n ≡ Some (unknown_uid k) → (o : Option Made) → value_of s n ≡ o → IsSome (uid_in o)
  uid_there n k q None e = name_bound n None e (hold_left (is_open_entry (entry_named x.start n)) (is_open_context x.start.context n) (ap is_open_entry q))
  uid_there n k q (Some m) e = some_of (uid_in (Some m)) (λ no. ((taken_value x mine taken n m e).0).right (inl (ap is_some q, no)))

  entry_there : (n : Text) (e : Entry) → entry_named x.start n ≡ Some e → IsSome (known_entry (entry_now s n e))
  entry_there n (uid u) q = refl
  entry_there n (unknown_uid k) q = subst (λ (o : Option Uid). IsSome o) (sym (entry_value k (uid_in (value_of s n)))) (uid_there n k q (value_of s n) refl)

  -- the context
  context_bound : (o : Option Made) → x.start.context ≡ unknown_context → value_of s (codes "context") ≡ o → IsSome (known_context (bound_context o))
  context_bound None is e =
      let none : None ≡ value_of s (codes "context") = sym e in
      let m = there (value_of s (codes "context")) (name_bound (codes "context") (value_of s (codes "context")) refl (hold_right (is_open_entry (entry_named x.start (codes "context"))) (is_open_context x.start.context (codes "context")) (ap (λ k. is_open_context k (codes "context")) is))) in
      let lie : None ≡ Some m.0 = none ∙ m.1 in
      cc
  context_bound (Some (made_record gs)) is e = refl
  context_bound (Some m) is e = absurd (((taken_value x mine taken (codes "context") m e).0).right (inr (refl, tt)))

  module _ (fs : TreeFields) (is : x.start.context ≡ residual_fields fs) (made : (has_unknown (record_literal fs) ≡ true) × (is_restricted (record_literal fs) ≡ true)) where
    abbrev fields : Tree
    fields = record_literal fs

    value_there : (u : Unknown) → Contains (unknowns fields) u → (m : Made) × (value_of s u.name ≡ Some m)
    value_there u k =
        let was_open : is_open_context x.start.context u.name ≡ true = ap (λ z. is_open_context z u.name) is ∙ any_has (λ (v : Unknown). bytes_eq u.name v.name) (unknowns fields) u k ((bytes_eq-Decides u.name u.name).1 refl) in
        there (value_of s u.name) (name_bound u.name (value_of s u.name) refl (hold_right (is_open_entry (entry_named x.start u.name)) (is_open_context x.start.context u.name) was_open))

    nothing_bound : s.bound ≡ [] → ⊥
    nothing_bound e =
        let u = some_unknown_of fields made.0 in
        let v = value_there u.0 u.1 in
        let none : value_of s (u.0).name ≡ None = ap (λ bs. lookup (bytes_eq (u.0).name) bs) e in
        let lie : None ≡ Some v.0 = sym none ∙ v.1 in
        cc

    by_left : (l : Left) → context_left x.functions s fs ≡ l → IsSome (known_context (left_context l))
    by_left (value_left m) e =
        let r = record_evaluated (with_functions x.functions) 512 (tree_fields (built_fields (puts (value_of s)) fs)) m e in
        subst (λ z. IsSome (known_context (left_context (value_left z)))) r.1 refl
    by_left (residual r) e =
        let clear = none_is _ made.1 in
        let none = bound_leaves_none (value_of s) fields (λ u k. value_there u k) in
        absurd (subst (IsShut (with_functions x.functions) (calls_leave_nothing c admitted)) e (evaluated_shut (with_functions x.functions) (calls_leave_nothing c admitted) 512 (substituted (value_of s) fields) (substituted_restricted (value_of s) fields clear) none))
    by_left (stopped why) e = ⊎_elim (λ k. absurd (nothing_bound k)) (λ k. absurd (k (subst (ContextFails x.functions mine) (sym is) (why, e)))) (sound_of x start.opened s.bound start.bound)

  context_there : (k : Context) → x.start.context ≡ k → IsMadeContext k → IsSome (known_context (context_now x.functions s k))
  context_there (closed fs) is made = refl
  context_there (residual_fields fs) is made = by_left fs is made (context_left x.functions s fs) refl
  context_there unknown_context is made = context_bound (value_of s (codes "context")) is refl

  abbrev known : World
  known = known_now x s

  abbrev now : World
  now = world_now x s

  -- the request is known
  principal_there : IsSome now.principal
  principal_there = entry_there (codes "principal") x.start.principal refl

  action_there : IsSome now.action
  action_there = entry_there (codes "action") x.start.action refl

  resource_there : IsSome now.resource
  resource_there = entry_there (codes "resource") x.start.resource refl

  request_there : IsSome now.context
  request_there = context_there x.start.context refl admitted.context

  module _ (store : Uid → Found Made) (stands_on : IsKnownStore c s store) where
    abbrev scope : Scope
    scope = scope_now x s store

    same : (u : Uid) → known_found (store u) ≡ known.store u
    same = stands_on.known

    nothing_unknown : NothingUnknown scope
    nothing_unknown = record {
      principal = principal_there;
      action = action_there;
      resource = resource_there;
      context = request_there;
      store = λ u. subst HoldsValues (sym (same u)) (known_values x s u (admitted.store u));
      calls = leaves_nothing c admitted;
    }

    -- no policy meets the limit
    none_limited : met_limit (response_of scope c.submission.limit ps) ≡ false
    none_limited =
        let within : (p : Policy) → Contains ps p → WithinLimit scope c.submission.limit p =
        λ p k. ((each_in _ (condition p)).1 (none_unknown (condition p) (none_has_unknowns c admitted p k) _), ((accepted_good c.submission admitted.accepted).each p k).shallow) in
        none_met scope (admitted.fair).agrees nothing_unknown c.submission.limit ps (each_all (WithinLimit scope c.submission.limit) ps within)

    pub bounds_owed : IsSome (bounds_now c s store)
    bounds_owed =
        let r = response_of scope c.submission.limit ps in
        let given : Bounds = record { must = in_order ps (ids (must_be_determining r)); may = in_order ps (ids (may_be_determining r)) } in
        subst (λ b. IsSome (cond b None (Some given))) (sym none_limited) refl

    -- where what is looked up is known, so is what a policy means
    module _ (lookups : HoldsLookups c s) where
      abbrev kw : World
      kw = known_world scope

      looked_up : (p : Policy) → Contains ps p → (u : Uid) → Looks (with_slots now p.bindings) (condition p) u → known.store u ≡ now.store u
      looked_up p k u l = known_whole x s u (lookups p u k l)

      pub record MeansBoth (p : Policy) : Type 0 where
        pub outcome : Res _
        pub whole : Means (with_slots now p.bindings) (condition p) outcome
        pub part : Means (with_slots kw p.bindings) (condition p) outcome

      means : (p : Policy) → Contains ps p → MeansBoth p
      means p k =
          let u = with_slots now p.bindings in
          let none = (each_in (λ n a. IsSome (u.unknowns n)) (condition p)).1 (none_unknown (condition p) (none_has_unknowns c admitted p k) (λ n a. IsSome (u.unknowns n))) in
          let o = what_is_there (outcome_of u (condition p)) (settled_there u (leaves_nothing c admitted) principal_there action_there resource_there request_there (store_settled x admitted.store) (condition p) none) in
          let m = outcome_means u (condition p) o.0 o.1 in
          let n = (same_means u known.store (condition p) (looked_up p k) o.0).0 m in
          record { outcome = o.0; whole = m; part = subst (λ z. Means (with_slots z p.bindings) (condition p) o.0) (known_same c s store admitted same) n }

      verdicts : (p : Policy) → Contains ps p → Same kw scope c.submission.limit p
      verdicts p k =
          let m = means p k in
          let r = ready c s store admitted same none_limited in
          let t = with_bindings scope p.bindings in
          let fits = (each_in (λ n a. Fits a (kw.unknowns n)) (condition p)).1 (none_unknown (condition p) (none_has_unknowns c admitted p k) (λ n a. Fits a (kw.unknowns n))) in
          same_verdict _ m.outcome (outcome_of (with_slots kw p.bindings) (condition p)) (evaluated t c.submission.limit (condition p)) (means_outcome (with_slots kw p.bindings) (condition p) m.outcome m.part)
          (owed_unless_limit t r.agrees r.unbound c.submission.limit (condition p) fits (no_limit_within scope c.submission.limit p (not_met scope c.submission.limit ps none_limited p k)) m.outcome m.part)

      answers : answer_of kw ps ≡ answer_of now ps
      answers =
          same_answers kw now ps
          (λ p k.
          let m = means p k in
          condition_asked kw p ∙ means_outcome (with_slots kw p.bindings) (condition p) m.outcome m.part ∙ sym (means_outcome (with_slots now p.bindings) (condition p) m.outcome m.whole) ∙ sym (condition_asked now p))

      no_residual : (d : Effect) → group d (λ p. if_residual p (verdict scope c.submission.limit p)) ps ≡ []
      no_residual d =
          none_there (group d (λ p. if_residual p (verdict scope c.submission.limit p)) ps)
          (λ a k.
          let r = group_from d (λ p. if_residual p (verdict scope c.submission.limit p)) ps a k in
          let o = residual_only r.0 (verdict scope c.submission.limit r.0) a r.3 in
          never_residual (policy_outcome kw r.0) (verdict scope c.submission.limit r.0) a.1 (verdicts r.0 r.1) o.0)

      pub bounds_are_reasons : bounds_now c s store ≡ Some (record { must = reasons_of now ps; may = reasons_of now ps })
      bounds_are_reasons =
          let q = response_of scope c.submission.limit ps in
          let rs = reasons_of now ps in
          let must : ids (must_be_determining q) ≡ rs = ap (λ z. z.reasons) (response_is_answer kw scope c.submission.limit ps (each_all (Same kw scope c.submission.limit) ps verdicts)) ∙ ap (λ z. z.reasons) answers in
          let may : ids (may_be_determining q) ≡ rs = ap ids (may_is_must q.true_permits q.true_forbids q.residual_permits q.residual_forbids (no_residual permit) (no_residual forbid)) ∙ must in
          let order = reasons_ordered ps ((acceptance_reads c.submission).0 admitted.accepted).distinct now in
          (λ i. cond (none_limited i) None (Some (record { must = in_order ps (must i); may = in_order ps (may i) }))) ∙ (λ i. Some (record { must = order i; may = order i }))

-- what bounds of evaluating in part keep
pub bounds_kept : (c : Course) (s : State) (b : Option Bounds) → IsAdmitted c → MakeFairly c.functions → IsOpened (session_of c) s → BoundsInPart c s b → KeepsBounds c s b
bounds_kept c s b admitted fair start (store, known, e) = record {
  hold = λ given is w complete. given_bounds_hold c s store admitted fair start known given (sym e ∙ is) w complete;
  owed = λ all. subst (λ (o : Option Bounds). IsSome o) (sym e) (bounds_owed c admitted s start all store known);
  reasons = λ all lookups. e ∙ bounds_are_reasons c admitted s start all store known lookups;
}

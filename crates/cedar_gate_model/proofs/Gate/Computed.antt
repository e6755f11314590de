-- The worked examples that aren't equations which compute by themselves.
use Rattle.std.proofs.Common.{◌≡◌, ◌∙◌, Bool, true, false, cond, not, ◌&&◌, ◌||◌, [], ◌∷◌, ◌++◌, Option, Some, None, codes, inl, inr, ⊎_elim, refl, sym, ap, subst, arith}
use Rattle.std.specs.Prelude.{Contains}
use Rattle.std.specs.Str.{bytes_eq, chars}
use Rattle.std.specs.Fmt.{digits}
use Rattle.cedar_expr_model.specs.Uids.{is_uid}
use Rattle.cedar_expr_model.specs.Name.{Text, Name}
use Rattle.cedar_expr_model.specs.Uid.{Uid}
use Rattle.cedar_expr_model.specs.Value.{truth_value}
use Rattle.std.proofs.lemmas.Slice.Eq.{bytes_eq-Decides}
use Rattle.cedar_expr_model.proofs.Equality.{name_eq-Decides, uid_eq-Decides}
use Rattle.cedar_expr_model.proofs.Lists.{any_has, contains_cases, contains_none, contains_head, contains_tail}
use Rattle.cedar_store_model.specs.Outcome.{Fault, missing_entity, val, err}
use Rattle.cedar_store_model.specs.World.{World, held, missing}
use Rattle.cedar_store_model.specs.Knowledge.{IsSettled, IsWhole}
use Rattle.cedar_schema_model.specs.Schema.{Schema, declares_action}
use Rattle.cedar_schema_model.specs.ActionEntities.{as_entity}
use Rattle.cedar_store_model.specs.Policy.{Policy, permit, forbid}
use Rattle.cedar_store_model.specs.Answer.{allow, deny, policy_outcome, answer_of}
use Rattle.cedar_store_model.proofs.Conditions.{policy_meaning_is_a_function}
use Rattle.cedar_schema_model.proofs.Decls.Conforming.{request_conforms-Decides}
use Rattle.cedar_typechecker_model.specs.Worked.{user, doc, user_a, small, no_table}
use Rattle.cedar_evaluator_model.specs.Scope.{uid, unknown_uid}
use Rattle.cedar_gate_model.specs.Acceptance.{IsAccepted, reaches_too_far}
use Rattle.cedar_gate_model.specs.Moment.{Completes, request_of}
use Rattle.cedar_gate_model.specs.GateLaws.{Holds}
use Rattle.cedar_gate_model.specs.Owed.{IsForcedFalse, IsForced}
use Rattle.cedar_gate_model.specs.Session.{Setup, at_start, OpenFault, quote_in_name, name_of_variable, AnswerFault, AnswerRefusal, not_bound, still_wanted, not_conforming, OpenRefusal, HasOpenName, is_open_entry, world_now}
use Rattle.cedar_gate_model.specs.Runs.{answered, answer_refused}
use Rattle.cedar_gate_model.specs.Lines.{is_answered, is_refused, is_stopped, setup_of, Prints}
use Rattle.cedar_gate_model.specs.WorkedGate.{p0, p1, p2, p3, by_a, asking, open_named, user_text, no_functions, lines, in_quotes, good_bundle, far_bundle, open_bundle, nothing_known, nobody_known, after_a_round, after_an_absence, reviewed, bounds, by_a_on_b, nobody_there, user_b}
use Rattle.cedar_gate_model.proofs.Gate.Accepting.{admitted_accepted, faults_exclude}
use Rattle.cedar_gate_model.proofs.Named.{IsForcedTrue}

-- openings
pub no_open_fault : (o : OpenRefusal) → OpenFault by_a o → ⊥
no_open_fault quote_in_name h = contains_none h.0 h.1
no_open_fault name_of_variable h = contains_none h.0 h.1

pub has_quote : OpenFault (asking (uid user_a) (open_named (user_text (codes "a")))) quote_in_name
has_quote = (record { name = user_text (codes "a"); annotation = None }, (0, omega arith, refl), (6, omega arith, refl))

pub is_variable : OpenFault (asking (uid user_a) (open_named (codes "principal"))) name_of_variable
is_variable = (record { name = codes "principal"; annotation = None }, (0, omega arith, refl), (0, omega arith, refl))

-- forced decisions
forced_true : (k : World) (p : Policy) → policy_outcome k p ≡ Some (val (truth_value true)) → IsForcedTrue k p
forced_true k p e = (policy_meaning_is_a_function k p (val (truth_value true))).1 e

forced_false : (k : World) (p : Policy) → policy_outcome k p ≡ Some (val (truth_value false)) → IsForcedFalse k p
forced_false k p e = (val (truth_value false), (policy_meaning_is_a_function k p (val (truth_value false))).1 e, λ q. cc)

forced_error : (k : World) (p : Policy) (f : Fault) → policy_outcome k p ≡ Some (err f) → IsForcedFalse k p
forced_error k p f e = (err f, (policy_meaning_is_a_function k p (err f)).1 e, λ q. cc)

not_known : (k : World) (p : Policy) → policy_outcome k p ≡ None → IsForcedFalse k p → ⊥
not_known k p e h = let q = (policy_meaning_is_a_function k p h.0).0 h.1 in cc

never_true : (k : World) (p : Policy) → policy_outcome k p ≡ None → IsForcedTrue k p → ⊥
never_true k p e h = let q = (policy_meaning_is_a_function k p (val (truth_value true))).0 h in cc

-- a permit is no forbid
effects_differ : permit ≡ forbid → ⊥
effects_differ e = cc

pub forbidden : IsForced nobody_known (p3 ∷ []) deny
forbidden = inl (p3, contains_head p3 [], refl, forced_true nobody_known p3 refl)

pub permitted : IsForced nothing_known (p0 ∷ p1 ∷ []) allow
permitted = (
  (p1, contains_tail p0 (p1 ∷ []) p1 (contains_head p1 []), refl, forced_true nothing_known p1 refl),
  λ p k e. contains_cases (IsForcedFalse nothing_known p) p0 (p1 ∷ []) p k (λ q. absurd (effects_differ (ap (λ (z : Policy). z.effect) q ∙ e)))
      (λ m. contains_cases (IsForcedFalse nothing_known p) p1 [] p m (λ q. absurd (effects_differ (ap (λ (z : Policy). z.effect) q ∙ e))) (λ n. absurd (contains_none p n))),
)

pub permitted_later : IsForced after_a_round (p0 ∷ p1 ∷ p2 ∷ []) allow
permitted_later = (
  (p1, contains_tail p0 (p1 ∷ p2 ∷ []) p1 (contains_head p1 (p2 ∷ [])), refl, forced_true after_a_round p1 refl),
  λ p k e. contains_cases (IsForcedFalse after_a_round p) p0 (p1 ∷ p2 ∷ []) p k (λ q. absurd (effects_differ (ap (λ (z : Policy). z.effect) q ∙ e)))
      (λ m. contains_cases (IsForcedFalse after_a_round p) p1 (p2 ∷ []) p m (λ q. absurd (effects_differ (ap (λ (z : Policy). z.effect) q ∙ e)))
      (λ n. contains_cases (IsForcedFalse after_a_round p) p2 [] p n (λ q. subst (IsForcedFalse after_a_round) q (forced_false after_a_round p2 refl)) (λ n. absurd (contains_none p n)))),
)

p0_alone : (p : Policy) → Contains (p0 ∷ []) p → p0 ≡ p
p0_alone p k = contains_cases (p0 ≡ p) p0 [] p k (λ q. q) (λ n. absurd (contains_none p n))

pub denied_by_absence : IsForced after_an_absence (p0 ∷ []) deny
denied_by_absence = inr (λ p k e. subst (IsForcedFalse after_an_absence) (p0_alone p k) (forced_error after_an_absence p0 (missing_entity user_b) refl))

pub not_denied : IsForced nothing_known (p0 ∷ []) deny → ⊥
not_denied h =
    ⊎_elim (λ s. effects_differ (ap (λ (z : Policy). z.effect) (p0_alone s.0 s.1) ∙ s.2))
    (λ n. not_known nothing_known p0 refl (n p0 (contains_head p0 []) refl)) h

pub not_allowed : IsForced nothing_known (p0 ∷ []) allow → ⊥
not_allowed h = never_true nothing_known p0 refl (subst (IsForcedTrue nothing_known) (sym (p0_alone h.0.0 h.0.1)) h.0.3)

pub not_yet : IsForced nothing_known (p0 ∷ p1 ∷ p2 ∷ []) allow → ⊥
not_yet h = not_known nothing_known p2 refl (h.1 p2 (contains_tail p0 (p1 ∷ p2 ∷ []) p2 (contains_tail p1 (p2 ∷ []) p2 (contains_head p2 []))) refl)

-- whole outputs
pub no_entry_open : (a b c : Bool) (p q r : Uid) → is_open_entry (cond a (Some (uid p)) (cond b (Some (uid q)) (cond c (Some (uid r)) None))) ≡ false
no_entry_open true b c p q r = refl
no_entry_open false true c p q r = refl
no_entry_open false false true p q r = refl
no_entry_open false false false p q r = refl

abbrev good_setup : Setup
good_setup = setup_of no_functions good_bundle

pub none_open : (n : Text) (t : Bool) → t ≡ false → (not false && (t || false)) ≡ true → ⊥
none_open n t e h = cc

no_open_name : HasOpenName good_setup.start at_start → ⊥
no_open_name h = none_open h.0 _ (no_entry_open (bytes_eq h.0 (codes "principal")) (bytes_eq h.0 (codes "action")) (bytes_eq h.0 (codes "resource")) _ _ _) h.1

no_answer_fault : (f : AnswerRefusal) → AnswerFault good_setup at_start f → ⊥
no_answer_fault not_bound h = no_open_name h
no_answer_fault still_wanted h = h.1.0.0
no_answer_fault not_conforming h = h.1 ((request_conforms-Decides good_setup.schema (request_of (world_now good_setup at_start))).0 refl)

good_accepted : IsAccepted good_bundle.submission
good_accepted = admitted_accepted good_bundle.submission refl

no_fault_at_opening : (o : OpenRefusal) → OpenFault good_setup.start o → ⊥
no_fault_at_opening quote_in_name h = contains_none h.0 h.1
no_fault_at_opening name_of_variable h = contains_none h.0 h.1

no_fault_open : (o : OpenRefusal) → OpenFault open_bundle.start o → ⊥
no_fault_open quote_in_name h = contains_none h.0 h.1
no_fault_open name_of_variable h = contains_none h.0 h.1

pub answers : Prints no_functions (Some good_bundle) is_answered (lines (codes "answer Allow" ∷ (codes "reason " ++ in_quotes (codes "p")) ∷ []))
unfolding chars digits
answers = (good_accepted, ([], answered (answer_of (world_now good_setup at_start) good_bundle.submission.policies), (no_fault_at_opening, (λ u k. k.0.0, no_answer_fault, refl)), refl, refl))

pub refuses : Prints no_functions (Some far_bundle) is_refused (lines (codes "refused 12" ∷ []))
unfolding chars digits
refuses = (reaches_too_far, (tt, refl, λ e. refl), refl)

pub stops : Prints no_functions (Some open_bundle) is_stopped (lines (codes "answer 1" ∷ []))
unfolding chars digits
stops = (admitted_accepted open_bundle.submission refl, ([], answer_refused not_bound, (no_fault_open, (λ u k. k.0.0, (codes "principal", refl))), refl, refl))

pub no_refusal : Prints no_functions (Some good_bundle) is_refused (lines (codes "refused 12" ∷ [])) → ⊥
no_refusal h = faults_exclude h.0 good_bundle.submission h.1 good_accepted

-- bounds
pub both_bounds_hold : Holds (bounds (codes "p1" ∷ []) (codes "p0" ∷ codes "p1" ∷ [])) reviewed (p0 ∷ p1 ∷ p2 ∷ [])
both_bounds_hold = record {
  within = λ id k. contains_tail (codes "p0") (codes "p1" ∷ []) id k;
  covers = λ id k. k;
}

differ_p2 : (id : Text) → codes "p2" ≡ id → Contains (codes "p0" ∷ codes "p1" ∷ []) id → ⊥
differ_p2 id e k = let t = any_has (bytes_eq (codes "p2")) (codes "p0" ∷ codes "p1" ∷ []) id k ((bytes_eq-Decides (codes "p2") id).1 e) in cc

pub too_much : Holds (bounds (codes "p2" ∷ []) (codes "p0" ∷ codes "p1" ∷ [])) reviewed (p0 ∷ p1 ∷ p2 ∷ []) → ⊥
too_much h = differ_p2 (codes "p2") refl (h.within (codes "p2") (contains_head (codes "p2") []))

pub too_little : Holds (bounds [] (codes "p0" ∷ [])) reviewed (p0 ∷ p1 ∷ p2 ∷ []) → ⊥
too_little h =
    let k = h.covers (codes "p1") (contains_tail (codes "p0") (codes "p1" ∷ []) (codes "p1") (contains_head (codes "p1") [])) in
    let t = any_has (bytes_eq (codes "p1")) (codes "p0" ∷ []) (codes "p1") k refl in cc

-- completions
abbrev good_schema : Schema
good_schema = good_setup.schema

settled_at : (u : Uid) (t i : Bool) → IsSettled (cond t (held (as_entity good_schema u)) (cond i missing missing))
settled_at u true i = refl
settled_at u false true = tt
settled_at u false false = tt

stands_at : (u : Uid) (t i : Bool) → t ≡ true → cond t (held (as_entity good_schema u)) (cond i missing missing) ≡ held (as_entity good_schema u)
stands_at u true i e = refl
stands_at u false i e = cc

nothing_at : (u : Uid) (t i : Bool) → t ≡ false → cond t (held (as_entity good_schema u)) (cond i missing missing) ≡ missing
nothing_at u true i e = cc
nothing_at u false true e = refl
nothing_at u false false e = refl

nobody_is_whole : IsWhole nobody_there
nobody_is_whole = record { principal = refl; action = refl; resource = refl; context = refl; unknowns = λ n. refl; store = λ u. settled_at u (declares_action good_schema u) (is_uid u) }

pub completed : Completes good_schema no_table 0 by_a_on_b nobody_there
completed = record {
  whole = nobody_is_whole;
  principal = refl;
  action = refl;
  resource = refl;
  context = refl;
  table = refl;
  request = (request_conforms-Decides good_schema (request_of nobody_there)).0 refl;
  actions = λ u e. stands_at u (declares_action good_schema u) (is_uid u) e;
  uids = λ u e i. nothing_at u (declares_action good_schema u) (is_uid u) e;
  slice = λ u e i. absurd i.0;
}

pub of_type : Completes good_schema no_table 0 (record by_a_on_b { principal = unknown_uid (Some user) }) nobody_there
of_type = record {
  whole = nobody_is_whole;
  principal = (user_a, refl, refl);
  action = refl;
  resource = refl;
  context = refl;
  table = refl;
  request = completed.request;
  actions = completed.actions;
  uids = completed.uids;
  slice = completed.slice;
}

uid_or : Option Uid → Uid
uid_or (Some u) = u
uid_or None = user_a

kind_in : Option Uid → Name
kind_in (Some u) = u.kind
kind_in None = user

kinds_differ : (u : Uid) → Some user_a ≡ Some u → u.kind ≡ doc → ⊥
unfolding kind_in
kinds_differ u e k = let q = (name_eq-Decides user doc).1 (ap (λ o. kind_in o) e ∙ k) in cc

pub of_other_type : Completes good_schema no_table 0 (record by_a_on_b { principal = unknown_uid (Some doc) }) nobody_there → ⊥
of_other_type h = let p = h.principal in kinds_differ p.0 p.1 p.2

pub of_other_uid : Completes good_schema no_table 0 (record by_a_on_b { principal = uid user_b }) nobody_there → ⊥
unfolding uid_or
of_other_uid h = let q = (uid_eq-Decides user_a user_b).1 (ap uid_or h.principal) in cc

pub not_conforming_there : Completes small no_table 0 by_a_on_b nobody_there → ⊥
not_conforming_there h = let q = (request_conforms-Decides small (request_of nobody_there)).1 h.request in cc

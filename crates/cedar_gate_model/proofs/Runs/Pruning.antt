-- Policies that are irrelevant for a request's types, or warned of, don't decide; and policies in another order are accepted alike.
use Rattle.std.proofs.Common.{◌≡◌, ◌∙◌, Bool, true, false, cond, not, ◌&&◌, List, [], ◌∷◌, Some, inl, inr, refl, sym, ap, subst}
use Rattle.std.specs.Prelude.{Contains}
use Rattle.std.specs.Bool.{Decides}
use Rattle.std.specs.List.{filter}
use Rattle.std.specs.List.Sorted.{IsPermutation}
use Rattle.std.proofs.lemmas.List.Sorted.{IsPermutation-sym, IsPermutation-map, Contains-permutation}
use Rattle.std.specs.Str.{bytes_eq}
use Rattle.std.proofs.lemmas.Slice.Eq.{bytes_eq-Decides}
use Rattle.cedar_expr_model.specs.Name.{Text}
use Rattle.cedar_expr_model.proofs.Lists.{contains_head, contains_tail, contains_cases, contains_none, map_has, filter_only}
use Rattle.cedar_store_model.specs.World.{World}
use Rattle.cedar_store_model.specs.Policy.{Policy}
use Rattle.cedar_store_model.specs.Answer.{Answer, IsSatisfied, satisfied, permits, ids, decided, determining, decision_of, reasons_of}
use Rattle.cedar_store_model.proofs.Conditions.{satisfied-Decides}
use Rattle.cedar_store_model.proofs.Reports.{reasons_are_those}
use Rattle.cedar_schema_model.specs.BagLaws.{HasTwice}
use Rattle.cedar_schema_model.proofs.Decls.Reordered.{twice_moved}
use Rattle.cedar_typechecker_model.specs.Verdicts.{RequestType, irrelevant_for}
use Rattle.cedar_typechecker_model.proofs.Sound.Policies.{conforming, irrelevant_is_sound}
use Rattle.cedar_typechecker_model.proofs.Verdicts.{irrelevant-Decides}
use Rattle.cedar_gate_model.specs.Acceptance.{Submission, IsAccepted, schema_in, warnings_of}
use Rattle.cedar_gate_model.specs.SliceSoundness.{IsFitFor}
use Rattle.cedar_gate_model.specs.Transcript.{Entry}
use Rattle.cedar_gate_model.specs.Runs.{answered}
use Rattle.cedar_gate_model.specs.RunsAsk.{end_state}
use Rattle.cedar_gate_model.specs.RunsAnswer.{Course, IsProper, MayRun, with_unknowns}
use Rattle.cedar_gate_model.specs.RunsAlike.{course_world, with_policies, IsOfTypes, kept_for}
use Rattle.cedar_gate_model.proofs.Gate.Accepting.{acceptance_reads, accepted_good, warned_are_impossible}
use Rattle.cedar_gate_model.proofs.Gate.Reach.{orderly, accepted_conform, accepted_are_sound}
use Rattle.cedar_gate_model.proofs.Runs.Alike.{ends_are_the_courses, course_answer}
use Rattle.cedar_gate_model.proofs.Runs.Answering.{at_end, fit}
use Rattle.cedar_gate_model.proofs.Runs.Deciding.{unknowns_say_nothing, none_has_unknowns, leaves_nothing}

-- what is dropped passes no test
dropped_case : (f : Policy → Bool) (p : Policy) (rest all : List Policy) (b : Bool) → (b ≡ false → f p ≡ false) → filter f rest ≡ filter f all → filter f (cond b (p ∷ rest) rest) ≡ filter f (p ∷ all)
dropped_case f p rest all true h e = ap (λ l. cond (f p) (p ∷ l) l) e
dropped_case f p rest all false h e = e ∙ ap (λ t. cond t (p ∷ filter f all) (filter f all)) (sym (h refl))

filter_dropped : (f g : Policy → Bool) (ps : List Policy) → ((p : Policy) → Contains ps p → g p ≡ false → f p ≡ false) → filter f (filter g ps) ≡ filter f ps
filter_dropped f g [] h = refl
filter_dropped f g (p ∷ ps) h = dropped_case f p (filter g ps) ps (g p) (h p (contains_head p ps)) (filter_dropped f g ps (λ q k. h q (contains_tail p ps q k)))

both_false : (a b : Bool) → b ≡ false → (a && b) ≡ false
both_false true b e = e
both_false false b e = refl

-- where the dropped policies aren't satisfied the others decide alone
dropped_decide : (w : World) (g : Policy → Bool) (ps : List Policy) → ((p : Policy) → Contains ps p → g p ≡ false → satisfied w p ≡ false)
    → (decision_of w (filter g ps) ≡ decision_of w ps) × (reasons_of w (filter g ps) ≡ reasons_of w ps)
dropped_decide w g ps h =
    let allowing = filter_dropped (λ (p : Policy). permits p.effect && satisfied w p) g ps (λ p k e. both_false (permits p.effect) (satisfied w p) (h p k e)) in
    let denying = filter_dropped (λ (p : Policy). not (permits p.effect) && satisfied w p) g ps (λ p k e. both_false (not (permits p.effect)) (satisfied w p) (h p k e)) in
    (λ i. decided (allowing i) (denying i), λ i. ids (determining (allowing i) (denying i)))

unsatisfied : {P : Type 0} (b : Bool) → Decides b P → (P → ⊥) → b ≡ false
unsatisfied true d h = absurd (h (d.0 refl))
unsatisfied false d h = refl

not_false : (b : Bool) → not b ≡ false → b ≡ true
not_false true e = refl
not_false false e = cc

-- policies of one id are one
id_case : (p : Policy) (ps : List Policy) → (HasTwice (p.id ∷ ids ps) → ⊥) → (q : Policy) → Contains ps q → p.id ≡ q.id → ⊥
id_case p ps once q k e = once (inl (subst (λ z. Contains (ids ps) z) (sym e) (map_has (λ (r : Policy). r.id) ps q k)))

one_policy : (ps : List Policy) → (HasTwice (ids ps) → ⊥) → (p q : Policy) → Contains ps p → Contains ps q → p.id ≡ q.id → p ≡ q
one_policy [] once p q h k e = absurd (contains_none p h)
one_policy (r ∷ ps) once p q h k e =
    contains_cases (p ≡ q) r ps p h
    (λ i. contains_cases (p ≡ q) r ps q k (λ j. sym i ∙ j) (λ m. absurd (id_case r ps once q m (ap (λ (z : Policy). z.id) i ∙ e))))
    (λ m. contains_cases (p ≡ q) r ps q k (λ j. absurd (id_case r ps once p m (ap (λ (z : Policy). z.id) j ∙ sym e))) (λ n. one_policy ps (λ t. once (inr t)) p q m n e))

module _ (c : Course) (proper : IsProper c) (es : List Entry) (a : Answer) (run : MayRun c es (answered a)) where
  abbrev whole : World
  whole = with_unknowns (course_world c)

  whole_fits : IsFitFor c.submission whole
  whole_fits =
      subst (λ w. IsFitFor c.submission (with_unknowns w)) (ends_are_the_courses c es a run)
      (at_end c proper es a run (λ stands opened nothing fine. fit c proper.admitted (end_state c.steps es) stands opened nothing fine))

  irrelevant_unsatisfied : (r : RequestType) → IsOfTypes (course_world c) r → (p : Policy) → Contains c.submission.policies p → irrelevant_for (schema_in c.submission) c.submission.table r p ≡ true → IsSatisfied whole p → ⊥
  irrelevant_unsatisfied r types p k e sat =
      let b = c.submission in
      let s = schema_in b in
      let o = orderly b whole proper.admitted.accepted whole_fits in
      let k' = conforming s b.table whole o whole_fits.0 in
      let q = k'.request.0 in
      let of_request = k'.request.1 in
      let action : Some q.action ≡ Some r.action = sym of_request.action ∙ types.action in
      irrelevant_is_sound s b.table whole p k' ((accepted_good b proper.admitted.accepted).each p k).linked (accepted_conform b whole proper.admitted.accepted whole_fits p k) r
      (types.principal q.principal of_request.principal) (let z : q.action ≡ r.action = cc in z) (types.resource q.resource of_request.resource)
      ((irrelevant-Decides s b.table r p).0 e) sat

  pub pruned : (r : RequestType) → IsOfTypes (course_world c) r
      → (decision_of (course_world c) (kept_for c.submission r) ≡ a.decision) × (reasons_of (course_world c) (kept_for c.submission r) ≡ a.reasons)
  pruned r types =
      let b = c.submission in
      let ps = b.policies in
      let keep : Policy → Bool = λ p. not (irrelevant_for (schema_in b) b.table r p) in
      let kept = filter keep ps in
      let w = course_world c in
      let h = dropped_decide whole keep ps (λ p k e. unsatisfied (satisfied whole p) (satisfied-Decides whole p) (irrelevant_unsatisfied r types p k (not_false (irrelevant_for (schema_in b) b.table r p) e))) in
      let some = unknowns_say_nothing w kept (leaves_nothing c proper.admitted) (λ p k. none_has_unknowns c proper.admitted p (filter_only keep ps p k).0) in
      let all = unknowns_say_nothing w ps (leaves_nothing c proper.admitted) (none_has_unknowns c proper.admitted) in
      let end = course_answer c es a run in
      (ap (λ z. z.decision) (sym some) ∙ h.0 ∙ ap (λ z. z.decision) (all ∙ sym end), ap (λ z. z.reasons) (sym some) ∙ h.1 ∙ ap (λ z. z.reasons) (all ∙ sym end))

  pub warned_are_no_reasons : (id : Text) → Contains (warnings_of c.submission) id → Contains a.reasons id → ⊥
  warned_are_no_reasons id k m =
      let b = c.submission in
      let ps = b.policies in
      let all = unknowns_say_nothing (course_world c) ps (leaves_nothing c proper.admitted) (none_has_unknowns c proper.admitted) in
      let warned = (warned_are_impossible b id).0 k in
      let reason = (reasons_are_those whole ps id).0 (subst (λ (z : Answer). Contains z.reasons id) (course_answer c es a run ∙ sym all) m) in
      let same = one_policy ps (accepted_good b proper.admitted.accepted).distinct warned.0 reason.0 warned.1 reason.1 (warned.3 ∙ sym reason.4) in
      (accepted_are_sound b whole proper.admitted.accepted whole_fits warned.0 warned.1).1 warned.2 (subst (IsSatisfied whole) (sym same) reason.3)

-- policies in another order
pub policies_may_move : (b : Submission) (qs : List Policy) → IsPermutation b.policies qs → IsAccepted b → IsAccepted (with_policies b qs)
policies_may_move b qs moved accepted =
    let g = accepted_good b accepted in
    let back = IsPermutation-sym b.policies qs moved in
    let within : (p : Policy) → Contains qs p → Contains b.policies p = λ p k. Contains-permutation qs b.policies p back k in
    (acceptance_reads (with_policies b qs)).1
    (record {
      well_formed = g.well_formed;
      resolved = g.resolved;
      distinct = λ h. g.distinct (twice_moved bytes_eq bytes_eq-Decides (ids qs) (ids b.policies) (IsPermutation-map (λ (p : Policy). p.id) qs b.policies back) h);
      each = λ p k. g.each p (within p k);
      fits = λ p k. (let f = g.fits p (within p k) in record { types = f.types; actions = f.actions; members = f.members; typed = f.typed; near_enough = f.near_enough });
    })

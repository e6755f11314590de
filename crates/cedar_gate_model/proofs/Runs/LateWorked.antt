-- A run whose principal is bound late: what was met before is nearer then.
use Rattle.std.proofs.Common.{◌≡◌, ◌&&◌, ◌||◌, ⊎_elim, Bool, true, false, not, cond, [], ◌∷◌, Some, None, refl, subst, inr}
use Rattle.std.specs.Prelude.{Contains, codes, is_some, if◌then◌else◌}
use Rattle.std.specs.Str.{bytes_eq}
use Rattle.cedar_expr_model.specs.Name.{Text}
use Rattle.cedar_expr_model.specs.Made.{Made}
use Rattle.cedar_expr_model.proofs.Lists.{contains_none, contains_cases}
use Rattle.cedar_schema_model.proofs.Decls.Conforming.{request_conforms-Decides}
use Rattle.cedar_evaluator_model.specs.Scope.{uid, unknown_uid}
use Rattle.cedar_evaluator_model.specs.OfLaws.WellMade.{IsWellMade}
use Rattle.cedar_typechecker_model.specs.Worked.{user, user_a, doc_d, view}
use Rattle.cedar_gate_model.specs.Moment.{request_of}
use Rattle.cedar_gate_model.specs.Runs.{answered, IsRoundNow, with_asked}
use Rattle.cedar_gate_model.specs.RunsAnswer.{session_of, IsProper, MayRun}
use Rattle.cedar_gate_model.specs.Session.{Setup, State, at_start, world_now, NothingIsWanted, is_open_entry, OpenRefusal, quote_in_name, name_of_variable, OpenFault, with_bound, BindRefusal, BindFault, not_open, against_annotation, no_entity_or_record, context_fails, AnswerRefusal, AnswerFault, not_bound, still_wanted, not_conforming}
use Rattle.cedar_gate_model.specs.Transcript.{round, bound}
use Rattle.cedar_gate_model.specs.WorkedGate.{user_b, uid_made, late_course, p0_denies}
use Rattle.cedar_gate_model.proofs.Gate.RoundsWorked.{wanted_exactly, takes}
use Rattle.cedar_gate_model.proofs.Runs.Worked.{loaded_proper}

pub late_proper : IsProper late_course
late_proper = record {
  admitted = record {
    accepted = loaded_proper.admitted.accepted;
    fair = record { table = refl; fair = (loaded_proper.admitted.fair).fair; typed = refl; agrees = (loaded_proper.admitted.fair).agrees };
    context = tt;
    store = loaded_proper.admitted.store;
  };
  values = λ b k. well b k;
}
  where
    well : (b : Text × Made) → Contains ((codes "principal", uid_made user_b) ∷ []) b → IsWellMade late_course.functions.table b.1
    well b k = contains_cases (IsWellMade late_course.functions.table b.1) (codes "principal", uid_made user_b) [] b k (λ e. subst (λ z. IsWellMade late_course.functions.table z.1) e tt) (λ m. absurd (contains_none b m))

abbrev x : Setup
x = session_of late_course

-- the moments of the run
abbrev second : State
second = with_asked at_start (doc_d ∷ [])

abbrev third : State
third = with_asked second (user_b ∷ [])

abbrev fourth : State
fourth = with_bound third (codes "principal") (uid_made user_b)

abbrev last : State
last = with_asked fourth (user_a ∷ [])

first_round : IsRoundNow x at_start (doc_d ∷ [])
first_round =
    let exact = wanted_exactly x at_start (doc_d ∷ []) refl refl in
    record { some_wanted = λ e. cc; wanted = record { in_order = refl; exact = exact }; taken = takes x at_start (doc_d ∷ []) exact refl refl refl }

second_round : IsRoundNow x second (user_b ∷ [])
second_round =
    let exact = wanted_exactly x second (user_b ∷ []) refl refl in
    record { some_wanted = λ e. cc; wanted = record { in_order = refl; exact = exact }; taken = takes x second (user_b ∷ []) exact refl refl refl }

binds : (f : BindRefusal) → BindFault x third (codes "principal") (uid_made user_b) f → ⊥
binds not_open h = let k : true ≡ false = h in cc
binds against_annotation h = ⊎_elim (λ e. (let k : true ≡ false = e in cc)) (λ k. contains_none k.0 k.1) h
binds no_entity_or_record h = ⊎_elim (λ k. (let e : Some user_b ≡ None = k.1 in cc)) (λ k. (let e = k.0 in cc)) h
binds context_fails h = h

third_round : IsRoundNow x fourth (user_a ∷ [])
third_round =
    let exact = wanted_exactly x fourth (user_a ∷ []) refl refl in
    record { some_wanted = λ e. cc; wanted = record { in_order = refl; exact = exact }; taken = takes x fourth (user_a ∷ []) exact refl refl refl }

nothing_left : NothingIsWanted x last
nothing_left u h = contains_none u ((wanted_exactly x last [] refl refl u).1 h)

-- the principal is bound, and nothing else was open
none_open : (a b c : Bool)
    → (not (is_some (cond a (Some (uid_made user_b)) None)) && (is_open_entry (if a then Some (unknown_uid (Some user)) else (if b then Some (uid view) else (if c then Some (uid doc_d) else None))) || false)) ≡ true → ⊥
none_open true b c e = cc
none_open false true c e = cc
none_open false false true e = cc
none_open false false false e = cc

answers_now : (f : AnswerRefusal) → AnswerFault x last f → ⊥
answers_now not_bound h = none_open (bytes_eq h.0 (codes "principal")) (bytes_eq h.0 (codes "action")) (bytes_eq h.0 (codes "resource")) h.1
answers_now still_wanted h = nothing_left h.0 h.1
answers_now not_conforming h = h.1 ((request_conforms-Decides x.schema (request_of (world_now x last))).0 refl)

opens : (f : OpenRefusal) → OpenFault x.start f → ⊥
opens quote_in_name h = contains_none h.0 h.1
opens name_of_variable h = contains_none h.0 h.1

pub late_run : MayRun late_course (round (doc_d ∷ []) ∷ round (user_b ∷ []) ∷ bound (codes "principal") ∷ round (user_a ∷ []) ∷ []) (answered p0_denies)
late_run = (opens, inr (first_round, inr (second_round, (refl, binds, (third_round, (nothing_left, answers_now, refl))))))

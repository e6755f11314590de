-- The worked course is proper, and the world at its end completes its start.
use Rattle.std.proofs.Common.{◌≡◌, ◌||◌, Bool, true, false, cond, [], ◌∷◌, List, Some, refl}
use Rattle.cedar_expr_model.specs.Uid.{Uid}
use Rattle.cedar_expr_model.specs.Value.{V}
use Rattle.cedar_expr_model.proofs.Lists.{all_each, contains_none}
use Rattle.cedar_store_model.specs.Knowledge.{holds_values}
use Rattle.cedar_store_model.specs.World.{Entity, Found, held, missing, not_loaded}
use Rattle.cedar_store_model.specs.Store.{found_as, if_uid, whole}
use Rattle.cedar_schema_model.specs.Schema.{declares_action}
use Rattle.cedar_schema_model.specs.ActionEntities.{as_entity}
use Rattle.cedar_expr_model.specs.Made.{Made}
use Rattle.cedar_expr_model.specs.Table.{Table}
use Rattle.cedar_expr_model.specs.Uids.{is_uid}
use Rattle.cedar_evaluator_model.specs.Known.{known_entity, known_found}
use Rattle.cedar_evaluator_model.specs.OfLaws.WellMade.{IsFoundMadeWell}
use Rattle.cedar_store_model.proofs.Stores.{lookup_is_exact}
use Rattle.cedar_expr_model.proofs.Equality.{uid_eq-Decides}
use Rattle.cedar_expr_model.proofs.Lists.{found-Decides}
use Rattle.cedar_expr_model.specs.Uid.{uid_eq}
use Rattle.cedar_typechecker_model.specs.Worked.{user_a, doc_d}
use Rattle.cedar_gate_model.specs.RunsAnswer.{IsProper, IsOpened, IsKnownStore, session_of, end_world, with_unknowns}
use Rattle.cedar_gate_model.specs.Session.{at_start, known_now, IsWantedNow, OpenRefusal, OpenFault, quote_in_name, name_of_variable, CompletesNow}
use Rattle.cedar_typechecker_model.specs.Slice.{slice}
use Rattle.cedar_gate_model.specs.Transcript.{Entry, round}
use Rattle.cedar_gate_model.specs.WorkedGate.{user_b, three_and_z, loading, loaded_course, actions_alone, p0_allows}
use Rattle.cedar_gate_model.proofs.Gate.LegalRuns.{completes_before}
use Rattle.cedar_gate_model.proofs.Gate.ReachWorked.{level_two_accepted}
use Rattle.cedar_gate_model.proofs.Gate.RoundsWorked.{two_rounds}
use Rattle.cedar_gate_model.proofs.Gate.Slices.{slice_is_listed}
use Rattle.cedar_gate_model.proofs.Runs.Deciding.{completes_end}

holds : (u : Uid) (e : Entity V) → loading.store u ≡ Some e → holds_values e ≡ true
holds u e q = all_each (λ (d : Uid × Entity V). holds_values d.1) three_and_z refl (u, e) ((lookup_is_exact three_and_z refl u e).0 q)

pub loaded_proper : IsProper loaded_course
loaded_proper = record {
  admitted = record {
    accepted = level_two_accepted;
    fair = record { table = refl; fair = λ f s vs e. cc; typed = refl; agrees = λ f ms t. (let e = t.1 in cc) };
    context = tt;
    store = holds;
  };
  values = λ b k. absurd (contains_none b k);
}

abbrev both_rounds : List Entry
both_rounds = round (doc_d ∷ user_a ∷ []) ∷ round (user_b ∷ []) ∷ []

pub loaded_completed : CompletesNow (session_of loaded_course) at_start (with_unknowns (end_world loaded_course both_rounds))
loaded_completed =
    completes_before (session_of loaded_course) at_start [] both_rounds (with_unknowns (end_world loaded_course both_rounds))
    (completes_end loaded_course loaded_proper both_rounds p0_allows two_rounds)

pub loaded_wanted : IsWantedNow (session_of loaded_course) at_start user_a
loaded_wanted = (
  (slice_is_listed (session_of loaded_course).schema 2 (known_now (session_of loaded_course) at_start) user_a).0
      ((found-Decides uid_eq uid_eq-Decides user_a (slice (session_of loaded_course).schema 2 (known_now (session_of loaded_course) at_start))).0 refl),
  λ k. contains_none user_a k,
)

-- its session opens, and what it is evaluated over is what is known
pub loaded_opened : IsOpened (session_of loaded_course) at_start
loaded_opened = record { opened = no_fault; bound = tt }
  where
    no_fault : (f : OpenRefusal) → OpenFault loaded_course.start f → ⊥
    no_fault quote_in_name h = contains_none h.0 h.1
    no_fault name_of_variable h = contains_none h.0 h.1

found_same : (d i : Bool) (e : Entity Made) (o : Found V)
    → known_found (cond d (held e) (cond i not_loaded missing)) ≡ cond (d || false) (cond d (held (known_entity e)) o) (cond i not_loaded missing)
found_same true i e o = refl
found_same false true e o = refl
found_same false false e o = refl

well_found : (x : Table) (d i : Bool) (us : List Uid) → IsFoundMadeWell x (cond d (held (record { attributes = []; tags = []; ancestors = us })) (cond i not_loaded missing))
well_found x true i us = λ a. (tt, tt)
well_found x false true us = tt
well_found x false false us = tt

pub loaded_known : IsKnownStore loaded_course at_start actions_alone
loaded_known =
    let s = (session_of loaded_course).schema in
    record {
      known = λ u. found_same (declares_action s u) (is_uid u) (record { attributes = []; tags = []; ancestors = (as_entity s u).ancestors }) (if_uid u (found_as whole (loading.store u)));
      well = λ u. well_found loaded_course.functions.table (declares_action s u) (is_uid u) (as_entity s u).ancestors;
      context = tt;
    }

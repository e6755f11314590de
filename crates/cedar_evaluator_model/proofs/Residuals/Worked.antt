-- What the worked example of residuals stands on: a world completes its scope.
use Rattle.std.proofs.Common.{rules, ◌≡◌, Bool, true, false, cond, refl, sym, subst, [], ◌∷◌}
use Rattle.cedar_expr_model.specs.Uid.{Uid, uid_eq, uid_text}
use Rattle.cedar_expr_model.proofs.Equality.{uid_eq-Decides}
use Rattle.cedar_store_model.specs.World.{held, missing, not_loaded}
use Rattle.cedar_store_model.specs.Knowledge.{IsSettled}
use Rattle.cedar_evaluator_model.specs.OfLaws.Calls.{Agrees}
use Rattle.cedar_evaluator_model.specs.OfLaws.WellMade.{IsFoundMadeWell, AllMadeWell}
use Rattle.cedar_evaluator_model.specs.OfLaws.Completing.{NameMeans, FoundMeans, Completes}
use Rattle.cedar_evaluator_model.specs.ResponseLaws.{FitConditions}
use Rattle.cedar_evaluator_model.specs.ReauthorizeLaws.{BindsRightly}
use Rattle.cedar_evaluator_model.specs.Worked.{user_b}
use Rattle.cedar_evaluator_model.specs.WorkedCompletions.{empty_table}
use Rattle.cedar_evaluator_model.specs.WorkedResiduals.{one_open, ok_entity, ok_policy, ok_world, u_is_true}

settled : (b : Bool) → IsSettled (cond b (held ok_entity) missing)
settled true = refl
settled false = tt

-- the unknown of its name means `User::"b"`
named_there : NameMeans ok_world (uid_text user_b) user_b
named_there = search rules

found : (u : Uid) (b : Bool) → uid_eq u user_b ≡ b → FoundMeans ok_world u (cond b not_loaded missing) (cond b (held ok_entity) missing)
found u true e = subst (λ v. NameMeans ok_world (uid_text v) v) (sym ((uid_eq-Decides u user_b).0 e)) named_there
found u false e = refl

pub completed_there : Completes ok_world one_open
completed_there =
    record {
      whole = record { principal = refl; action = refl; resource = refl; context = refl; unknowns = λ n. refl; store = λ u. settled (uid_eq u user_b) };
      principal = refl;
      action = refl;
      resource = refl;
      context = refl;
      slots = λ x. refl;
      unknowns = λ n. tt;
      table = refl;
      store = λ u. found u (uid_eq u user_b) refl;
    }

-- no function is taken
pub agrees : Agrees one_open
agrees f ms t = let e = t.1 in cc

well_found : (b : Bool) → IsFoundMadeWell empty_table (cond b not_loaded missing)
well_found true = tt
well_found false = tt

pub made : AllMadeWell one_open
made = record { context = tt; values = λ n. tt; store = λ u. well_found (uid_eq u user_b); calls = λ f ms m t e. let none = t.1 in cc }

pub fits : FitConditions ok_world (ok_policy ∷ [])
fits = search rules

-- the value of `u` is what it means
pub binds : BindsRightly ok_world u_is_true
binds = search rules

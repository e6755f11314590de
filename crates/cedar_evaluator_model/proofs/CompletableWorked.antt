-- What the worked example of a completion stands on.
use Rattle.std.proofs.Common.{◌≡◌, Bool, true, false, cond, codes, None, refl, sym, ap, subst}
use Rattle.std.specs.Prelude.{Some}
use Rattle.cedar_expr_model.specs.Name.{Text}
use Rattle.cedar_expr_model.specs.Uid.{uid_eq}
use Rattle.cedar_expr_model.specs.Uids.{is_uid}
use Rattle.cedar_expr_model.specs.Value.{V, record_of, no_fields, field, truth_value}
use Rattle.cedar_expr_model.specs.Tree.{Tree, record_literal, tree_field, no_tree_fields}
use Rattle.cedar_expr_model.proofs.Gathering.{each_in}
use Rattle.cedar_store_model.specs.Outcome.{val}
use Rattle.cedar_store_model.specs.Meaning.{outcome_of}
use Rattle.cedar_store_model.specs.World.{World, held, missing, not_loaded}
use Rattle.cedar_store_model.proofs.Meaning.{outcome_means}
use Rattle.cedar_evaluator_model.specs.OfLaws.Completable.{Agree}
use Rattle.cedar_evaluator_model.specs.Completion.{Fits, PartIs}
use Rattle.cedar_evaluator_model.specs.Known.{known_found}
use Rattle.cedar_evaluator_model.specs.OfLaws.Whole.{HoldsValues}
use Rattle.cedar_evaluator_model.specs.Worked.{doc_d, entity_d, unknown_u}
use Rattle.cedar_evaluator_model.specs.WorkedCompletions.{some_loaded, IsCompletable}
use Rattle.cedar_evaluator_model.proofs.Completable.{completions_exist}

abbrev deep : Tree
deep = record_literal (tree_field (codes "r") (record_literal (tree_field (codes "s") unknown_u no_tree_fields)) no_tree_fields)

-- each unknown is true
abbrev all_true : Text → V
all_true n = truth_value true

abbrev value : V
value = record_of (field (codes "r") (record_of (field (codes "s") (truth_value true) no_fields)) no_fields)

deep_is : (w : World) → w.unknowns (codes "u") ≡ Some (truth_value true) → PartIs w deep value
deep_is w e = (
  λ x. outcome_means (record w { slots = x }) deep (val value) (ap (λ o. outcome_of (record w { slots = x; unknowns = λ n. o }) deep) e),
  (each_in (λ n a. Fits a (w.unknowns n)) deep).1 ((subst (Fits None) (sym e) tt, tt), tt),
)

open_is_uid : (b c : Bool) → cond b (held entity_d) (cond c not_loaded missing) ≡ not_loaded → c ≡ true
open_is_uid true c e = cc
open_is_uid false true e = refl
open_is_uid false false e = cc

values_held : (b c : Bool) → HoldsValues (known_found (cond b (held entity_d) (cond c not_loaded missing)))
values_held true c = refl
values_held false true = tt
values_held false false = tt

parts_agree : Agree some_loaded all_true
parts_agree = record {
  uids = λ u. open_is_uid (uid_eq u doc_d) (is_uid u);
  names = λ n h. refl;
  free = λ n h. tt;
  principal = refl;
  action = refl;
  resource = refl;
  context = (refl, (value, λ w t g. deep_is w (g (codes "u") refl)));
  store = λ u. values_held (uid_eq u doc_d) (is_uid u);
}

pub some_loaded_is_completed : IsCompletable some_loaded
some_loaded_is_completed = let r = completions_exist some_loaded all_true parts_agree in (r.0, r.1)

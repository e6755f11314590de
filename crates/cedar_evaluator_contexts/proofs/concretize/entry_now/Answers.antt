use Rattle.std.proofs.Common.{◌≡◌, Some, None, option_map, rules, sym, ap, ◌∙◌, subst}
use Rattle.cedar_expr_leaves.specs.Variables.{var_of}
use Rattle.cedar_expr_values.specs.Extensions.{extension_of}
use Rattle.cedar_expr_values.specs.Values.{made}
use Rattle.cedar_evaluator_model.specs.Reauthorize.{entry_bound, makes_it}
use Rattle.cedar_evaluator_requests.specs.Views.{entry_of}
use Rattle.cedar_evaluator_contexts.specs.Refusals.{Takes}
use Rattle.cedar_evaluator_contexts.proofs.concretize.entry_now.Goals as goal

pub returns-in_ok-clone-in-None : goal.returns-in_ok-clone-in-None
returns-in_ok-clone-in-None c =
    let none : option_map (λ v. made extension_of v.now) c.args.value ≡ None = search rules in
    ap (entry_bound (var_of c.args.var) (entry_of c.args.entry.now)) none ∙ ap makes_it (sym c.in_ok-clone-in-None.ensures.cases.0)

pub returns-in-Some : goal.returns-in-Some
returns-in-Some c =
    let there : option_map (λ v. made extension_of v.now) c.args.value ≡ Some (made extension_of c.in-Some.value.now) = search rules in
    subst (λ o. Takes entry_of (entry_bound (var_of c.args.var) (entry_of c.args.entry.now) o) c.entry_given.result) (sym there) c.entry_given.ensures

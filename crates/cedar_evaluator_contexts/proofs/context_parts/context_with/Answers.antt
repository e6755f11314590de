use Rattle.std.proofs.Common.{◌≡◌, Some, None, option_map, rules, sym, ap, ◌∙◌, subst}
use Rattle.cedar_expr_values.specs.Extensions.{extension_of}
use Rattle.cedar_expr_values.specs.Values.{made}
use Rattle.cedar_evaluator_model.specs.Reauthorize.{context_bound, makes_it}
use Rattle.cedar_evaluator_requests.specs.Views.{context_or_unknown}
use Rattle.cedar_evaluator_contexts.specs.Refusals.{Takes}
use Rattle.cedar_evaluator_contexts.proofs.context_parts.context_with.Goals as goal

pub returns-in_ok-copied-in-None : goal.returns-in_ok-copied-in-None
returns-in_ok-copied-in-None c =
    let none : option_map (λ v. made extension_of v.now) c.args.value ≡ None = search rules in
    ap (context_bound (context_or_unknown (option_map (λ k. k.now) c.args.context))) none ∙ ap makes_it (sym c.in_ok-copied-in-None.ensures)

pub returns-in-Some : goal.returns-in-Some
returns-in-Some c =
    let there : option_map (λ v. made extension_of v.now) c.args.value ≡ Some (made extension_of c.in-Some.value.now) = search rules in
    subst (λ o. Takes context_or_unknown (context_bound (context_or_unknown (option_map (λ k. k.now) c.args.context)) o) c.context_given.result) (sym there) c.context_given.ensures

use Rattle.std.proofs.Common.{◌≡◌, option_map, rules, sym, ap, ◌∙◌}
use Rattle.cedar_expr_values.specs.Extensions.{extension_of}
use Rattle.cedar_evaluator_model.specs.Reauthorize.{refuses}
use Rattle.cedar_evaluator_model.specs.Scope.{unknown_context}
use Rattle.cedar_evaluator_requests.specs.Views.{context_of, context_or_unknown}
use Rattle.cedar_evaluator_contexts.proofs.Bound.{record_for_known, record_for_unknown}
use Rattle.cedar_evaluator_contexts.proofs.context_parts.context_as.Goals as goal

pub returns-in_ok-clone-in-None : goal.returns-in_ok-clone-in-None
returns-in_ok-clone-in-None c =
    let none : context_or_unknown (option_map (λ k. k.now) c.args.context) ≡ unknown_context = search rules in
    record_for_unknown _ _ _ none (sym (c.in_ok-clone-in-None.ensures.cases extension_of))

pub returns-in_ok-known_context-in-Some : goal.returns-in_ok-known_context-in-Some
returns-in_ok-known_context-in-Some c =
    let there : context_or_unknown (option_map (λ k. k.now) c.args.context) ≡ context_of c.in-Some.context.now = search rules in
    λ other m. record_for_known _ c.in-Some.context.now _ there ∙ ap refuses (sym (c.in_ok-known_context-in-Some.ensures other))

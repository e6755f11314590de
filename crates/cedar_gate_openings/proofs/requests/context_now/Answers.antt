use Rattle.std.proofs.Common.{◌≡◌, Some, option_map, rules, sym, ap, ◌∙◌}
use Rattle.std.specs.Prelude.{is_none}
use Rattle.cedar_evaluator_requests.specs.Views.{context_or_unknown}
use Rattle.cedar_evaluator_requests.specs.declared.context.Context.TheVariants.{RestrictedResidual, Value}
use Rattle.cedar_evaluator_model.specs.Scope.{closed}
use Rattle.cedar_expr_values.specs.Extensions.{extension_of}
use Rattle.cedar_gate_openings.specs.Names.{bound_in}
use Rattle.cedar_gate_openings.specs.Requests.{context_by, fails_by}
use Rattle.cedar_gate_openings.proofs.Records.{left_as_context}
use Rattle.cedar_gate_openings.proofs.requests.context_now.Goals as goal

pub returns-in_ok-context-in-Some-RestrictedResidual-clause-fails : goal.returns-in_ok-context-in-Some-RestrictedResidual-clause-fails
returns-in_ok-context-in-Some-RestrictedResidual-clause-fails g c = λ x a.
    let there : option_map (λ k. k.now) c.args.start ≡ Some (RestrictedResidual c.in-Some-RestrictedResidual.fields) = search rules in
    let none : c.is_none-fails.result ≡ is_none c.in_ok-context-in-Some-RestrictedResidual.context = search rules in
    none ∙ c.in_ok-context-in-Some-RestrictedResidual.ensures.fails x a
    ∙ ap (λ o. fails_by x (bound_in c.args.bound.now) (context_or_unknown o)) (sym there)

pub returns-in_ok-clone-in-Some-Value-clause-context : goal.returns-in_ok-clone-in-Some-Value-clause-context
returns-in_ok-clone-in-Some-Value-clause-context g c = λ x a.
    let there : option_map (λ k. k.now) c.args.start ≡ Some (Value c.in-Some-Value.fields) = search rules in
    ap closed (c.in_ok-clone-in-Some-Value.ensures.cases extension_of)
    ∙ ap (λ o. context_by x (bound_in c.args.bound.now) (context_or_unknown o)) (sym there)

pub returns-in_ok-context-in-Some-RestrictedResidual-clause-context : goal.returns-in_ok-context-in-Some-RestrictedResidual-clause-context
returns-in_ok-context-in-Some-RestrictedResidual-clause-context g c = λ x a.
    let there : option_map (λ k. k.now) c.args.start ≡ Some (RestrictedResidual c.in-Some-RestrictedResidual.fields) = search rules in
    left_as_context c.in_ok-context-in-Some-RestrictedResidual.context _ (c.in_ok-context-in-Some-RestrictedResidual.ensures.made x a)
    ∙ ap (λ o. context_by x (bound_in c.args.bound.now) (context_or_unknown o)) (sym there)

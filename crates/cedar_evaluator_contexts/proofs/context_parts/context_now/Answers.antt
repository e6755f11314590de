use Rattle.std.proofs.Common.{◌≡◌, codes, option_map, sym, ap, subst, ◌∙◌}
use Rattle.cedar_expr_values.specs.Extensions.{extension_of}
use Rattle.cedar_expr_values.specs.Values.{made}
use Rattle.cedar_evaluator_model.specs.Reauthorize.{and_next, context_bound, context_substituted}
use Rattle.cedar_evaluator_reads.specs.Scopes.{values_in}
use Rattle.cedar_evaluator_requests.specs.Views.{context_or_unknown, request_of}
use Rattle.cedar_evaluator_contexts.specs.Refusals.{Takes}
use Rattle.cedar_evaluator_contexts.proofs.context_parts.context_now.Goals as goal

pub returns-in-Ok : goal.returns-in-Ok
returns-in-Ok g c = λ s h.
    let q = request_of c.args.request.now in
    let env = values_in c.args.mapping.now in
    let asked : context_bound (context_or_unknown (option_map (λ k. k.now) c.context.result)) (option_map (λ v. made extension_of v.now) c.value_for.result) ≡ context_bound q.context (env (codes "context")) = (λ i. context_bound (c.context.ensures i) (c.value_for.ensures i)) in
    subst (λ o. Takes context_or_unknown (and_next o (context_substituted s env)) c.substituted.result) (sym c.in-Ok.ensures ∙ asked) (c.substituted.ensures s h)

pub returns-in-Err : goal.returns-in-Err
returns-in-Err g c = λ s h other m.
    let q = request_of c.args.request.now in
    let env = values_in c.args.mapping.now in
    let asked : context_bound (context_or_unknown (option_map (λ k. k.now) c.context.result)) (option_map (λ v. made extension_of v.now) c.value_for.result) ≡ context_bound q.context (env (codes "context")) = (λ i. context_bound (c.context.ensures i) (c.value_for.ensures i)) in
    ap (λ o. and_next o (context_substituted s env)) (sym asked ∙ c.in-Err.ensures other m)

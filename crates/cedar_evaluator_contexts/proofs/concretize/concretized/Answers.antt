use Rattle.std.proofs.Common.{◌≡◌, codes, rules, sym, ap, ◌∙◌}
use Rattle.cedar_expr_model.specs.Tree.{principal, action, resource}
use Rattle.cedar_evaluator_model.specs.Reauthorize.{makes_it, refuses, entry_bound}
use Rattle.cedar_evaluator_reads.specs.Scopes.{values_in}
use Rattle.cedar_evaluator_requests.specs.Views.{entry_of, context_or_unknown, request_of}
use Rattle.cedar_evaluator_contexts.proofs.Bound.{after_principal, after_action, after_resource, after_context, passed}
use Rattle.cedar_evaluator_contexts.proofs.concretize.concretized.Goals as goal

pub returns : goal.returns
returns g c = λ s h.
    let q = request_of c.args.request.now in
    let env = values_in c.args.mapping.now in
    let p : entry_bound principal q.principal (env (codes "principal")) ≡ makes_it (entry_of c.in_ok-principal.principal) = search rules in
    let a : entry_bound action q.action (env (codes "action")) ≡ makes_it (entry_of c.in_ok-action.action) = search rules in
    let r : entry_bound resource q.resource (env (codes "resource")) ≡ makes_it (entry_of c.in_ok-resource.resource) = search rules in
    after_context s env q _ _ _ (makes_it (context_or_unknown c.in_ok-context.context)) p a r (c.in_ok-context.ensures s h) ∙ ap makes_it (sym c.new_unchecked.ensures.request)

pub returns-in_err-principal : goal.returns-in_err-principal
returns-in_err-principal g c = λ s h.
    let q = request_of c.args.request.now in
    let env = values_in c.args.mapping.now in
    passed request_of _ c.in_err-principal.field-0.0 c.from_residual.result c.from_residual.ensures.1
    (λ other m. after_principal s env q (refuses _) (ap (λ e. entry_bound principal e (env (codes "principal"))) (sym c.principal.ensures.entry) ∙ c.in_err-principal.ensures other m))

pub returns-in_err-action : goal.returns-in_err-action
returns-in_err-action g c = λ s h.
    let q = request_of c.args.request.now in
    let env = values_in c.args.mapping.now in
    let p : entry_bound principal q.principal (env (codes "principal")) ≡ makes_it (entry_of c.in_ok-principal.principal) = search rules in
    passed request_of _ c.in_err-action.field-0.0 c.from_residual-in_err-action.result c.from_residual-in_err-action.ensures.1
    (λ other m. after_action s env q _ (refuses _) p (ap (λ e. entry_bound action e (env (codes "action"))) (sym c.action.ensures.entry) ∙ c.in_err-action.ensures other m))

pub returns-in_err-resource : goal.returns-in_err-resource
returns-in_err-resource g c = λ s h.
    let q = request_of c.args.request.now in
    let env = values_in c.args.mapping.now in
    let p : entry_bound principal q.principal (env (codes "principal")) ≡ makes_it (entry_of c.in_ok-principal.principal) = search rules in
    let a : entry_bound action q.action (env (codes "action")) ≡ makes_it (entry_of c.in_ok-action.action) = search rules in
    passed request_of _ c.in_err-resource.field-0.0 c.from_residual-in_err-resource.result c.from_residual-in_err-resource.ensures.1
    (λ other m. after_resource s env q _ _ (refuses _) p a (ap (λ e. entry_bound resource e (env (codes "resource"))) (sym c.resource.ensures.entry) ∙ c.in_err-resource.ensures other m))

pub returns-in_err-context : goal.returns-in_err-context
returns-in_err-context g c = λ s h.
    let q = request_of c.args.request.now in
    let env = values_in c.args.mapping.now in
    let p : entry_bound principal q.principal (env (codes "principal")) ≡ makes_it (entry_of c.in_ok-principal.principal) = search rules in
    let a : entry_bound action q.action (env (codes "action")) ≡ makes_it (entry_of c.in_ok-action.action) = search rules in
    let r : entry_bound resource q.resource (env (codes "resource")) ≡ makes_it (entry_of c.in_ok-resource.resource) = search rules in
    passed request_of _ c.in_err-context.field-0.0 c.from_residual-in_err-context.result c.from_residual-in_err-context.ensures.1
    (λ other m. after_context s env q _ _ _ (refuses _) p a r (c.in_err-context.ensures s h other m))

use Rattle.std.proofs.Common.{◌≡◌, Some, rules, ap, ◌∙◌}
use Rattle.cedar_evaluator_model.specs.Reauthorize.{context_substituted}
use Rattle.cedar_evaluator_reads.specs.Scopes.{values_in}
use Rattle.cedar_evaluator_requests.specs.Views.{context_of, context_or_unknown}
use Rattle.cedar_evaluator_contexts.proofs.Bound.{stop_told}
use Rattle.cedar_evaluator_contexts.proofs.context_parts.substituted.Goals as goal

pub returns-in-Ok : goal.returns-in-Ok
returns-in-Ok g c = λ s h.
    let there : c.args.context ≡ Some c.in-Some.known = search rules in
    ap (λ o. context_substituted s (values_in c.args.mapping.now) (context_or_unknown o)) there ∙ c.in-Ok.ensures s h

pub returns-in-Err : goal.returns-in-Err
returns-in-Err g c = λ s h other m.
    let there : c.args.context ≡ Some c.in-Some.known = search rules in
    ap (λ o. context_substituted s (values_in c.args.mapping.now) (context_or_unknown o)) there
    ∙ stop_told (context_substituted s (values_in c.args.mapping.now) (context_of c.in-Some.known)) c.in-Err.error c.from.result c.from.ensures (c.in-Err.ensures s h) other m

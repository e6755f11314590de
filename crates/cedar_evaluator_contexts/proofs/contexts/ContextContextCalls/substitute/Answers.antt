use Rattle.std.proofs.Common.{◌∙◌, sym, subst}
use Rattle.cedar_evaluator_model.specs.Reauthorize.{context_substituted}
use Rattle.cedar_evaluator_reads.specs.Scopes.{values_in}
use Rattle.cedar_evaluator_requests.specs.Fields.{fields_in}
use Rattle.cedar_evaluator_requests.specs.Views.{context_of}
use Rattle.cedar_evaluator_requests.specs.declared.context.Context.{Context}
use Rattle.cedar_evaluator_restricted_exprs.specs.Views.{borrowed_of}
use Rattle.cedar_evaluator_contexts.specs.Contexts.{Substitutes}
use Rattle.cedar_evaluator_contexts.proofs.Records.{substitutes}
use Rattle.cedar_evaluator_contexts.proofs.contexts.ContextContextCalls.substitute.Goals as goal

pub returns-in_ok-record-in-RestrictedResidual : goal.returns-in_ok-record-in-RestrictedResidual
returns-in_ok-record-in-RestrictedResidual g c = λ s h.
    let env = values_in c.args.mapping.now in
    subst (λ (x : Context). Substitutes context_of (context_substituted s env (context_of x)) c.evaluated.result) (sym c.in-RestrictedResidual.is)
    (substitutes s env (fields_in c.in-RestrictedResidual.fields.fields.value.entries) (borrowed_of c.as_borrowed.result) c.evaluated.result (c.as_borrowed.ensures.tree ∙ c.in_ok-record-in-RestrictedResidual.ensures) (c.evaluated.ensures s h))

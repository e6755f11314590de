use Rattle.std.proofs.Common.{Some, option_map, sym, ap, ◌∙◌, subst}
use Rattle.cedar_expr_values.specs.Extensions.{extension_of}
use Rattle.cedar_expr_values.specs.Values.{made}
use Rattle.cedar_evaluator_model.specs.Reauthorize.{context_bound, refuses}
use Rattle.cedar_evaluator_requests.specs.Views.{context_or_unknown}
use Rattle.cedar_evaluator_contexts.specs.Refusals.{Takes}
use Rattle.cedar_evaluator_contexts.proofs.Bound.{fields_record, no_record_given}
use Rattle.cedar_evaluator_contexts.proofs.context_parts.context_given.Goals as goal

pub returns-in-Some : goal.returns-in-Some
returns-in-Some c =
    subst (λ m. Takes context_or_unknown (context_bound (context_or_unknown (option_map (λ k. k.now) c.args.context)) (Some m)) c.context_as.result) (sym (fields_record (made extension_of c.args.value.now) _ c.in-Some.ensures)) c.context_as.ensures

pub returns-in_ok-no_record-in-None : goal.returns-in_ok-no_record-in-None
returns-in_ok-no_record-in-None c = λ other m. no_record_given (context_or_unknown (option_map (λ k. k.now) c.args.context)) (made extension_of c.args.value.now) (sym c.in-None.ensures) ∙ ap refuses (sym (c.in_ok-no_record-in-None.ensures other))

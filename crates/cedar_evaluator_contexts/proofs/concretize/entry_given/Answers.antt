use Rattle.std.proofs.Common.{Some, None, sym, ap, ◌∙◌, subst}
use Rattle.cedar_expr_leaves.specs.Variables.{var_of}
use Rattle.cedar_expr_names.specs.Views.{uid_of}
use Rattle.cedar_expr_values.specs.Extensions.{extension_of}
use Rattle.cedar_expr_values.specs.Values.{made}
use Rattle.cedar_evaluator_model.specs.Reauthorize.{refuses}
use Rattle.cedar_evaluator_requests.specs.Views.{entry_of}
use Rattle.cedar_evaluator_contexts.specs.Refusals.{Takes}
use Rattle.cedar_evaluator_contexts.proofs.Bound.{entity_given}
use Rattle.cedar_evaluator_contexts.proofs.concretize.entry_given.Goals as goal

pub returns-in-Some : goal.returns-in-Some
returns-in-Some c = subst (λ o. Takes entry_of o c.entry_known.result) (sym (entity_given (var_of c.args.var) (entry_of c.args.entry.now) (made extension_of c.args.value.now) (Some (uid_of c.in-Some.uid.now)) c.in-Some.ensures)) c.entry_known.ensures

pub returns-in_ok-no_entity-in-None : goal.returns-in_ok-no_entity-in-None
returns-in_ok-no_entity-in-None c = λ other m. entity_given (var_of c.args.var) (entry_of c.args.entry.now) (made extension_of c.args.value.now) None c.in-None.ensures ∙ ap refuses (sym (c.in_ok-no_entity-in-None.ensures other))

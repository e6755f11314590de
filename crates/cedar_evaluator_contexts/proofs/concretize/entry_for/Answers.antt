use Rattle.std.proofs.Common.{ap, subst, ◌∙◌}
use Rattle.cedar_expr_leaves.specs.Variables.{var_of}
use Rattle.cedar_evaluator_model.specs.Reauthorize.{entry_bound}
use Rattle.cedar_evaluator_reads.specs.Scopes.{values_in}
use Rattle.cedar_evaluator_requests.specs.Views.{entry_of}
use Rattle.cedar_evaluator_contexts.specs.Refusals.{Takes}
use Rattle.cedar_evaluator_contexts.proofs.concretize.entry_for.Goals as goal

pub returns : goal.returns
returns c = subst (λ o. Takes entry_of (entry_bound (var_of c.args.var) (entry_of c.args.entry.now) o) c.entry_now.result) (c.value_for.ensures ∙ ap (values_in c.args.mapping.now) c.variable_name.ensures) c.entry_now.ensures

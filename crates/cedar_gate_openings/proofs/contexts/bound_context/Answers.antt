use Rattle.cedar_evaluator_restricted_exprs.specs.Answers.{AgreesWith}
use Rattle.cedar_gate_openings.proofs.Records.{made_as, fails_as}
use Rattle.cedar_gate_openings.proofs.contexts.bound_context.Goals as goal

pub returns-clause-made : goal.returns-clause-made
returns-clause-made g c = made_as c.context_evaluated.result (AgreesWith c.args.table.now) _ _ c.in_ok-record.ensures.tree c.context_evaluated.ensures.made

pub returns-clause-fails : goal.returns-clause-fails
returns-clause-fails g c = fails_as c.context_evaluated.result (AgreesWith c.args.table.now) _ _ c.in_ok-record.ensures.tree c.context_evaluated.ensures.fails

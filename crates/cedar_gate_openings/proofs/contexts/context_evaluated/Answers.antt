use Rattle.std.proofs.Common.{sym}
use Rattle.cedar_evaluator_restricted_exprs.specs.Answers.{AgreesWith}
use Rattle.cedar_evaluator_errors.specs.Outcomes.{left_seen}
use Rattle.cedar_expr_trees.specs.Trees.{tree_of}
use Rattle.cedar_evaluator_model.specs.Functions.{left_of_restricted}
use Rattle.cedar_gate_openings.proofs.Records.{context_made, context_fails, no_context}
use Rattle.cedar_gate_openings.proofs.contexts.context_evaluated.Goals as goal

pub returns-in-Ok-clause-made : goal.returns-in-Ok-clause-made
returns-in-Ok-clause-made g c = context_made c.context_left.result (AgreesWith c.args.table.now) (tree_of c.args.e.now) (left_seen c.in-Ok.left) c.requires.of_record c.in-Ok.ensures c.context_left.ensures.context

pub returns-in-Ok-clause-fails : goal.returns-in-Ok-clause-fails
returns-in-Ok-clause-fails g c = context_fails c.context_left.result (AgreesWith c.args.table.now) (tree_of c.args.e.now) (left_seen c.in-Ok.left) c.requires.of_record c.in-Ok.ensures c.context_left.ensures.context

pub returns-in-Err-Stopped-clause-made : goal.returns-in-Err-Stopped-clause-made
returns-in-Err-Stopped-clause-made g c = λ x a. sym (no_context (left_of_restricted x (tree_of c.args.e.now)) (c.in-Err-Stopped.ensures x a c.in-Err-Stopped.field-0-is))

pub returns-in-Err-Stopped-clause-fails : goal.returns-in-Err-Stopped-clause-fails
returns-in-Err-Stopped-clause-fails g c = λ x a. sym (c.in-Err-Stopped.ensures x a c.in-Err-Stopped.field-0-is)

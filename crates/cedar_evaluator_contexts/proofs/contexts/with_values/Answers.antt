use Rattle.std.proofs.Common.{ap, ◌∙◌}
use Rattle.cedar_expr_model.specs.Restricted.{is_restricted}
use Rattle.cedar_expr_trees.specs.Trees.{tree_of}
use Rattle.cedar_evaluator_reads.specs.Scopes.{values_in}
use Rattle.cedar_evaluator_requests.specs.Fields.{fields_tree}
use Rattle.cedar_evaluator_contexts.proofs.Records.{stays_restricted}
use Rattle.cedar_evaluator_contexts.proofs.contexts.with_values.Goals as goal

pub new_unchecked-requires : goal.new_unchecked-requires
new_unchecked-requires c =
    ap is_restricted c.in_ok-record.ensures
    ∙ stays_restricted (values_in c.args.mapping.now) (tree_of {T = Unit} c.record_arc-record.result) (
    ap is_restricted c.record_arc-record.ensures.tree
    ∙ ap (λ m. is_restricted (fields_tree m.entries)) c.in_ok-clone.ensures.cases
    ∙ ap is_restricted c.fields.ensures.tree
    ∙ c.fields.ensures.restricted)

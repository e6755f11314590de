use Rattle.std.proofs.Common.{◌≡◌, sym, ap, ◌∙◌}
use Rattle.cedar_expr_model.specs.Restricted.{is_restricted}
use Rattle.cedar_expr_model.specs.Unknowns.{has_unknown}
use Rattle.cedar_expr_trees.specs.Trees.{tree_of, kind_tree}
use Rattle.cedar_expr_trees.proofs.Trees.{record_tree}
use Rattle.cedar_evaluator_model.specs.Reauthorize.{context_from}
use Rattle.cedar_evaluator_model.specs.Scope.{residual}
use Rattle.cedar_evaluator_requests.specs.Fields.{fields_tree}
use Rattle.cedar_evaluator_restricted_exprs.proofs.contexts.context_of_restricted.Goals as goal

pub new-fields-requires-clause-restricted : goal.new-fields-requires-clause-restricted
new-fields-requires-clause-restricted c =
    ap (λ m. is_restricted (fields_tree m.entries)) c.in_ok-clone-in-Record.ensures.cases
    ∙ ap is_restricted (sym (sym c.expr_kind.ensures.tree ∙ ap (kind_tree {T = Unit}) c.in-Record.is ∙ record_tree {T = Unit} c.in-Record.fields))
    ∙ c.requires.restricted

pub new-fields-requires-clause-unfinished : goal.new-fields-requires-clause-unfinished
new-fields-requires-clause-unfinished c =
    ap (λ m. has_unknown (fields_tree m.entries)) c.in_ok-clone-in-Record.ensures.cases
    ∙ ap has_unknown (sym (sym c.expr_kind.ensures.tree ∙ ap (kind_tree {T = Unit}) c.in-Record.is ∙ record_tree {T = Unit} c.in-Record.fields))
    ∙ c.requires.unfinished

pub returns-in_ok-clone-in-Record : goal.returns-in_ok-clone-in-Record
returns-in_ok-clone-in-Record c =
    ap (λ t. context_from (residual t)) c.new-fields.ensures
    ∙ ap (λ m. context_from (residual (fields_tree m.entries))) c.in_ok-clone-in-Record.ensures.cases
    ∙ ap (λ t. context_from (residual t)) (sym (sym c.expr_kind.ensures.tree ∙ ap (kind_tree {T = Unit}) c.in-Record.is ∙ record_tree {T = Unit} c.in-Record.fields))

use Rattle.std.proofs.lemmas.Grind.{common_steps}
use Rattle.std.proofs.Common.{map, sym, ap, ◌∙◌, subst, arith, rules}
use Rattle.cedar_expr_model.specs.Builder.{trees, tree_fields}
use Rattle.cedar_expr_model.specs.Tree.{set_literal, record_literal}
use Rattle.cedar_expr_trees.specs.Trees.{tree_of, kind_tree, named, field_trees}
use Rattle.cedar_expr_trees.proofs.Trees.{call_tree, set_tree, record_tree}
use Rattle.cedar_schema_types.specs.Types.{type_of}
use Rattle.cedar_schema_model.specs.Restricted.{asked_for}
use Rattle.cedar_schema_joins.specs.Answers.{AnswersAsked}
use Rattle.cedar_schema_types.specs.Types.{attributes_of}
use Rattle.cedar_schema_types.specs.Kinds.{openness_of}
use Rattle.cedar_schema_joins.proofs.Asking.{field_goes_on}
use Rattle.cedar_schema_joins.proofs.SmallerFields.{one_is_smaller, fewer_are_smaller}
use Rattle.cedar_schema_joins.proofs.restricted.+asked.Goals as goal

pub ask-returns-in-ExtensionFunctionApp : goal.ask-returns-in-ExtensionFunctionApp
ask-returns-in-ExtensionFunctionApp g t c =
    let is =
    sym (call_tree {T = g.row.T.Denot} c.in-ExtensionFunctionApp.fn_name c.in-ExtensionFunctionApp.args)
    ∙ ap (kind_tree {T = g.row.T.Denot}) (sym c.in-ExtensionFunctionApp.is) ∙ c.expr_kind.ensures.tree in
    subst (λ e. AnswersAsked (asked_for (g.F.Functions.signatures c.args.table.now) e (type_of c.args.ty.now)) c.ask_call.result) is
    (c.ask_call.ensures.each (trees (map (tree_of {T = g.row.T.Denot}) c.in-ExtensionFunctionApp.args.value.items)))

pub ask-returns-in-Set : goal.ask-returns-in-Set
ask-returns-in-Set g t c =
    let is =
    ap (λ es. set_literal (trees (map (tree_of {T = g.row.T.Denot}) es))) (c.as_slice.ensures.value ∙ ap (λ v. v.items) c.deref.ensures)
    ∙ sym (set_tree {T = g.row.T.Denot} c.in-Set.exprs) ∙ ap (kind_tree {T = g.row.T.Denot}) (sym c.in-Set.is) ∙ c.expr_kind.ensures.tree in
    subst (λ e. AnswersAsked (asked_for (g.F.Functions.signatures c.args.table.now) e (type_of c.args.ty.now)) c.ask_set.result) is c.ask_set.ensures

pub ask-returns-in-Record : goal.ask-returns-in-Record
ask-returns-in-Record g t c =
    let is =
    ap (λ m. record_literal (tree_fields (named (field_trees {T = g.row.T.Denot} m.entries)))) c.deref-in-Record.ensures
    ∙ sym (record_tree {T = g.row.T.Denot} c.in-Record.pairs) ∙ ap (kind_tree {T = g.row.T.Denot}) (sym c.in-Record.is) ∙ c.expr_kind.ensures.tree in
    subst (λ e. AnswersAsked (asked_for (g.F.Functions.signatures c.args.table.now) e (type_of c.args.ty.now)) c.ask_record.result) is c.ask_record.ensures

pub ask_fields-ask_field-requires : goal.ask_fields-ask_field-requires
ask_fields-ask_field-requires g t c κs within =
    let smaller = one_is_smaller {T = g.row.T.Denot} c.args.pairs.now.entries c.loop-name.rest.left _ c.in-Some.name.now c.in-Some.expr.now c.loop-name.invariant.within c.in-Some.ensures in
    (omega (arith, smaller), search rules)

pub ask_fields-loop-name-preserved : goal.ask_fields-loop-name-preserved
ask_fields-loop-name-preserved g t c =
    record {
      asked = field_goes_on (g.F.Functions.signatures c.args.table.now) (attributes_of c.args.attrs.now) (openness_of c.args.tag) c.loop-name.rest.left c.next_of.new.fields.left c.in-Some.name.now c.in-Some.expr.now c.declared_of.result c.in_ok-ask_field.field-0 _
          c.loop-name.invariant.asked c.in-Some.ensures c.declared_of.ensures c.in_ok-ask_field.ensures c.if-not-branch.false;
      within = fewer_are_smaller {T = g.row.T.Denot} c.args.pairs.now.entries c.loop-name.rest.left _ c.in-Some.name.now c.in-Some.expr.now c.loop-name.invariant.within c.in-Some.ensures;
    }

pub ask_each-returns-then-not-branch : goal.ask_each-returns-then-not-branch
ask_each-returns-then-not-branch g t c = grind (arith, common_steps)

pub ask_each-loop-expr-preserved : goal.ask_each-loop-expr-preserved
ask_each-loop-expr-preserved g t c = grind (arith, common_steps)

pub ask_each-returns : goal.ask_each-returns
ask_each-returns g t c = grind (arith, common_steps)

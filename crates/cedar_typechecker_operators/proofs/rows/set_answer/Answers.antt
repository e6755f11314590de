use Rattle.std.proofs.Common.{◌≡◌, ◌∙◌, map, refl, ap, sym, None, Some, option_map, option_and_then}
use Rattle.cedar_expr_model.specs.Builder.{trees}
use Rattle.cedar_expr_model.specs.Lists.{all_given}
use Rattle.cedar_expr_model.specs.Tree.{set_literal}
use Rattle.cedar_expr_trees.specs.Trees.{tree_of, kind_tree}
use Rattle.cedar_schema_types.specs.Types.{type_of}
use Rattle.cedar_typechecker_environments.specs.Settings.{setting_of}
use Rattle.cedar_typechecker_model.specs.Rules.{set_literal_type}
use Rattle.cedar_typechecker_model.specs.Typing.{plain}
use Rattle.cedar_typechecker_answers.specs.Marked.{kind_marks}
use Rattle.cedar_typechecker_model.specs.Typed.{set_typed, noted}
use Rattle.cedar_typechecker_operators.specs.Rows.{type_at, row_found}
use Rattle.cedar_typechecker_operators.proofs.TypedRows.{row_lacks, row_has, answered}
use Rattle.cedar_typechecker_operators.proofs.rows.set_answer.Goals as goal

pub returns-in_default-2 : goal.returns-in_default-2
returns-in_default-2 g c =
    let s = setting_of g.S.DeclaredAttributes.schema g.S.TypingSchema.table c.args.world.now in
    let row = c.in-Some.row.items in
    let none : None ≡ option_map (set_literal_type s.mode) (all_given type_at row) = ap (option_map (option_map type_of)) (sym c.in_default-2.is) ∙ c.in_ok-ty.ensures ∙ ap (λ es. option_map (set_literal_type s.mode) (all_given type_at es)) c.as_slice.ensures.value in
    c.no_type-in_default-2.ensures ∙ row_lacks (set_literal_type s.mode) (set_typed s) row none ∙ ap (λ o. option_and_then (set_typed s) (row_found o)) (sym c.in-Some.is)

pub returns : goal.returns
returns g c =
    let s = setting_of g.S.DeclaredAttributes.schema g.S.TypingSchema.table c.args.world.now in
    let row = c.in-Some.row.items in
    let ty = option_map type_of c.in-Some-2.ty in
    let found : Some ty ≡ option_map (set_literal_type s.mode) (all_given type_at row) = ap (option_map (option_map type_of)) (sym c.in-Some-2.is) ∙ c.in_ok-ty.ensures ∙ ap (λ es. option_map (set_literal_type s.mode) (all_given type_at es)) c.as_slice.ensures.value in
    answered c.plain_node.result (noted (kind_tree c.in_ok-kind.kind) (kind_marks c.in_ok-kind.kind) (plain ty)) (option_and_then (set_typed s) (row_found c.args.row))
    ((λ i. noted (c.in_ok-kind.ensures.tree i) (c.in_ok-kind.ensures.marks i) (plain ty))
    ∙ row_has (set_literal_type s.mode) ty row (set_literal (trees (map tree_of row))) (set_typed s) (λ us. refl) found
    ∙ ap (λ o. option_and_then (set_typed s) (row_found o)) (sym c.in-Some.is))
    c.plain_node.ensures

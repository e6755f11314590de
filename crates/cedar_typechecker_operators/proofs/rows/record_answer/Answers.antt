use Rattle.std.proofs.Common.{◌≡◌, ◌∙◌, ap, sym, None, Some, option_map, option_and_then}
use Rattle.cedar_expr_model.specs.Lists.{all_given}
use Rattle.cedar_expr_trees.specs.Trees.{kind_tree}
use Rattle.cedar_schema_types.specs.AttributeLists.{required_pairs}
use Rattle.cedar_schema_types.specs.Types.{type_of}
use Rattle.cedar_typechecker_model.specs.Typing.{plain}
use Rattle.cedar_typechecker_answers.specs.Marked.{kind_marks}
use Rattle.cedar_typechecker_model.specs.Typed.{record_typed, noted}
use Rattle.cedar_typechecker_operators.specs.Rows.{required_at, fields_found}
use Rattle.cedar_typechecker_operators.proofs.TypedRows.{fields_lack, fields_have, answered}
use Rattle.cedar_typechecker_operators.proofs.rows.record_answer.Goals as goal

pub returns-in_default-2 : goal.returns-in_default-2
returns-in_default-2 c =
    let row = c.in-Some.row.entries in
    let none : None ≡ all_given required_at row = ap (option_map (λ v. required_pairs v.items)) (sym c.in_default-2.is) ∙ c.in_ok-types.ensures.types in
    c.no_type-in_default-2.ensures ∙ fields_lack record_typed row none ∙ ap (λ o. option_and_then record_typed (fields_found o)) (sym c.in-Some.is)

pub returns : goal.returns
returns c =
    let row = c.in-Some.row.entries in
    let ds = required_pairs c.in-Some-2.types.items in
    let found : Some ds ≡ all_given required_at row = ap (option_map (λ v. required_pairs v.items)) (sym c.in-Some-2.is) ∙ c.in_ok-types.ensures.types in
    answered c.plain_node.result (noted (kind_tree c.in_ok-kind.kind) (kind_marks c.in_ok-kind.kind) (plain (Some (type_of c.in_ok-ty.ty)))) (option_and_then record_typed (fields_found c.args.row))
    ((λ i. noted (c.in_ok-kind.ensures.tree i) (c.in_ok-kind.ensures.marks i) (plain (Some (type_of c.in_ok-ty.ty))))
    ∙ fields_have row ds (type_of c.in_ok-ty.ty) c.in_ok-types.ensures.rising found c.in_ok-ty.ensures
    ∙ ap (λ o. option_and_then record_typed (fields_found o)) (sym c.in-Some.is))
    c.plain_node.ensures

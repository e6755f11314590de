use Rattle.std.proofs.Common.{◌≡◌, ◌∙◌, ap, sym, map, Some, option_map}
use Rattle.cedar_expr_model.specs.Builder.{trees}
use Rattle.cedar_expr_model.specs.Lists.{all_given}
use Rattle.cedar_expr_names.specs.Views.{plain_name_of}
use Rattle.cedar_expr_trees.specs.Trees.{tree_of}
use Rattle.cedar_schema_types.specs.Types.{type_of}
use Rattle.cedar_typechecker_environments.specs.Settings.{setting_of}
use Rattle.cedar_typechecker_model.specs.Rules.{call_type}
use Rattle.cedar_typechecker_operators.specs.Rows.{type_at}
use Rattle.cedar_typechecker_operators.proofs.rows.call_type_of.Goals as goal

pub returns-in_ok-call_type-in-Some : goal.returns-in_ok-call_type-in-Some
returns-in_ok-call_type-in-Some g c =
    let rule = call_type (setting_of g.S.DeclaredAttributes.schema g.S.TypingSchema.table c.args.world.now) (plain_name_of c.args.name.now) (trees (map tree_of c.args.args.now)) in
    let types : Some (map (λ t. type_of t.now) c.in-Some.types.items) ≡ all_given type_at c.args.row.now = ap (option_map (λ v. map (λ t. type_of t.now) v.items)) (sym c.in-Some.is) ∙ c.in_ok-types.ensures in
    ap Some (c.in_ok-call_type-in-Some.ensures ∙ ap (λ ts. rule (map (λ t. type_of t.now) ts)) c.as_slice.ensures.value)
    ∙ ap (option_map rule) types

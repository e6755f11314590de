use Rattle.std.proofs.Common.{rules, ◌≡◌, Some, ap, ◌∙◌}
use Rattle.std.specs.Rc.{rc_str_bytes}
use Rattle.cedar_expr_trees.specs.Trees.{tree_of}
use Rattle.cedar_schema_model.specs.Types.{any_bool, only_true}
use Rattle.cedar_schema_types.specs.Types.{type_of}
use Rattle.cedar_typechecker_environments.specs.Settings.{setting_of}
use Rattle.cedar_typechecker_model.specs.Rules.{has_type}
use Rattle.cedar_typechecker_operators.proofs.Ways.{ended_true, noted_along, noted_ended}
use Rattle.cedar_typechecker_operators.proofs.paths.ended.Goals as goal

pub returns-in-Some-True : goal.returns-in-Some-True
returns-in-Some-True g c =
    let s = setting_of g.S.DeclaredAttributes.schema g.S.TypingSchema.table c.args.world.now in
    let w = c.args.way in
    let a = rc_str_bytes c.args.attr.now in
    let has : has_type s (type_of w.ty) a ≡ Some only_true = search rules in
    ap Some c.tests_of.ensures ∙ ended_true s a (tree_of w.at.value) (type_of w.ty) w.facts.items has

pub tests_of-requires-in-Some-AnyBool : goal.tests_of-requires-in-Some-AnyBool
tests_of-requires-in-Some-AnyBool g c =
    let s = setting_of g.S.DeclaredAttributes.schema g.S.TypingSchema.table c.args.world.now in
    noted_along s c.args.way (rc_str_bytes c.args.attr.now) c.in_ok-noted-in-Some-AnyBool.field-0 c.in_ok-noted-in-Some-AnyBool.ensures c.requires

pub returns : goal.returns
returns g c =
    let s = setting_of g.S.DeclaredAttributes.schema g.S.TypingSchema.table c.args.world.now in
    let w = c.args.way in
    let a = rc_str_bytes c.args.attr.now in
    let has : has_type s (type_of w.ty) a ≡ Some any_bool = search rules in
    ap Some c.tests_of-in-Some-AnyBool.ensures ∙ noted_ended s w a c.in_ok-noted-in-Some-AnyBool.field-0 c.in_ok-noted-in-Some-AnyBool.ensures has

use Rattle.std.proofs.Common.{rules, ◌≡◌, ◌∷◌, Some}
use Rattle.std.specs.Rc.{rc_str_bytes}
use Rattle.cedar_expr_trees.specs.Trees.{tree_of}
use Rattle.cedar_schema_model.specs.Types.{any_bool, only_true}
use Rattle.cedar_schema_types.specs.Types.{type_of}
use Rattle.cedar_typechecker_environments.specs.Settings.{setting_of}
use Rattle.cedar_typechecker_model.specs.Rules.{has_type}
use Rattle.cedar_typechecker_operators.specs.Ways.{judged_on, judged_past}
use Rattle.cedar_typechecker_operators.proofs.Ways.{passed_true, noted_past, noted_judged, passes_so}
use Rattle.cedar_typechecker_operators.proofs.paths.past.Goals as goal

pub returns-in-Some-True : goal.returns-in-Some-True
returns-in-Some-True g c =
    let s = setting_of g.S.DeclaredAttributes.schema g.S.TypingSchema.table c.args.world.now in
    let w = c.args.way in
    let a = rc_str_bytes c.args.attr.now in
    let has : has_type s (type_of w.ty) a ≡ Some only_true = search rules in
    passes_so s c.gone_on.result (judged_past s w a) (λ b bs. judged_on s w a (b ∷ bs)) (λ b bs. passed_true s a (tree_of w.at.value) (type_of w.ty) w.facts.items b bs has) c.gone_on.ensures

pub gone_on-requires-in-Some-AnyBool : goal.gone_on-requires-in-Some-AnyBool
gone_on-requires-in-Some-AnyBool g c =
    let s = setting_of g.S.DeclaredAttributes.schema g.S.TypingSchema.table c.args.world.now in
    noted_past s c.args.way (rc_str_bytes c.args.attr.now) c.in_ok-noted-in-Some-AnyBool.field-0 c.in_ok-noted-in-Some-AnyBool.ensures c.requires

pub returns : goal.returns
returns g c =
    let s = setting_of g.S.DeclaredAttributes.schema g.S.TypingSchema.table c.args.world.now in
    let w = c.args.way in
    let a = rc_str_bytes c.args.attr.now in
    let v = c.in_ok-noted-in-Some-AnyBool.field-0 in
    let has : has_type s (type_of w.ty) a ≡ Some any_bool = search rules in
    passes_so s c.gone_on-in-Some-AnyBool.result (judged_past s v a) (λ b bs. judged_on s w a (b ∷ bs)) (noted_judged s w a v c.in_ok-noted-in-Some-AnyBool.ensures has) c.gone_on-in-Some-AnyBool.ensures

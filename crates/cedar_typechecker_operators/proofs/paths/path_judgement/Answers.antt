use Rattle.std.proofs.Common.{◌≡◌, ◌+◌, map, drop, ap}
use Rattle.std.specs.Rc.{rc_str_bytes}
use Rattle.cedar_expr_trees.specs.Trees.{tree_of}
use Rattle.cedar_schema_types.specs.Types.{type_of}
use Rattle.cedar_typechecker_environments.specs.Settings.{setting_of}
use Rattle.cedar_typechecker_model.specs.Typing.{path_judged}
use Rattle.cedar_typechecker_answers.proofs.Copied.{drop_here}
use Rattle.cedar_typechecker_operators.proofs.Ways.{from_start, goes_on, is_done}
use Rattle.cedar_typechecker_operators.proofs.paths.path_judgement.Goals as goal

pub loop-next-init : goal.loop-next-init
loop-next-init g c =
    let s = setting_of g.S.DeclaredAttributes.schema g.S.TypingSchema.table c.args.world.now in
    let begun = c.in_ok-way.ensures in
    from_start s c.in_ok-way.way (rc_str_bytes c.args.attr.now) (map rc_str_bytes c.args.further.now) (tree_of c.args.of.now.value) (type_of c.args.ty.now) begun.0 begun.1 begun.2

pub returns-in-Done : goal.returns-in-Done
returns-in-Done g c =
    let s = setting_of g.S.DeclaredAttributes.schema g.S.TypingSchema.table c.args.world.now in
    let whole = path_judged s (rc_str_bytes c.args.attr.now) (map rc_str_bytes c.args.further.now) (tree_of c.args.of.now.value) (type_of c.args.ty.now) in
    let i = c.loop-next.next-index in
    let item = c.next-item.result in
    let here = ap (map rc_str_bytes) (drop_here c.args.further.now i item _ c.loop-next-test.true c.next-item.is) in
    let passed = rw c.in-Done.is at c.in_ok-on.ensures in
    is_done s whole c.loop-next.way (rc_str_bytes c.loop-next.name.now) (map rc_str_bytes (drop i c.args.further.now)) c.loop-next.invariant c.in-Done.judged (rc_str_bytes item) (map rc_str_bytes (drop (i + 1) c.args.further.now)) here passed

pub loop-next-preserved : goal.loop-next-preserved
loop-next-preserved g c =
    let s = setting_of g.S.DeclaredAttributes.schema g.S.TypingSchema.table c.args.world.now in
    let whole = path_judged s (rc_str_bytes c.args.attr.now) (map rc_str_bytes c.args.further.now) (tree_of c.args.of.now.value) (type_of c.args.ty.now) in
    let i = c.loop-next.next-index in
    let item = c.next-item.result in
    let here = ap (map rc_str_bytes) (drop_here c.args.further.now i item _ c.loop-next-test.true c.next-item.is) in
    let passed = rw c.in-On.is at c.in_ok-on.ensures in
    goes_on s whole c.loop-next.way (rc_str_bytes c.loop-next.name.now) (map rc_str_bytes (drop i c.args.further.now)) c.loop-next.invariant c.in-On.on (rc_str_bytes item) (map rc_str_bytes (drop (i + 1) c.args.further.now)) here passed

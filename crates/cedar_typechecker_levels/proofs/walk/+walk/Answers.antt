use Rattle.std.proofs.Common.{rules, arith, Option, Some, None, map, sym, ap, ◌∙◌, ◌++◌, append-nil}
use Rattle.std.proofs.lemmas.Grind.{common_steps}
use Rattle.std.specs.BTreeMap.{values}
use Rattle.std.specs.List.{flat_map}
use Rattle.std.specs.Rc.{rc_str_bytes}
use Rattle.std.specs.declared.alloc.Global.{Global}
use Rattle.std.specs.declared.collections.BTreeMap.{BTreeMap}
use Rattle.std.specs.declared.rc.RcStr.{RcStr}
use Rattle.cedar_expr_trees.specs.declared.expr.Expr.{Expr}
use Rattle.cedar_expr_trees.proofs.Sizes.{arguments_are_smaller}
use Rattle.cedar_schema_types.specs.declared.types.Type.{«Type» as CodeType}
use Rattle.cedar_typechecker_environments.specs.Settings.{setting_of}
use Rattle.cedar_typechecker_levels.specs.InRows.{reported_of, reached_of, others_in, reached_in}
use Rattle.cedar_typechecker_levels.specs.Paths.{path_of}
use Rattle.cedar_typechecker_levels.specs.Views.{violation_of}
use Rattle.cedar_typechecker_levels.proofs.OfKinds.{members_are_smaller, call_reported, set_reported, record_reported, record_reached_all, record_reached}
use Rattle.cedar_typechecker_levels.proofs.Finding.{reached_found, later_are_smaller, fewer}
use Rattle.cedar_typechecker_levels.proofs.Walking.{goes, goes_on, fields_on, fields_end, others_end}
use Rattle.cedar_typechecker_levels.proofs.walk.+walk.Goals as goal

pub report-report_all-requires : goal.report-report_all-requires
report-report_all-requires g t c κs within =
    let made = c.in-ExtensionFunctionApp in
    let smaller = arguments_are_smaller {T = Option CodeType} c.args.expr.now made.fn_name made.args c.as_slice.result.now (sym c.expr_kind.ensures.kind ∙ made.is) (c.as_slice.ensures.value ∙ ap (λ v. v.items) c.deref-in-ExtensionFunctionApp.ensures) in
    (omega (arith, smaller), search rules)

pub report-report_all-requires-in-Set : goal.report-report_all-requires-in-Set
report-report_all-requires-in-Set g t c κs within =
    let made = c.in-Set in
    let smaller = members_are_smaller {T = Option CodeType} c.args.expr.now made.members c.as_slice-in-Set.result.now (sym c.expr_kind.ensures.kind ∙ made.is) (c.as_slice-in-Set.ensures.value ∙ ap (λ v. v.items) c.deref-in-Set.ensures) in
    (omega (arith, smaller), search rules)

pub reach-returns-in-None : goal.reach-returns-in-None
reach-returns-in-None g t c =
    let s = setting_of g.S.DeclaredAttributes.schema g.S.TypingSchema.table c.args.world.now in
    goes c.report_fields.result (map violation_of c.args.found.now.items) (map violation_of c.report_fields.new.found.items) (flat_map (reported_of c.args.level s) (values c.deref-in-None.result.now)) (reached_of c.args.level s (path_of c.args.path.now) c.args.expr.now)
    (record_reached_all c.args.level s c.args.expr.now (path_of c.args.path.now) c.in-Record.fields c.deref-in-None.result.now (sym c.expr_kind.ensures.kind ∙ c.in-Record.is) c.deref-in-None.ensures (sym c.in-None.ensures))
    c.report_fields.ensures

pub reach-returns-in_ok-report_others-in-Some : goal.reach-returns-in_ok-report_others-in-Some
reach-returns-in_ok-report_others-in-Some g t c =
    let s = setting_of g.S.DeclaredAttributes.schema g.S.TypingSchema.table c.args.world.now in
    let split = c.in-Some.split in
    goes_on c.reach_in.result (map violation_of c.args.found.now.items) (map violation_of c.report_others.new.found.items) (map violation_of c.reach_in.new.found.items)
    (others_in c.args.level s (rc_str_bytes split.name.now) c.deref-in-Some.result.now.entries) (reached_in c.args.level s (rc_str_bytes split.name.now) (path_of split.others) c.deref-in-Some-2.result.now.entries) (reached_of c.args.level s (path_of c.args.path.now) c.args.expr.now)
    c.in_ok-report_others-in-Some.ensures
    (ap (λ (y : BTreeMap (RcStr Global) (Expr (Option CodeType)) Global). others_in c.args.level s (rc_str_bytes split.name.now) c.deref-in-Some.result.now.entries ++ reached_in c.args.level s (rc_str_bytes split.name.now) (path_of split.others) y.entries) (c.deref-in-Some-2.ensures ∙ sym c.deref-in-Some.ensures)
    ∙ record_reached c.args.level s c.args.expr.now (path_of c.args.path.now) (rc_str_bytes split.name.now) (path_of split.others) c.in-Record.fields c.deref-in-Some.result.now (sym c.expr_kind.ensures.kind ∙ c.in-Record.is) c.deref-in-Some.ensures (sym c.in-Some.ensures))
    c.reach_in.ensures

pub reach_in-returns-in-Some : goal.reach_in-returns-in-Some
reach_in-returns-in-Some g t c =
    let s = setting_of g.S.DeclaredAttributes.schema g.S.TypingSchema.table c.args.world.now in
    goes c.reach.result (map violation_of c.args.found.now.items) (map violation_of c.reach.new.found.items) (reached_of c.args.level s (path_of c.args.others.now) c.in-Some.e.now) (reached_in c.args.level s (rc_str_bytes c.args.name.now) (path_of c.args.others.now) c.args.fields.now.entries)
    (reached_found (rc_str_bytes c.args.name.now) c.args.level s (path_of c.args.others.now) c.args.fields.now.entries (Some c.in-Some.e.now) c.in-Some.ensures.value)
    c.reach.ensures

pub reach_in-returns-in-None : goal.reach_in-returns-in-None
reach_in-returns-in-None g t c =
    let s = setting_of g.S.DeclaredAttributes.schema g.S.TypingSchema.table c.args.world.now in
    sym (append-nil (map violation_of c.args.found.now.items)) ∙ ap (λ vs. map violation_of c.args.found.now.items ++ vs) (reached_found (rc_str_bytes c.args.name.now) c.args.level s (path_of c.args.others.now) c.args.fields.now.entries None c.in-None.ensures.value)

pub report-returns-in-ExtensionFunctionApp : goal.report-returns-in-ExtensionFunctionApp
report-returns-in-ExtensionFunctionApp g t c =
    let s = setting_of g.S.DeclaredAttributes.schema g.S.TypingSchema.table c.args.world.now in
    let made = c.in-ExtensionFunctionApp in
    goes c.report_all.result (map violation_of c.args.found.now.items) (map violation_of c.report_all.new.found.items) (flat_map (reported_of c.args.level s) c.as_slice.result.now) (reported_of c.args.level s c.args.expr.now)
    (call_reported c.args.level s c.args.expr.now made.fn_name made.args c.as_slice.result.now (sym c.expr_kind.ensures.kind ∙ made.is) (c.as_slice.ensures.value ∙ ap (λ v. v.items) c.deref-in-ExtensionFunctionApp.ensures))
    c.report_all.ensures

pub report-returns-in-Set : goal.report-returns-in-Set
report-returns-in-Set g t c =
    let s = setting_of g.S.DeclaredAttributes.schema g.S.TypingSchema.table c.args.world.now in
    let made = c.in-Set in
    goes c.report_all-in-Set.result (map violation_of c.args.found.now.items) (map violation_of c.report_all-in-Set.new.found.items) (flat_map (reported_of c.args.level s) c.as_slice-in-Set.result.now) (reported_of c.args.level s c.args.expr.now)
    (set_reported c.args.level s c.args.expr.now made.members c.as_slice-in-Set.result.now (sym c.expr_kind.ensures.kind ∙ made.is) (c.as_slice-in-Set.ensures.value ∙ ap (λ v. v.items) c.deref-in-Set.ensures))
    c.report_all-in-Set.ensures

pub report-returns-in-Record : goal.report-returns-in-Record
report-returns-in-Record g t c =
    let s = setting_of g.S.DeclaredAttributes.schema g.S.TypingSchema.table c.args.world.now in
    goes c.report_fields.result (map violation_of c.args.found.now.items) (map violation_of c.report_fields.new.found.items) (flat_map (reported_of c.args.level s) (values c.deref-in-Record.result.now)) (reported_of c.args.level s c.args.expr.now)
    (record_reported c.args.level s c.args.expr.now c.in-Record.fields c.deref-in-Record.result.now (sym c.expr_kind.ensures.kind ∙ c.in-Record.is) c.deref-in-Record.ensures)
    c.report_fields.ensures

pub report_fields-loop-e-smaller : goal.report_fields-loop-e-smaller
report_fields-loop-e-smaller g t c = fewer c.loop-e.left.left c.next_field.new.fields.left _ c.in-Some.ensures

pub report_others-loop-key-smaller : goal.report_others-loop-key-smaller
report_others-loop-key-smaller g t c = fewer c.loop-key.left.left c.next_field.new.fields.left (c.in-Some.key.now, c.in-Some.e.now) c.in-Some.ensures

pub report_fields-loop-e-preserved : goal.report_fields-loop-e-preserved
report_fields-loop-e-preserved g t c =
    let s = setting_of g.S.DeclaredAttributes.schema g.S.TypingSchema.table c.args.world.now in (
      fields_on c.args.level s _ c.loop-e.left.left c.next_field.new.fields.left (map violation_of c.loop-e.found.items) (map violation_of c.report.new.found.items) _ c.in-Some.e.now c.loop-e.invariant.0 c.in-Some.ensures c.in_ok-report.ensures,
      later_are_smaller c.args.fields.now.entries c.loop-e.left.left c.next_field.new.fields.left _ c.in-Some.e.now c.loop-e.invariant.1 c.in-Some.ensures,
    )

pub report_fields-returns : goal.report_fields-returns
report_fields-returns g t c = fields_end c.args.level (setting_of g.S.DeclaredAttributes.schema g.S.TypingSchema.table c.args.world.now) _ c.loop-e.left.left (map violation_of c.loop-e.found.items) c.loop-e.invariant.0 c.in_default.ensures

pub report_others-returns : goal.report_others-returns
report_others-returns g t c = others_end c.args.level (setting_of g.S.DeclaredAttributes.schema g.S.TypingSchema.table c.args.world.now) (rc_str_bytes c.args.name.now) c.args.fields.now.entries c.loop-key.left.left (map violation_of c.args.found.now.items) (map violation_of c.loop-key.found.items) c.loop-key.is_past c.loop-key.invariant.0 c.in_default.ensures

pub reach-returns-in_ok-reach-in-true-true : goal.reach-returns-in_ok-reach-in-true-true
reach-returns-in_ok-reach-in-true-true g t c = grind (arith, common_steps)

pub reach-returns-in-true-false : goal.reach-returns-in-true-false
reach-returns-in-true-false g t c = grind (arith, common_steps)

pub reach-returns-in-false-true : goal.reach-returns-in-false-true
reach-returns-in-false-true g t c = grind (arith, common_steps)

pub reach-returns-in-false-false : goal.reach-returns-in-false-false
reach-returns-in-false-false g t c = grind (arith, common_steps)

pub report-returns-in_ok-report-in-true-true : goal.report-returns-in_ok-report-in-true-true
report-returns-in_ok-report-in-true-true g t c = grind (arith, common_steps)

pub report-returns-in-true-false : goal.report-returns-in-true-false
report-returns-in-true-false g t c = grind (arith, common_steps)

pub report-returns-in-false-true : goal.report-returns-in-false-true
report-returns-in-false-true g t c = grind (arith, common_steps)

pub report-returns-in-false-false : goal.report-returns-in-false-false
report-returns-in-false-false g t c = grind (arith, common_steps)

pub report-returns-in_ok-report-in-BinaryApp : goal.report-returns-in_ok-report-in-BinaryApp
report-returns-in_ok-report-in-BinaryApp g t c = let h = c.if-looks_up.ensures in grind (arith, common_steps)

pub report-returns-in_ok-add_step-in-ExtHasAttr : goal.report-returns-in_ok-add_step-in-ExtHasAttr
report-returns-in_ok-add_step-in-ExtHasAttr g t c = grind (arith, common_steps)

pub report-returns-then-may_be_true-2 : goal.report-returns-then-may_be_true-2
report-returns-then-may_be_true-2 g t c = let h = c.if-may_be_true-2.ensures in grind (arith, common_steps)

pub report-returns-else-may_be_true-2 : goal.report-returns-else-may_be_true-2
report-returns-else-may_be_true-2 g t c = let h = c.if-may_be_true-2.ensures in grind (arith, common_steps)

pub report-returns-then-may_be_false-2 : goal.report-returns-then-may_be_false-2
report-returns-then-may_be_false-2 g t c = let h = c.if-may_be_false-2.ensures in grind (arith, common_steps)

pub report-returns-else-may_be_false-2 : goal.report-returns-else-may_be_false-2
report-returns-else-may_be_false-2 g t c = let h = c.if-may_be_false-2.ensures in grind (arith, common_steps)

pub report-returns-then-more-eq0 : goal.report-returns-then-more-eq0
report-returns-then-more-eq0 g t c = grind (arith, common_steps)

use Rattle.std.proofs.Common.{◌≡◌, ◌≤◌, ◌++◌, map, take, length, Option}
use denote.Param.Weighed.{most}
use Rattle.std.specs.Map.{values_of}
use Rattle.std.specs.BTreeMap.{values}
use Rattle.std.specs.List.{flat_map}
use Rattle.std.specs.Rc.{rc_str_bytes}
use Rattle.cedar_expr_trees.specs.declared.expr.Expr.{size-Expr}
use Rattle.cedar_schema_types.specs.declared.types.Type.{«Type» as CodeType}
use Rattle.cedar_typechecker_environments.specs.Settings.{setting_of}
use Rattle.cedar_typechecker_levels.specs.InRows.{reported_of}
use Rattle.cedar_typechecker_levels.specs.Views.{violation_of}
use Rattle.cedar_typechecker_levels.proofs.Walking.{OthersSoFar}
use Rattle.cedar_typechecker_levels.proofs.walk.+walk.Given as goal

abbrev pub invariant-report_all-loop-e : goal.invariant-report_all-loop-e
invariant-report_all-loop-e g l = map violation_of l.found.items ≡ map violation_of l.initial.found.items ++ flat_map (reported_of l.level (setting_of g.S.DeclaredAttributes.schema g.S.TypingSchema.table l.world)) (take l.e-index l.exprs)

abbrev pub invariant-report_fields-loop-e : goal.invariant-report_fields-loop-e
invariant-report_fields-loop-e g l =
    (map violation_of l.initial.found.items ++ flat_map (reported_of l.level (setting_of g.S.DeclaredAttributes.schema g.S.TypingSchema.table l.world)) (values l.fields)
    ≡ map violation_of l.found.items ++ flat_map (reported_of l.level (setting_of g.S.DeclaredAttributes.schema g.S.TypingSchema.table l.world)) (values_of l.left.left))
    × (most (size-Expr (Option CodeType)) (values_of l.left.left) ≤ most (size-Expr (Option CodeType)) (values_of l.fields.entries))

abbrev pub decreases-report_fields-loop-e : goal.decreases-report_fields-loop-e
decreases-report_fields-loop-e g l = length l.left.left

abbrev pub invariant-report_others-loop-key : goal.invariant-report_others-loop-key
invariant-report_others-loop-key g l =
    OthersSoFar l.level (setting_of g.S.DeclaredAttributes.schema g.S.TypingSchema.table l.world) (rc_str_bytes l.name) l.fields.entries (map violation_of l.initial.found.items) (map violation_of l.found.items) l.is_past l.left.left
    × (most (size-Expr (Option CodeType)) (values_of l.left.left) ≤ most (size-Expr (Option CodeType)) (values_of l.fields.entries))

abbrev pub decreases-report_others-loop-key : goal.decreases-report_others-loop-key
decreases-report_others-loop-key g l = length l.left.left

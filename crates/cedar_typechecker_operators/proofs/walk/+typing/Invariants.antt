use Rattle.std.proofs.Common.{drop, map, ◌+◌, ◌*◌}
use Rattle.std.specs.Prelude.{max}
use Rattle.cedar_expr_trees.specs.declared.expr.Expr.{size-Expr}
use Rattle.std.specs.Rc.{rc_str_bytes}
use Rattle.cedar_typechecker_environments.specs.Facts.{facts_of}
use Rattle.cedar_typechecker_environments.specs.Settings.{setting_of}
use Rattle.cedar_typechecker_answers.proofs.Copied.{Gathered}
use Rattle.cedar_typechecker_operators.proofs.InRows.{RowSoFar, FieldsSoFar}
use Rattle.cedar_typechecker_operators.proofs.walk.+typing.Given as goal

abbrev pub decreases-typecheck : goal.decreases-typecheck
decreases-typecheck g l = 3 * goal.size-typecheck g l

abbrev pub decreases-typecheck_if : goal.decreases-typecheck_if
decreases-typecheck_if g l = 3 * max (size-Expr Unit l.test.now) (max (size-Expr Unit l.first.now) (size-Expr Unit l.second.now)) + 2

abbrev pub decreases-typecheck_and : goal.decreases-typecheck_and
decreases-typecheck_and g l = 3 * max (size-Expr Unit l.left.now) (size-Expr Unit l.right.now) + 2

abbrev pub decreases-typecheck_or : goal.decreases-typecheck_or
decreases-typecheck_or g l = 3 * max (size-Expr Unit l.left.now) (size-Expr Unit l.right.now) + 2

abbrev pub decreases-typecheck_binary : goal.decreases-typecheck_binary
decreases-typecheck_binary g l = 3 * max (size-Expr Unit l.arg1.now) (size-Expr Unit l.arg2.now) + 2

abbrev pub decreases-typecheck_unary : goal.decreases-typecheck_unary
decreases-typecheck_unary g l = 3 * goal.size-typecheck_unary g l + 2

abbrev pub decreases-typecheck_call : goal.decreases-typecheck_call
decreases-typecheck_call g l = 3 * goal.size-typecheck_call g l + 2

abbrev pub decreases-typecheck_get_attr : goal.decreases-typecheck_get_attr
decreases-typecheck_get_attr g l = 3 * goal.size-typecheck_get_attr g l + 2

abbrev pub decreases-typecheck_has_attr : goal.decreases-typecheck_has_attr
decreases-typecheck_has_attr g l = 3 * goal.size-typecheck_has_attr g l + 2

abbrev pub decreases-typecheck_has_path : goal.decreases-typecheck_has_path
decreases-typecheck_has_path g l = 3 * goal.size-typecheck_has_path g l + 2

abbrev pub decreases-typecheck_like : goal.decreases-typecheck_like
decreases-typecheck_like g l = 3 * goal.size-typecheck_like g l + 2

abbrev pub decreases-typecheck_is : goal.decreases-typecheck_is
decreases-typecheck_is g l = 3 * goal.size-typecheck_is g l + 2

abbrev pub decreases-typecheck_set : goal.decreases-typecheck_set
decreases-typecheck_set g l = 3 * goal.size-typecheck_set g l + 2

abbrev pub decreases-typecheck_record : goal.decreases-typecheck_record
decreases-typecheck_record g l = 3 * goal.size-typecheck_record g l + 2

abbrev pub decreases-typecheck_all : goal.decreases-typecheck_all
decreases-typecheck_all g l = 3 * goal.size-typecheck_all g l + 1

abbrev pub decreases-typecheck_fields : goal.decreases-typecheck_fields
decreases-typecheck_fields g l = 3 * goal.size-typecheck_fields g l + 1

abbrev pub invariant-typecheck_all-loop-e : goal.invariant-typecheck_all-loop-e
invariant-typecheck_all-loop-e g l = RowSoFar (setting_of g.S.DeclaredAttributes.schema g.S.TypingSchema.table l.world) (facts_of l.known) l.exprs l.row.items (drop l.e-index l.exprs)

abbrev pub invariant-typecheck_fields-loop-name : goal.invariant-typecheck_fields-loop-name
invariant-typecheck_fields-loop-name g l =
    record {
      typed : FieldsSoFar (setting_of g.S.DeclaredAttributes.schema g.S.TypingSchema.table l.world) (facts_of l.known) l.fields.entries l.row.items l.name-iterator;
      names : Gathered (λ e. rc_str_bytes e.0) (λ e. rc_str_bytes e.0) (map (λ e. rc_str_bytes e.0) l.fields.entries) l.row.items l.name-iterator;
    }

use Rattle.std.proofs.Common.{◌≡◌}
use Rattle.cedar_expr_model.specs.Lists.{all_given}
use Rattle.cedar_schema_types.specs.AttributeLists.{required_pairs}
use Rattle.cedar_typechecker_rules.proofs.Gathered.{left_to_give}
use Rattle.cedar_typechecker_operators.specs.Rows.{required_at}
use Rattle.cedar_typechecker_operators.proofs.rows.field_types.Given as goal

abbrev pub invariant-loop-name : goal.invariant-loop-name
invariant-loop-name l = left_to_give required_at (required_pairs l.types.items) l.name-iterator ≡ all_given required_at l.row.entries

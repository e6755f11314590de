use Rattle.std.proofs.Common.{◌≡◌, map, drop}
use Rattle.cedar_expr_model.specs.Lists.{all_given}
use Rattle.cedar_schema_types.specs.Types.{type_of}
use Rattle.cedar_typechecker_rules.proofs.Gathered.{left_to_give}
use Rattle.cedar_typechecker_operators.specs.Rows.{type_at}
use Rattle.cedar_typechecker_operators.proofs.rows.row_types.Given as goal

abbrev pub invariant-loop-e : goal.invariant-loop-e
invariant-loop-e l = left_to_give type_at (map (λ t. type_of t.now) l.types.items) (drop l.e-index l.row) ≡ all_given type_at l.row

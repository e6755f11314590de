use Rattle.std.proofs.Common.{◌≡◌}
use Rattle.cedar_expr_model.specs.Builder.{tree_fields}
use Rattle.cedar_expr_trees.specs.Trees.{named, field_trees}
use Rattle.cedar_schema_types.specs.Types.{attributes_of}
use Rattle.cedar_schema_model.specs.Restricted.{has_required_fields}
use Rattle.cedar_schema_joins.proofs.Asking.{required_left}
use Rattle.cedar_schema_joins.proofs.restricted.has_required.Given as goal

abbrev pub invariant-loop-name : goal.invariant-loop-name
invariant-loop-name g l = required_left l.pairs.entries l.name-iterator ≡ has_required_fields (attributes_of l.attrs) (tree_fields (named (field_trees l.pairs.entries)))

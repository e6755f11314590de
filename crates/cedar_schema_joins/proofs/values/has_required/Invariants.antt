use Rattle.std.proofs.Common.{◌≡◌, map}
use Rattle.cedar_expr_model.specs.Records.{fields}
use Rattle.cedar_expr_values.specs.Values.{bare_pair}
use Rattle.cedar_schema_model.specs.HasType.{has_required}
use Rattle.cedar_schema_types.specs.Types.{attributes_of}
use Rattle.cedar_schema_joins.proofs.Fitting.{all_there}
use Rattle.cedar_schema_joins.proofs.values.has_required.Given as goal

abbrev pub invariant-loop-name : goal.invariant-loop-name
invariant-loop-name g l =
    all_there g.X.ExtensionValue.seen l.pairs.entries l.name-iterator
    ≡ has_required (attributes_of l.attrs) (fields (map (bare_pair g.X.ExtensionValue.seen) l.pairs.entries))

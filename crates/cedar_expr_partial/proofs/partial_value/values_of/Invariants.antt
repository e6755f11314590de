use Rattle.std.proofs.Common.{◌≡◌, map}
use Rattle.std.specs.List.{filter_map}
use Rattle.cedar_expr_model.specs.ValueParts.{known_value}
use Rattle.cedar_expr_values.specs.Values.{made}
use Rattle.cedar_expr_partial.specs.Parts.{part_of}
use Rattle.cedar_expr_partial.proofs.partial_value.values_of.Given as goal

abbrev pub invariant-loop-item : goal.invariant-loop-item
invariant-loop-item g l = map (made g.X.ExtensionValue.seen) l.values.items ≡ filter_map known_value (map (part_of g.X.ExtensionValue.seen) l.yielded)

use Rattle.std.proofs.Common.{◌≡◌, map}
use Rattle.cedar_expr_model.specs.Records.{in_order}
use Rattle.cedar_expr_values.specs.Fields.{by_text}
use Rattle.cedar_expr_values.proofs.fields.field_map.Given as goal

abbrev pub invariant-loop-name : goal.invariant-loop-name
invariant-loop-name g l = map by_text l.fields.entries ≡ in_order (map by_text l.yielded)

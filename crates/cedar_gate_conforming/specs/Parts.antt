-- Attributes or tags in a row.
-- Rule: conforming entities (docs/RULES.md).
use Rattle.std.specs.Prelude.{List, map}
use Rattle.std.specs.declared.alloc.Global.{Global}
use Rattle.std.specs.declared.rc.RcStr.{RcStr}
use Rattle.cedar_expr_model.specs.Name.{Text}
use Rattle.cedar_expr_model.specs.Value.{V}
use Rattle.cedar_expr_model.specs.ValueParts.{Part}
use Rattle.cedar_expr_partial.specs.declared.partial_value.PartialValue.{PartialValue}
use Rattle.cedar_expr_values.specs.declared.extension.ExtValue.{ExtValue}
use Rattle.cedar_store_entities.specs.Views.{bare_part, part_pair}

-- attributes or tags that are left, by their names
abbrev pub parts_left : List (RcStr Global × PartialValue ExtValue) → List (Text × Part V)
parts_left es = map (λ p. (p.0, bare_part p.1)) (map part_pair es)

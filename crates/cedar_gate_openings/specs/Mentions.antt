-- What the mentions of the code's values and entities are.
-- Rule: mentions (docs/RULES.md).
use Rattle.std.specs.Prelude.{List, map}
use Rattle.std.specs.declared.alloc.Global.{Global}
use Rattle.std.specs.declared.rc.RcStr.{RcStr}
use Rattle.cedar_expr_model.specs.Uid.{Uid}
use Rattle.cedar_expr_model.specs.Records.{fields}
use Rattle.cedar_expr_names.specs.Views.{uid_of}
use Rattle.cedar_expr_names.specs.declared.entity.EntityUID.{EntityUID}
use Rattle.cedar_expr_partial.specs.declared.partial_value.PartialValue.{PartialValue}
use Rattle.cedar_expr_values.specs.Extension.{Extension}
use Rattle.cedar_expr_values.specs.Values.{bare_pair}
use Rattle.cedar_expr_values.specs.declared.extension.ExtValue.{ExtValue}
use Rattle.cedar_expr_values.specs.declared.value.Value.{Value}
use Rattle.cedar_store_entities.specs.Views.{bare_part, part_pair}
use Rattle.cedar_typechecker_model.specs.Slice.{mentioned_in_fields, mentioned_by_parts}

-- the uids of a list
abbrev pub uids : List EntityUID → List Uid
uids us = map uid_of us

-- what fields mention
abbrev pub mentioned_in : {X : Type 0} → (X → Extension) → List (RcStr Global × Value X) → List Uid
mentioned_in seen es = mentioned_in_fields (fields (map (bare_pair seen) es))

-- what attributes or tags mention
abbrev pub mentioned_by_these : List (RcStr Global × PartialValue ExtValue) → List Uid
mentioned_by_these ps = mentioned_by_parts (map (λ p. (p.0, bare_part p.1)) (map part_pair ps))

-- The text of why pairs make no map.
-- Rule: texts (docs/RULES.md).
use Rattle.std.specs.Prelude.{◌++◌, Option, Some, option_map, codes}
use Rattle.cedar_expr_model.specs.Name.{Text}
use Rattle.cedar_expr_functions.specs.declared.err.CollectError.{CollectError}
use Rattle.cedar_expr_functions.specs.declared.err.CollectError.TheVariants.{OutOfMemory, Repeated}

-- out of memory by its words, a repeated key with its own text
abbrev pub collect_text : {K : Type 0} → (K → Option Text) → CollectError K → Option Text
collect_text own OutOfMemory = Some (codes "out of memory")
collect_text own (Repeated k) = option_map (λ t. codes "duplicate key `" ++ (t ++ codes "`")) (own k)

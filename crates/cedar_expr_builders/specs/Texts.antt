-- The text of what a builder answers where it makes nothing.
-- Rule: texts (docs/RULES.md).
use Rattle.std.specs.Prelude.{Option, Some, codes}
use Rattle.cedar_expr_model.specs.Name.{Text}
use Rattle.cedar_expr_builders.specs.declared.err.BuildFault.{BuildFault}
use Rattle.cedar_expr_builders.specs.declared.err.BuildFault.TheVariants.{OutOfMemory, Refused}

-- out of memory by its words, a refusal by its own text
abbrev pub fault_text : {E : Type 0} → (E → Option Text) → BuildFault E → Option Text
fault_text own OutOfMemory = Some (codes "out of memory")
fault_text own (Refused e) = own e

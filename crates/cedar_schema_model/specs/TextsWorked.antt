-- The types of the worked examples on texts.
-- Rule: texts of types (docs/RULES.md).
use Rattle.std.specs.Prelude.{codes, true, false}
use Rattle.cedar_schema_model.specs.Types.{Attributes, no_attributes, attribute, long_type, any_set}

-- a required `a`, and an optional `b c`
abbrev pub two_attributes : Attributes
two_attributes = attribute (codes "a") long_type true (attribute (codes "b c") any_set false no_attributes)

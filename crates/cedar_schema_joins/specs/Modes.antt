-- What the code's modes are in the model.
-- Rule: subtypes; joins (docs/RULES.md).
use Rattle.cedar_schema_model.specs.Types as model
use Rattle.cedar_store_parts.specs.declared.validation_mode.ValidationMode.{ValidationMode}
use Rattle.cedar_store_parts.specs.declared.validation_mode.ValidationMode.TheVariants.{Strict, Permissive}

abbrev pub mode_of : ValidationMode → model.Mode
mode_of Strict = model.strict
mode_of Permissive = model.permissive

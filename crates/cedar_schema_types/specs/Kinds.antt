-- What the code's Boolean types and marks of open records are in the model.
-- Rule: types (docs/RULES.md).
use Rattle.cedar_schema_model.specs.Types as model
use Rattle.cedar_schema_types.specs.declared.kinds.BoolType.{BoolType}
use Rattle.cedar_schema_types.specs.declared.kinds.BoolType.TheVariants.{AnyBool, True, False}
use Rattle.cedar_schema_types.specs.declared.kinds.OpenTag.{OpenTag}
use Rattle.cedar_schema_types.specs.declared.kinds.OpenTag.TheVariants.{OpenAttributes, ClosedAttributes}

abbrev pub bool_type_of : BoolType → model.BoolType
bool_type_of AnyBool = model.any_bool
bool_type_of True = model.only_true
bool_type_of False = model.only_false

abbrev pub openness_of : OpenTag → model.Openness
openness_of OpenAttributes = model.is_open
openness_of ClosedAttributes = model.is_closed

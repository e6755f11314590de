use Rattle.cedar_expr_values.specs.Values.{bare}
use Rattle.cedar_schema_model.proofs.Types.Values.{value_decided, supertypes_keep, disjoint_apart}
use Rattle.cedar_schema_types.specs.Types.{type_of}
use Rattle.cedar_schema_joins.specs.Modes.{mode_of}
use Rattle.cedar_schema.proofs.laws.values_keep_to_types.Goals as goal

pub returns-clause-kept : goal.returns-clause-kept
returns-clause-kept g c = λ m a b v h k.
    let w = bare g.X.ExtensionValue.seen v in
    (value_decided w (type_of b)).1 (supertypes_keep (mode_of m) (type_of a) (type_of b) w h ((value_decided w (type_of a)).0 k))

pub returns-clause-apart : goal.returns-clause-apart
returns-clause-apart g c = λ a b v h k l.
    let w = bare g.X.ExtensionValue.seen v in
    disjoint_apart (type_of a) (type_of b) w h ((value_decided w (type_of a)).0 k) ((value_decided w (type_of b)).0 l)

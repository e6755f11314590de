use Rattle.std.proofs.Common.{◌≡◌}
use Rattle.cedar_schema_model.specs.Subtype.{have_below}
use Rattle.cedar_schema_types.specs.Types.{attributes_of}
use Rattle.cedar_schema_joins.specs.Modes.{mode_of}
use Rattle.cedar_schema_joins.proofs.Below.{all_below}
use Rattle.cedar_schema_joins.proofs.subtype.+above.Given as goal

abbrev pub invariant-are_above-loop-name : goal.invariant-are_above-loop-name
invariant-are_above-loop-name l = all_below (mode_of l.mode) (attributes_of l.own) l.name-iterator ≡ have_below (mode_of l.mode) (attributes_of l.own) (attributes_of l.attrs)

use Rattle.std.proofs.Common.{◌≡◌}
use Rattle.cedar_schema_types.specs.AttributeLists.{declared_pairs, required_pairs}
use Rattle.cedar_schema_types.proofs.attributes.all_required.Given as goal

abbrev pub invariant-loop-name : goal.invariant-loop-name
invariant-loop-name l = declared_pairs l.attrs.items ≡ required_pairs l.yielded

use Rattle.std.proofs.Common.{◌+◌, ◌*◌}
use Rattle.cedar_schema_examples.proofs.types.+nesting.Given as goal

abbrev pub decreases-nested : goal.decreases-nested
decreases-nested g l = 2 * l.depth

abbrev pub decreases-fields : goal.decreases-fields
decreases-fields g l = 2 * l.depth + 1

use Rattle.std.proofs.Common.{◌+◌, ◌*◌, drop, length}
use Rattle.std.specs.BTreeMap.{values}
use Rattle.cedar_evaluator_model.specs.Evaluation.{evaluated}
use Rattle.cedar_evaluator_errors.specs.Calls.{Functions}
use Rattle.cedar_evaluator_operators.specs.Scopes.{scope_of}
use Rattle.cedar_evaluator_core.proofs.Gathered.{SoFar, trees_in}
use Rattle.cedar_evaluator_core.proofs.walk.+walk.Given as goal

abbrev pub decreases-walk : goal.decreases-walk
decreases-walk g l = 5 * l.limit

abbrev pub decreases-part : goal.decreases-part
decreases-part g l = 5 * l.limit + 1

abbrev pub decreases-level : goal.decreases-level
decreases-level g l = 5 * l.deeper + 3

abbrev pub decreases-choice : goal.decreases-choice
decreases-choice g l = 5 * l.deeper + 2

abbrev pub decreases-both : goal.decreases-both
decreases-both g l = 5 * l.deeper + 2

abbrev pub decreases-either : goal.decreases-either
decreases-either g l = 5 * l.deeper + 2

abbrev pub decreases-attribute : goal.decreases-attribute
decreases-attribute g l = 5 * l.deeper + 2

abbrev pub decreases-called : goal.decreases-called
decreases-called g l = 5 * l.deeper + 2

abbrev pub decreases-set : goal.decreases-set
decreases-set g l = 5 * l.deeper + 2

abbrev pub decreases-record : goal.decreases-record
decreases-record g l = 5 * l.deeper + 2

abbrev pub decreases-unary : goal.decreases-unary
decreases-unary g l = 5 * l.deeper + 2

abbrev pub decreases-like : goal.decreases-like
decreases-like g l = 5 * l.deeper + 2

abbrev pub decreases-is_type : goal.decreases-is_type
decreases-is_type g l = 5 * l.deeper + 2

abbrev pub decreases-binary : goal.decreases-binary
decreases-binary g l = 5 * l.deeper + 2

abbrev pub decreases-has_attr : goal.decreases-has_attr
decreases-has_attr g l = 5 * l.deeper + 2

abbrev pub decreases-has_path : goal.decreases-has_path
decreases-has_path g l = 5 * l.deeper + 2

abbrev pub decreases-attempt : goal.decreases-attempt
decreases-attempt g l = 5 * l.deeper + 1

abbrev pub decreases-attribute_left : goal.decreases-attribute_left
decreases-attribute_left g l = 5 * l.deeper + 1

abbrev pub decreases-pieces : goal.decreases-pieces
decreases-pieces g l = 5 * l.deeper + 1

abbrev pub decreases-field_pieces : goal.decreases-field_pieces
decreases-field_pieces g l = 5 * l.deeper + 1

abbrev pub invariant-pieces-loop-e : goal.invariant-pieces-loop-e
invariant-pieces-loop-e g l = (fs : Functions) → g.T.FunctionTable.answers_as l.known.table.now fs.calls → SoFar (evaluated (scope_of g.T.FunctionTable.table fs l.known) l.deeper) (trees_in l.exprs) l.parts.items (trees_in (drop l.e-index l.exprs))

abbrev pub invariant-field_pieces-loop-e : goal.invariant-field_pieces-loop-e
invariant-field_pieces-loop-e g l = (fs : Functions) → g.T.FunctionTable.answers_as l.known.table.now fs.calls → SoFar (evaluated (scope_of g.T.FunctionTable.table fs l.known) l.deeper) (trees_in (values l.fields)) l.parts.items (trees_in l.left.left)

abbrev pub decreases-field_pieces-loop-e : goal.decreases-field_pieces-loop-e
decreases-field_pieces-loop-e g l = length l.left.left

use Rattle.std.proofs.Common.{◌≡◌, ◌+◌, ◌*◌, true, drop, length}
use Rattle.std.specs.BTreeMap.{values}
use Rattle.cedar_evaluator_model.specs.Evaluation.{evaluated}
use Rattle.cedar_evaluator_model.specs.Functions.{Functions, with_functions}
use Rattle.cedar_evaluator_restricted_exprs.specs.Restricted.{are_restricted, have_restricted}
use Rattle.cedar_evaluator_restricted_exprs.proofs.Gathered.{SoFar, trees_in}
use Rattle.cedar_evaluator_restricted_exprs.proofs.walk.+walk.Given as goal

abbrev pub decreases-walk : goal.decreases-walk
decreases-walk g l = 4 * l.limit

abbrev pub decreases-level : goal.decreases-level
decreases-level g l = 4 * l.deeper + 3

abbrev pub decreases-called : goal.decreases-called
decreases-called g l = 4 * l.deeper + 2

abbrev pub decreases-set : goal.decreases-set
decreases-set g l = 4 * l.deeper + 2

abbrev pub decreases-record : goal.decreases-record
decreases-record g l = 4 * l.deeper + 2

abbrev pub decreases-pieces : goal.decreases-pieces
decreases-pieces g l = 4 * l.deeper + 1

abbrev pub decreases-field_pieces : goal.decreases-field_pieces
decreases-field_pieces g l = 4 * l.deeper + 1

abbrev pub invariant-pieces-loop-e : goal.invariant-pieces-loop-e
invariant-pieces-loop-e g l = (x : Functions) → g.T.FunctionCalls.agrees l.functions x → are_restricted (trees_in l.exprs) ≡ true → SoFar (evaluated (with_functions x) l.deeper) (trees_in l.exprs) l.values.items (trees_in (drop l.e-index l.exprs))

abbrev pub invariant-field_pieces-loop-e : goal.invariant-field_pieces-loop-e
invariant-field_pieces-loop-e g l = (x : Functions) → g.T.FunctionCalls.agrees l.functions x → have_restricted l.fields.entries ≡ true → SoFar (evaluated (with_functions x) l.deeper) (trees_in (values l.fields)) l.values.items (trees_in l.left.left)

abbrev pub decreases-field_pieces-loop-e : goal.decreases-field_pieces-loop-e
decreases-field_pieces-loop-e g l = length l.left.left

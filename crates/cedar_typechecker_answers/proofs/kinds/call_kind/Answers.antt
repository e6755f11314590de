use Rattle.std.proofs.Common.{ap, ◌∙◌, map}
use Rattle.cedar_typechecker_answers.specs.Marked.{marks_of, rows}
use Rattle.cedar_typechecker_answers.proofs.RowMarks.{call_marks}
use Rattle.cedar_typechecker_answers.proofs.kinds.call_kind.Goals as goal

pub returns-clause-marks : goal.returns-clause-marks
returns-clause-marks c = call_marks c.args.fn_name c.in_ok-args.args ∙ ap (λ v. rows (map marks_of v.items)) c.in_ok-args.ensures.ok

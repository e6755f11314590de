use Rattle.std.proofs.Common.{rules, ◌≡◌, Some}
use Rattle.cedar_gate.proofs.PrintedRuns.{answer_adds}
use Rattle.cedar_gate.proofs.printing.print_transcript.Goals as goal

pub returns-clause-prints : goal.returns-clause-prints
returns-clause-prints c =
    let is : c.args.transcript.now.answer ≡ Some c.in-Some.response = search rules in
    λ d a. answer_adds d c.args.transcript.now c.in-Some.response _ _ is c.in_ok-push_answered-in-Some.ensures a

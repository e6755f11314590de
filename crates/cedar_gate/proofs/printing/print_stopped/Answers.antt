use Rattle.cedar_gate.proofs.PrintedRuns.{stop_adds}
use Rattle.cedar_gate.proofs.printing.print_stopped.Goals as goal

pub returns-clause-prints : goal.returns-clause-prints
returns-clause-prints c = λ d s. stop_adds d _ _ c.args.fault.now c.in_ok-push_stopped.ensures s

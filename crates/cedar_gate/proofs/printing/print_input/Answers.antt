use Rattle.cedar_gate_bundles.specs.Bundles.{bundle_of}
use Rattle.cedar_gate_runs.proofs.Proper.{fairly_of}
use Rattle.cedar_gate.proofs.Bundled.{read_well}
use Rattle.cedar_gate.proofs.Printed.{bundle_prints, bundle_judged}
use Rattle.cedar_gate.proofs.printing.print_input.Goals as goal

pub returns-in-Ok-clause-prints : goal.returns-in-Ok-clause-prints
returns-in-Ok-clause-prints g c =
    let b = c.in-Ok.bundle in
    let given = c.in-Ok.ensures in
    bundle_prints c.args.table.now c.args.bytes.now b _ given.ok
    (λ x fair. read_well x c.args.bytes.now b (given.ok x fair.agrees) (given.context_written x fair.agrees fair.fair) (given.store_written x fair.agrees fair.fair) (fairly_of x (fair.agrees.answered).values fair.fair)) c.print_submitted.ensures.prints

pub returns-in-Ok-clause-judged : goal.returns-in-Ok-clause-judged
returns-in-Ok-clause-judged g c = bundle_judged c.args.table.now c.args.bytes.now c.in-Ok.bundle _ c.in-Ok.ensures.ok c.print_submitted.ensures.judged

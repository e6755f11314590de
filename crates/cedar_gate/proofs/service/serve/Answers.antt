use Rattle.cedar_gate_runs.proofs.Proper.{fairly_of}
use Rattle.cedar_gate.proofs.Promised.{gives_promised}
use Rattle.cedar_gate.proofs.service.serve.Goals as goal

pub returns-clause-headline : goal.returns-clause-headline
returns-clause-headline g c = λ bytes x is fair. gives_promised x bytes _ _ _ c.what_is_printed_is_promised.ensures (fairly_of x (fair.agrees.answered).values fair.fair) (c.serve_printed.ensures.printed bytes x is fair)

use Rattle.std.proofs.lemmas.Result.{IfOk-weaker}
use Rattle.cedar_gate.proofs.PrintedRuns.{store_hosts}
use Rattle.cedar_gate.proofs.printing.print_run.Goals as goal

pub returns-in-Ok-clause-prints : goal.returns-in-Ok-clause-prints
returns-in-Ok-clause-prints g c = IfOk-weaker c.print_transcript.result _ _ (λ status p d s. p d (c.in-Ok.ensures.run tt d (record { course = s.course; host = store_hosts d c.args.store c.new-host.result c.new-host.ensures.store s.store }))) c.print_transcript.ensures.prints

pub returns-clause-prints : goal.returns-clause-prints
returns-clause-prints g c = IfOk-weaker c.print_stopped.result _ _ (λ status p d s. p d (c.in-Err.ensures.run tt d (record { course = s.course; host = store_hosts d c.args.store c.new-host.result c.new-host.ensures.store s.store }))) c.print_stopped.ensures.prints

use Rattle.cedar_gate_model.proofs.Gate.RoundsWorked.{two_rounds}
use Rattle.cedar_gate_model.proofs.Runs.LateWorked.{late_proper, late_run}
use Rattle.cedar_gate_model.proofs.Runs.Read.{bundles_are_proper}
use Rattle.cedar_gate_model.proofs.Runs.Worked.{loaded_proper, loaded_wanted, loaded_completed, loaded_opened, loaded_known}
use Rattle.cedar_gate_model.proofs.run_laws.worked_courses.Goals as goal

pub returns-clause-bundles : goal.returns-clause-bundles
returns-clause-bundles c = bundles_are_proper

pub returns-clause-proper : goal.returns-clause-proper
returns-clause-proper c = loaded_proper

pub returns-clause-run : goal.returns-clause-run
returns-clause-run c = two_rounds

pub returns-clause-late : goal.returns-clause-late
returns-clause-late c = late_proper

pub returns-clause-late_run : goal.returns-clause-late_run
returns-clause-late_run c = late_run

pub returns-clause-wanted : goal.returns-clause-wanted
returns-clause-wanted c = loaded_wanted

pub returns-clause-completed : goal.returns-clause-completed
returns-clause-completed c = loaded_completed

pub returns-clause-opened : goal.returns-clause-opened
returns-clause-opened c = loaded_opened

pub returns-clause-known : goal.returns-clause-known
returns-clause-known c = loaded_known

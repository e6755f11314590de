use Rattle.cedar_gate_model.proofs.Runs.Existing.{sessions_have_completions}
use Rattle.cedar_gate_model.proofs.Runs.Scoped.{sessions_are_completed}
use Rattle.cedar_gate_model.proofs.Gate.LegalRuns as before
use Rattle.cedar_gate_model.proofs.Runs.Deciding.{completes_end}
use Rattle.cedar_gate_model.proofs.Runs.Legal.{runs_are_legal}
use Rattle.cedar_gate_model.proofs.run_laws.runs_are_legal.Goals as goal

pub returns-clause-legal : goal.returns-clause-legal
returns-clause-legal c = runs_are_legal

pub returns-clause-completed : goal.returns-clause-completed
returns-clause-completed c = λ k es a proper run. completes_end k proper es a run

pub returns-clause-closed_contexts : goal.returns-clause-closed_contexts
returns-clause-closed_contexts c = before.runs_are_legal

pub returns-clause-asked : goal.returns-clause-asked
returns-clause-asked c = before.answered_runs_ask_the_slice

pub returns-clause-sessions : goal.returns-clause-sessions
returns-clause-sessions c = sessions_are_completed

pub returns-clause-exist : goal.returns-clause-exist
returns-clause-exist c = sessions_have_completions

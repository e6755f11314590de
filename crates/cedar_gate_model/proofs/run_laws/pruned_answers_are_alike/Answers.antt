use Rattle.cedar_gate_model.proofs.Runs.Pruning.{pruned, warned_are_no_reasons}
use Rattle.cedar_gate_model.proofs.run_laws.pruned_answers_are_alike.Goals as goal

pub returns-clause-pruned : goal.returns-clause-pruned
returns-clause-pruned c = λ k r es a proper run. pruned k proper es a run r

pub returns-clause-warned : goal.returns-clause-warned
returns-clause-warned c = λ k es a id proper run. warned_are_no_reasons k proper es a run id

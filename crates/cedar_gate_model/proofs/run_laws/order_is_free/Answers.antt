use Rattle.std.proofs.Common.{ap}
use Rattle.cedar_schema_model.proofs.Decls.Reordered.{splitting_free}
use Rattle.cedar_gate_model.specs.RunsAlike.{with_declarations}
use Rattle.cedar_gate_model.proofs.Runs.Alike.{moved_policies_answer_alike, moved_policies_run}
use Rattle.cedar_gate_model.proofs.Runs.MovedRuns.{moved_declarations_run, moved_declarations_decide}
use Rattle.cedar_gate_model.proofs.Runs.Pruning.{policies_may_move}
use Rattle.cedar_gate_model.proofs.Runs.Reordered.{declarations_may_move, moved_declarations_answer_alike}
use Rattle.cedar_gate_model.proofs.run_laws.order_is_free.Goals as goal

pub returns-clause-policies : goal.returns-clause-policies
returns-clause-policies c = policies_may_move

pub returns-clause-policies_answer : goal.returns-clause-policies_answer
returns-clause-policies_answer c = moved_policies_answer_alike

pub returns-clause-declarations : goal.returns-clause-declarations
returns-clause-declarations c = declarations_may_move

pub returns-clause-declarations_answer : goal.returns-clause-declarations_answer
returns-clause-declarations_answer c = moved_declarations_answer_alike

pub returns-clause-split : goal.returns-clause-split
returns-clause-split c = λ b before after d e. ap (with_declarations b) (splitting_free before after d e)

pub returns-clause-policies_run : goal.returns-clause-policies_run
returns-clause-policies_run c = moved_policies_run

pub returns-clause-declarations_run : goal.returns-clause-declarations_run
returns-clause-declarations_run c = λ x d es end accepted moved. moved_declarations_run x d accepted moved es end

pub returns-clause-declarations_decide : goal.returns-clause-declarations_decide
returns-clause-declarations_decide c = λ x d es end accepted moved. moved_declarations_decide x d accepted moved es end

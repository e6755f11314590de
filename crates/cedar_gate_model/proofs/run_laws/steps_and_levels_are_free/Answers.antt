use Rattle.cedar_gate_model.proofs.Gate.Reach.{larger_levels_accept}
use Rattle.cedar_gate_model.proofs.Runs.Alike.{ends_are_the_courses, steps_may_move, levels_answer_alike}
use Rattle.cedar_gate_model.proofs.run_laws.steps_and_levels_are_free.Goals as goal

pub returns-clause-ends : goal.returns-clause-ends
returns-clause-ends c = ends_are_the_courses

pub returns-clause-steps : goal.returns-clause-steps
returns-clause-steps c = steps_may_move

pub returns-clause-levels : goal.returns-clause-levels
returns-clause-levels c = levels_answer_alike

pub returns-clause-larger : goal.returns-clause-larger
returns-clause-larger c = larger_levels_accept

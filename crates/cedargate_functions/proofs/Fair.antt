-- The table of `rank` and `label` is fair.
use Rattle.std.proofs.Common.{refl}
use Rattle.cedar_expr_functions.specs.Tables.{table_of}
use Rattle.cedar_expr_functions.specs.declared.extensions.Extensions.{Extensions}
use Rattle.cedar_evaluator_errors.specs.Answers.{AnswersMade}
use Rattle.cedar_gate.specs.Courses.{IsFair}
use Rattle.cedargate_functions.specs.Ranks.{rank_calls, rank_answers}
use Rattle.cedargate_functions.specs.Tables.{HoldsRanks, rank_functions}
use Rattle.cedargate_functions.proofs.Ranked.{ranks_answer_fairly}

-- A table that holds the functions, and whose functions answer as they do, is fair.
pub table_is_fair : {B : _} {F : _} {g : _} (t : Extensions B F g) → AnswersMade t rank_calls → HoldsRanks (table_of t rank_answers) → IsFair t (rank_functions (table_of t rank_answers))
table_is_fair t made holds = record {
  agrees = record { table = refl; answered = made };
  fair = ranks_answer_fairly (table_of t rank_answers) holds;
}

-- The lines of an answer in its told form are the answer's lines.
use Rattle.std.proofs.Common.{◌≡◌, List, [], ◌∷◌, ◌++◌, map, refl, ap, codes}
use Rattle.std.specs.List.{flat_map}
use Rattle.cedar_expr_model.specs.Uid.{quoted}
use Rattle.cedar_store_model.specs.Answer.{Answer, PolicyError}
use Rattle.cedar_evaluator_model.specs.Laws.{as_concrete}
use Rattle.cedar_evaluator_model.specs.Response.{stops, ResponseError}
use Rattle.cedar_evaluator_model.specs.Scope.{fault}
use Rattle.cedar_gate_model.specs.Lines as model
use Rattle.cedar_gate_model.specs.Lines.{answer_lines}
use Rattle.cedar_gate_runs.specs.Printing.{concrete_lines, error_line}

abbrev told_error : PolicyError → ResponseError
told_error e = record { id = e.id; cause = stops (fault e.fault) }

errors_are_told : (es : List PolicyError) → flat_map error_line (map told_error es) ≡ flat_map model.error_line es
errors_are_told [] = refl
errors_are_told (e ∷ es) = ap (λ t. model.error_line e ++ t) (errors_are_told es)

pub answers_are_told : (a : Answer) → concrete_lines (as_concrete a) ≡ answer_lines a
answers_are_told a = ap (λ t. model.line (codes "answer " ++ model.decision_word a.decision) ++ (flat_map (λ id. model.line (codes "reason " ++ quoted id)) a.reasons ++ t)) (errors_are_told a.errors)

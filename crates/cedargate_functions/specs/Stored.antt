-- The functions `rank` and `label`, as they are stored.
-- Rule: extension functions (docs/RULES.md).
use Rattle.std.specs.Prelude.{◌≡◌, List, [], ◌∷◌, map, Contains}
use Rattle.cedar_expr_functions.specs.Functions.{function_name, function_signature}
use Rattle.cedar_expr_functions.specs.declared.extension.ExtensionFunction.{ExtensionFunction}
use Rattle.cedar_evaluator_errors.specs.Answers.{IsMadeBy}
use Rattle.cedargate_functions.specs.Ranks.{rank_calls}
use Rattle.cedargate_functions.specs.Tables.{rank_signature, label_signature}

-- the two, which answer as they are to
pub record AreRankFunctions {B : _} {F : _} {g : _} (fs : List (ExtensionFunction B F g)) : Type 0 where
  pub signatures : map function_signature fs ≡ rank_signature ∷ label_signature ∷ []
  pub made : (f : ExtensionFunction B F g) → Contains fs f → IsMadeBy f (rank_calls (function_name f))

-- The table of `rank` and `label`.
-- Rule: extension functions (docs/RULES.md).
use Rattle.std.specs.Prelude.{◌≡◌, List, [], ◌∷◌, false, Some, IsPermutation}
use Rattle.cedar_expr_model.specs.Name.{Name}
use Rattle.cedar_expr_model.specs.Table.{Signature, Table, function_style, method_style}
use Rattle.cedar_expr_model.specs.Tree.{string_core, extension_core}
use Rattle.cedar_expr_model.specs.Value.{V}
use Rattle.cedar_evaluator_model.specs.Functions.{Functions}
use Rattle.cedargate_functions.specs.Ranks.{rank_name, label_name, rank_answers, rank_calls}

-- `rank` is a constructor, `label` a method
abbrev pub rank_signature : Signature
rank_signature = record { name = rank_name; style = function_style; parameters = string_core ∷ []; is_variadic = false; result = Some (extension_core rank_name) }

abbrev pub label_signature : Signature
label_signature = record { name = label_name; style = method_style; parameters = extension_core rank_name ∷ []; is_variadic = false; result = Some string_core }

-- The table has these two, which answer so, and ranks are ordered.
pub record HoldsRanks (x : Table) : Type 0 where
  pub functions : IsPermutation (rank_signature ∷ label_signature ∷ []) x.functions
  pub ordered : x.ordered ≡ rank_name ∷ []
  pub answers : (f : Name) (vs : List V) → x.answers f vs ≡ rank_answers f vs

-- a table with the calls that make ranks and texts
abbrev pub rank_functions : Table → Functions
rank_functions x = record { table = x; calls = rank_calls }

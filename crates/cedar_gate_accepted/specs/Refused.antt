-- Submissions of some declarations, and what is built of them.
-- Rule: the acceptance rules; external declarations (docs/RULES.md).
use Rattle.std.specs.Prelude.{◌≡◌, List, not}
use Rattle.cedar_expr_model.specs.Name.{Name}
use Rattle.cedar_expr_model.specs.Lists.{is_nil}
use Rattle.cedar_gate_model.specs.Acceptance.{Submission, extension_types}
use Rattle.cedar_schema_model.specs.Kept.{Kept, elsewhere}
use Rattle.cedar_schema_model.specs.Declarations.{Declarations}
use Rattle.cedar_schema_model.specs.WellFormed.{unresolved_external, has_schema_fault}

-- The submission is of these declarations, and its table gives these extension types.
pub record IsSubmittedWith (x : List Name) (d : Declarations) (s : Submission) : Type 0 where
  pub declared : s.declarations ≡ d
  pub given : extension_types s.table ≡ x

-- Nothing that is kept is declared elsewhere exactly where no declaration is external.
pub record IsCompleteWhere (x : List Name) (d : Declarations) (k : Kept) : Type 0 where
  pub is : is_nil (elsewhere k) ≡ not (has_schema_fault x d unresolved_external)

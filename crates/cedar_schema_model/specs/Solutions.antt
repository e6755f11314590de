-- What common types stand for.
-- Rule: schemas (docs/RULES.md).
use Rattle.std.specs.Prelude.{◌≡◌, Contains}
use Rattle.cedar_expr_model.specs.Name.{Name}
use Rattle.cedar_schema_model.specs.Types.{Ty, never}
use Rattle.cedar_schema_model.specs.BagLaws.{Uses}
use Rattle.cedar_schema_model.specs.Declarations.{CommonDeclaration, Declarations, common_name, common_names}
use Rattle.cedar_schema_model.specs.Descent.{Reaches}
use Rattle.cedar_schema_model.specs.Resolved.{resolved_by, common_of}

-- These types solve the declarations: each declared one is what its definition says with these types in place of the common ones,
-- and any other name stands for no value.
pub record IsSolution (d : Declarations) (types : Name → Ty) : Type 0 where
  pub each : (c : CommonDeclaration) → Contains d.commons c → types (common_name c) ≡ resolved_by types d c.namespace c.definition
  pub others : (n : Name) → (Contains (common_names d) n → ⊥) → types n ≡ never

-- Where no common type uses itself, the types that solve the declarations are those of the schema.
abbrev pub SolutionsAreCommonTypes : Type 0
SolutionsAreCommonTypes = (d : Declarations) → ((n : Name) → Reaches (Uses d) n n → ⊥) → (types : Name → Ty) → IsSolution d types → (n : Name) → types n ≡ common_of d n

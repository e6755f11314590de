-- What the order of declarations says of typing and levels: nothing.
-- Rule: well-formed declarations; typing; levels (docs/RULES.md).
use Rattle.std.specs.Prelude.{◌↔◌, ℕ, List, Contains}
use Rattle.cedar_expr_model.specs.Name.{Name}
use Rattle.cedar_expr_model.specs.Table.{Table}
use Rattle.cedar_store_model.specs.Policy.{Policy}
use Rattle.cedar_schema_model.specs.BagLaws.{IsReordered}
use Rattle.cedar_schema_model.specs.Declarations.{Declarations}
use Rattle.cedar_schema_model.specs.Resolved.{schema_of}
use Rattle.cedar_schema_model.specs.WellFormed.{IsWellFormed}
use Rattle.cedar_typechecker_model.specs.Levels.{Violation}
use Rattle.cedar_typechecker_model.specs.Verdicts.{Passes, policy_violations}

-- Well-formed declarations in another order pass the same policies,
abbrev pub OrderPassesTheSame : Type 0
OrderPassesTheSame = (ns : List Name) (d e : Declarations) (x : Table) (p : Policy) → IsWellFormed ns d → IsReordered d e → Passes (schema_of d) x p → Passes (schema_of e) x p

-- and find the same violations of a policy.
abbrev pub OrderFindsTheSame : Type 0
OrderFindsTheSame = (ns : List Name) (d e : Declarations) (x : Table) (p : Policy) (n : ℕ) (v : Violation) → IsWellFormed ns d → IsReordered d e
    → Contains (policy_violations n (schema_of d) x p) v ↔ Contains (policy_violations n (schema_of e) x p) v

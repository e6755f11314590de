-- Tables of which the functions answer with a value of their result type, or fail.
-- Rule: extension functions (docs/RULES.md).
use Rattle.std.specs.Prelude.{◌≡◌, List, length, true, Some, None}
use Rattle.cedar_expr_model.specs.Name.{Name}
use Rattle.cedar_expr_model.specs.Value.{V}
use Rattle.cedar_expr_model.specs.Substitution.{core_type_of}
use Rattle.cedar_expr_model.specs.Table.{Signature, Called, gives, fails, leaves, Table, signature_of, takes_count, are_of_types}

-- the table has the function, which takes these arguments
abbrev pub IsTaken : Table → Name → List V → Type 0
IsTaken t f vs = (s : Signature) × (signature_of t f ≡ Some s) × (takes_count s (length vs) ≡ true) × (are_of_types s.parameters vs ≡ true)

-- a value of the function's result type, or a failure; one without a result type may leave an unknown
abbrev pub IsAnswer : Signature → Called → Type 0
IsAnswer s (gives v) = s.result ≡ Some (core_type_of v)
IsAnswer s (fails e) = Unit {0}
IsAnswer s (leaves n) = s.result ≡ None

-- The table is fair: on arguments of their types its functions answer with a value of their result type or a failure.
abbrev pub IsFair : Table → Type 0
IsFair t = (f : Name) (s : Signature) (vs : List V) → signature_of t f ≡ Some s → takes_count s (length vs) ≡ true → are_of_types s.parameters vs ≡ true → IsAnswer s (t.answers f vs)

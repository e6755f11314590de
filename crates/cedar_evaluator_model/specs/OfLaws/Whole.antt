-- Scopes in which nothing is unknown, and those in which only the loading of entities is.
-- Rule: partial evaluation; what is known (docs/RULES.md).
use Rattle.std.specs.Prelude.{◌≡◌, List, true, Option, Some, IsSome}
use Rattle.cedar_expr_model.specs.Name.{Text, Name}
use Rattle.cedar_expr_model.specs.Uid.{Uid}
use Rattle.cedar_expr_model.specs.Value.{V}
use Rattle.cedar_expr_model.specs.Tree.{CoreType, Tree}
use Rattle.cedar_expr_model.specs.Unknowns.{EachUnknown}
use Rattle.cedar_expr_model.specs.Table.{Table, leaves}
use Rattle.cedar_expr_model.specs.OfLaws.Fair.{IsTaken}
use Rattle.cedar_expr_model.specs.Substitution.{IsOfType}
use Rattle.cedar_store_model.specs.World.{Found, held}
use Rattle.cedar_store_model.specs.Knowledge.{IsSettled, holds_values}
use Rattle.cedar_evaluator_model.specs.Scope.{Scope}
use Rattle.cedar_evaluator_model.specs.Known.{known_world}

-- no call that the table takes leaves an unknown
abbrev pub LeavesNothing : Table → Type 0
LeavesNothing x = (f : Name) (vs : List V) (n : Text) → IsTaken x f vs → x.answers f vs ≡ leaves n → ⊥

-- an entity that is held holds values alone
abbrev pub HoldsValues : Found V → Type 0
HoldsValues (held e) = holds_values e ≡ true
HoldsValues f = Unit {0}

-- The request is known, the context is one of values, and the entities that are held hold values alone. Others may not be loaded.
pub record NothingUnknown (s : Scope) : Type 0 where
  pub principal : IsSome (known_world s).principal
  pub action : IsSome (known_world s).action
  pub resource : IsSome (known_world s).resource
  pub context : IsSome (known_world s).context
  pub store : (u : Uid) → HoldsValues ((known_world s).store u)
  pub calls : LeavesNothing s.table

-- each uid is loaded, or known to be missing
abbrev pub AllLoaded : Scope → Type 0
AllLoaded s = (u : Uid) → IsSettled ((known_world s).store u)

-- the value is there, and of the annotation's type, where there is one
abbrev pub BoundTo : Scope → Text → Option CoreType → Type 0
BoundTo s n a = (v : V) × ((known_world s).unknowns n ≡ Some v) × IsOfType a v

-- each unknown of the expression has a value that fits its annotation
abbrev pub AllBoundTo : Scope → Tree → Type 0
AllBoundTo s t = EachUnknown (BoundTo s) t

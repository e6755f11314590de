-- Worlds where everything is known but unknowns.
-- Rule: what is known; extension functions (docs/RULES.md).
use Rattle.std.specs.Prelude.{◌≡◌, List, IsSome}
use Rattle.cedar_expr_model.specs.Name.{Text, Name}
use Rattle.cedar_expr_model.specs.Uid.{Uid}
use Rattle.cedar_expr_model.specs.Value.{V}
use Rattle.cedar_expr_model.specs.Tree.{Tree}
use Rattle.cedar_expr_model.specs.Unknowns.{EachUnknown}
use Rattle.cedar_expr_model.specs.Table.{Table, leaves}
use Rattle.cedar_expr_model.specs.OfLaws.Fair.{IsTaken}
use Rattle.cedar_store_model.specs.World.{World}
use Rattle.cedar_store_model.specs.Knowledge.{IsSettled}

-- no call that the table takes leaves an unknown
abbrev pub CallsLeaveNone : Table → Type 0
CallsLeaveNone x = (f : Name) (vs : List V) (n : Text) → IsTaken x f vs → x.answers f vs ≡ leaves n → ⊥

-- A world where everything is known but unknowns: the variables and each uid, and calls leave nothing. A slot may be unbound.
pub record IsSettledWorld (w : World) : Type 0 where
  pub principal : IsSome w.principal
  pub action : IsSome w.action
  pub resource : IsSome w.resource
  pub context : IsSome w.context
  pub store : (u : Uid) → IsSettled (w.store u)
  pub calls : CallsLeaveNone w.table

-- the unknowns that stand in the expression are bound; others may not be
abbrev pub BindsUnknowns : World → Tree → Type 0
BindsUnknowns w t = EachUnknown (λ n a. IsSome (w.unknowns n)) t

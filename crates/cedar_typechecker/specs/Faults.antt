-- The faults that typing an expression leaves.
-- Rule: typing (docs/RULES.md).
use Rattle.std.specs.Prelude.{◌≡◌, ◌++◌, List, Option, is_some, false}
use Rattle.cedar_expr_model.specs.Lists.{is_nil}
use Rattle.cedar_typechecker_answers.specs.declared.faults.TypeFault.{TypeFault}
use Rattle.cedar_typechecker_model.specs.Typed.{Typed}

-- Faults are appended to those that there were, some where the expression has no type.
pub record AddsFaults (typed : Option Typed) (old new : List TypeFault) : Type 0 where
  pub more : List TypeFault
  pub added : new ≡ old ++ more
  pub some : is_some typed ≡ false → is_nil more ≡ false

-- What an evaluation knows: request, context, slots, values for unknowns, store and functions; and what it leaves.
-- Rule: partial evaluation (docs/RULES.md).
use Rattle.std.specs.Prelude.{List, Option}
use Rattle.cedar_expr_model.specs.Name.{Text, Name}
use Rattle.cedar_expr_model.specs.Uid.{Uid}
use Rattle.cedar_expr_model.specs.Tree.{Tree, SlotId, TreeFields}
use Rattle.cedar_expr_model.specs.Made.{Made, MadeFields}
use Rattle.cedar_expr_model.specs.Table.{Table}
use Rattle.cedar_store_model.specs.Outcome.{Fault}
use Rattle.cedar_store_model.specs.World.{Found}

-- what a call answers, with the call that makes its value
pub data MadeCalled : Type 0 where
  makes : Made → MadeCalled
  faults : Name → MadeCalled
  leaves_unknown : Text → MadeCalled

-- a principal, action or resource: a uid, or an unknown one, of a type if that is known
pub data Entry : Type 0 where
  uid : Uid → Entry
  unknown_uid : Option Name → Entry

-- a context: fields with values, fields with expressions of which at least one has an unknown, or nothing known
pub data Context : Type 0 where
  closed : MadeFields → Context
  residual_fields : TreeFields → Context
  unknown_context : Context

pub record Scope : Type 0 where
  pub principal : Entry
  pub action : Entry
  pub resource : Entry
  pub context : Context
  pub slots : SlotId → Option Uid
  pub values : Text → Option Made
  pub table : Table
  pub calls : Name → List Made → MadeCalled
  pub store : Uid → Found Made

-- why an evaluation stops: an error, or an expression that nests deeper than the limit
pub data Stop : Type 0 where
  fault : Fault → Stop
  limit : Stop

-- what an evaluation leaves: a value, an expression, or nothing
pub data Left : Type 0 where
  value_left : Made → Left
  residual : Tree → Left
  stopped : Stop → Left

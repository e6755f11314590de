-- Extension functions: their table, and what their calls answer; and what is left of restricted expressions by them alone.
-- Rule: extension functions; restricted expressions (docs/RULES.md).
use Rattle.std.specs.Prelude.{List, None}
use Rattle.cedar_expr_model.specs.Name.{Name}
use Rattle.cedar_expr_model.specs.Made.{Made}
use Rattle.cedar_expr_model.specs.Table.{Table}
use Rattle.cedar_expr_model.specs.Tree.{Tree}
use Rattle.cedar_store_model.specs.Store.{unloaded}
use Rattle.cedar_evaluator_model.specs.Scope.{MadeCalled, unknown_uid, unknown_context, Scope, Left}
use Rattle.cedar_evaluator_model.specs.Reauthorize.{restricted_left}

-- The extension functions: their table, and what their calls answer with the calls that make it.
pub record Functions : Type 0 where
  pub table : Table
  pub calls : Name → List Made → MadeCalled

-- a scope that knows nothing but the functions
abbrev pub with_functions : Functions → Scope
with_functions x = record {
  principal = unknown_uid None;
  action = unknown_uid None;
  resource = unknown_uid None;
  context = unknown_context;
  slots = λ s. None;
  values = λ n. None;
  table = x.table;
  calls = x.calls;
  store = λ u. unloaded u;
}

-- what is left of a restricted expression
abbrev pub left_of_restricted : Functions → Tree → Left
left_of_restricted x t = restricted_left (with_functions x) t

-- What the walk along an expression leaves.
-- Rule: partial evaluation (docs/RULES.md).
use Rattle.std.specs.Prelude.{ℕ, List, Result}
use Rattle.std.specs.declared.alloc.Global.{Global}
use Rattle.std.specs.declared.vec.Vec.{Vec}
use Rattle.cedar_expr_model.specs.Name.{Text, Name}
use Rattle.cedar_expr_model.specs.Made.{Made}
use Rattle.cedar_expr_model.specs.Table.{Table, Called}
use Rattle.cedar_expr_model.specs.Tree.{Tree}
use Rattle.cedar_expr_model.specs.Value.{V}
use Rattle.cedar_expr_values.specs.declared.extension.ExtValue.{ExtValue}
use Rattle.cedar_expr_trees.specs.declared.expr.Expr.{Expr}
use Rattle.cedar_expr_partial.specs.declared.partial_value.PartialValue.{PartialValue}
use Rattle.cedar_evaluator_model.specs.Scope.{Scope, MadeCalled, Left}
use Rattle.cedar_evaluator_model.specs.Steps.{Pieces, best}
use Rattle.cedar_evaluator_model.specs.Evaluation.{evaluated, node, get_of_residual, pieces_of}
use Rattle.cedar_evaluator_errors.specs.Outcomes.{Leaves, IsTree}
use Rattle.cedar_evaluator_errors.specs.declared.err.EvaluationError.{EvaluationError}
use Rattle.cedar_evaluator_errors.specs.Calls.{Functions}
use Rattle.cedar_evaluator_operators.specs.Scopes.{scope_of}
use Rattle.cedar_evaluator_reads.specs.declared.knowledge.Knowledge.{Knowledge}
use Rattle.cedar_evaluator_core.specs.Gathered.{ArePieces}

-- in each scope whose functions answer as the table's do this is left, the expression is this tree, or these are the pieces
abbrev pub LeavesIn : {T : Type 0} → (T → (Name → List V → Called) → Table) → (T → (Name → List Made → MadeCalled) → Type 0) → Knowledge T → (Scope → Left) → Result (PartialValue ExtValue) EvaluationError → Type 0
LeavesIn table answers_as k l r = (fs : Functions) → answers_as k.table.now fs.calls → Leaves (l (scope_of table fs k)) r

abbrev pub IsTreeIn : {T : Type 0} → (T → (Name → List V → Called) → Table) → (T → (Name → List Made → MadeCalled) → Type 0) → Knowledge T → (Scope → Tree) → Result (Expr Unit) EvaluationError → Type 0
IsTreeIn table answers_as k t r = (fs : Functions) → answers_as k.table.now fs.calls → IsTree (t (scope_of table fs k)) r

abbrev pub ArePiecesIn : {T : Type 0} → (T → (Name → List V → Called) → Table) → (T → (Name → List Made → MadeCalled) → Type 0) → Knowledge T → (Scope → Pieces) → Result (Vec (PartialValue ExtValue) Global) EvaluationError → Type 0
ArePiecesIn table answers_as k p r = (fs : Functions) → answers_as k.table.now fs.calls → ArePieces (p (scope_of table fs k)) r

-- This is left of the expression within the limit.
pub record LeavesWithin {T : Type 0} (table : T → (Name → List V → Called) → Table) (answers_as : T → (Name → List Made → MadeCalled) → Type 0) (k : Knowledge T) (n : ℕ) (t : Tree) (r : Result (PartialValue ExtValue) EvaluationError) : Type 0 where
  pub leaves : LeavesIn table answers_as k (λ s. evaluated s n t) r

-- This is left of the expression, whose parts have this limit.
pub record LeavesLevel {T : Type 0} (table : T → (Name → List V → Called) → Table) (answers_as : T → (Name → List Made → MadeCalled) → Type 0) (k : Knowledge T) (n : ℕ) (t : Tree) (r : Result (PartialValue ExtValue) EvaluationError) : Type 0 where
  pub leaves : LeavesIn table answers_as k (λ s. node s (evaluated s n) t) r

-- This is left of the attribute of a residual.
pub record LeavesField {T : Type 0} (table : T → (Name → List V → Called) → Table) (answers_as : T → (Name → List Made → MadeCalled) → Type 0) (k : Knowledge T) (n : ℕ) (a : Text) (t : Tree) (r : Result (PartialValue ExtValue) EvaluationError) : Type 0 where
  pub leaves : LeavesIn table answers_as k (λ s. get_of_residual (evaluated s n) a t) r

-- Best effort leaves this expression.
pub record BestWithin {T : Type 0} (table : T → (Name → List V → Called) → Table) (answers_as : T → (Name → List Made → MadeCalled) → Type 0) (k : Knowledge T) (n : ℕ) (t : Tree) (r : Result (Expr Unit) EvaluationError) : Type 0 where
  pub leaves : IsTreeIn table answers_as k (λ s. best t (evaluated s n t)) r

-- These pieces are left of several expressions.
pub record PiecesWithin {T : Type 0} (table : T → (Name → List V → Called) → Table) (answers_as : T → (Name → List Made → MadeCalled) → Type 0) (k : Knowledge T) (n : ℕ) (ts : List Tree) (r : Result (Vec (PartialValue ExtValue) Global) EvaluationError) : Type 0 where
  pub leaves : ArePiecesIn table answers_as k (λ s. pieces_of (evaluated s n) ts) r

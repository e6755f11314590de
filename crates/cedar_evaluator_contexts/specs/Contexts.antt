-- Contexts made of expressions, of pairs, and of contexts with values in the place of unknowns.
-- Rule: restricted expressions; reauthorizing (docs/RULES.md).
use Rattle.std.specs.Prelude.{◌≡◌, List, [], true, false, Some, None, IsSome, Result, Ok, Err, codes}
use Rattle.cedar_expr_model.specs.Name.{Text}
use Rattle.cedar_expr_model.specs.Made.{written_fields}
use Rattle.cedar_expr_model.specs.Parts.{listed_fields}
use Rattle.cedar_expr_model.specs.Records.{record_tree}
use Rattle.cedar_expr_model.specs.Repeats.{repeated_name}
use Rattle.cedar_expr_model.specs.Tree.{Tree}
use Rattle.cedar_expr_trees.specs.Trees.{tree_of}
use Rattle.cedar_expr_trees.specs.Refusals.{repeated_key, repeated_context}
use Rattle.cedar_expr_trees.specs.declared.err.ExpressionConstructionError.{ExpressionConstructionError}
use Rattle.cedar_expr_trees.specs.declared.err.ExpressionConstructionError.TheVariants as construction
use Rattle.cedar_evaluator_model.specs.Reauthorize as model
use Rattle.cedar_evaluator_model.specs.Reauthorize.{context_from, makes_it, refuses, context_stops, restricted_left}
use Rattle.cedar_evaluator_model.specs.Scope.{Scope, Context, closed, residual_fields, unknown_context, Left, value_left, residual, stopped, Stop}
use Rattle.cedar_evaluator_errors.specs.Outcomes.{is_memory, stop_or}
use Rattle.cedar_evaluator_errors.specs.declared.err.EvaluationError.{EvaluationError}
use Rattle.cedar_evaluator_errors.specs.declared.restricted.ContextCreationError.{ContextCreationError}
use Rattle.cedar_evaluator_errors.specs.declared.restricted.ContextCreationError.TheVariants.{OutOfMemory, NotARecord, Evaluation, ExpressionConstruction}
use Rattle.cedar_evaluator_requests.specs.Views.{context_of}
use Rattle.cedar_evaluator_requests.specs.declared.context.Context as code
use Rattle.cedar_evaluator_restricted_exprs.specs.Contexts.{IsOfRecord}
use Rattle.cedar_evaluator_restricted_exprs.specs.Read.{fields_read}

-- It stopped so. Out of memory says nothing.
abbrev pub StoppedBy : Left → EvaluationError → Type 0
StoppedBy l e = (other : Stop) → is_memory e ≡ false → l ≡ stopped (stop_or other e)

-- What is left is this context. It is refused only where it isn't left of a record, or when out of memory.
abbrev pub Becomes : Left → Result code.Context EvaluationError → Type 0
Becomes l (Ok c) = context_from l ≡ Some (context_of c)
Becomes l (Err e) = is_memory e ≡ false → IsOfRecord l → ⊥

-- This context is what is left of the expression, or it stopped so, where it is a record.
abbrev pub Evaluates : Tree → Left → Result code.Context EvaluationError → Type 0
Evaluates t l (Ok c) = context_from l ≡ Some (context_of c)
Evaluates t l (Err e) = IsSome (fields_read t) → StoppedBy l e

-- The expression is a record, and the context what is left of it; or it is none, or its evaluation stops so. Out of memory says nothing.
abbrev pub CreatesOfExpr : {C : Type 0} → (C → Context) → Tree → Left → Result C ContextCreationError → Type 0
CreatesOfExpr seen t l (Ok c) = IsSome (fields_read t) × (context_from l ≡ Some (seen c))
CreatesOfExpr seen t l (Err OutOfMemory) = Unit {0}
CreatesOfExpr seen t l (Err (NotARecord e)) = (fields_read t ≡ None) × (tree_of e.expr ≡ t)
CreatesOfExpr seen t l (Err (Evaluation e)) = IsSome (fields_read t) × StoppedBy l e
CreatesOfExpr seen t l (Err (ExpressionConstruction e)) = ⊥

-- This context is created of what is left of the expression in the scope.
abbrev pub CreatesIn : {C : Type 0} → Scope → (C → Context) → Tree → Result C ContextCreationError → Type 0
CreatesIn s seen t r = CreatesOfExpr seen t (restricted_left s t) r

-- a name is repeated among the pairs
abbrev pub RepeatsIn : List (Text × Tree) → ExpressionConstructionError → Type 0
RepeatsIn ps construction.OutOfMemory = Unit {0}
RepeatsIn ps (construction.DuplicateKey d) = (repeated_name ps ≡ Some (repeated_key d)) × (repeated_context d ≡ codes "in context")

-- No name is repeated, and the context is what is left of the record of the pairs; or a name is, or the evaluation stops so.
abbrev pub CreatesOfPairs : {C : Type 0} → (C → Context) → List (Text × Tree) → Left → Result C ContextCreationError → Type 0
CreatesOfPairs seen ps l (Ok c) = (repeated_name ps ≡ None) × (context_from l ≡ Some (seen c))
CreatesOfPairs seen ps l (Err OutOfMemory) = Unit {0}
CreatesOfPairs seen ps l (Err (NotARecord e)) = ⊥
CreatesOfPairs seen ps l (Err (Evaluation e)) = (repeated_name ps ≡ None) × StoppedBy l e
CreatesOfPairs seen ps l (Err (ExpressionConstruction e)) = RepeatsIn ps e

-- This context is created of what is left of the record of the pairs in the scope.
abbrev pub CreatesOfPairsIn : {C : Type 0} → Scope → (C → Context) → List (Text × Tree) → Result C ContextCreationError → Type 0
CreatesOfPairsIn s seen ps r = CreatesOfPairs seen ps (restricted_left s (record_tree ps)) r

-- The outcome is this context, or it is refused since the evaluation stops so. Out of memory says nothing.
abbrev pub Substitutes : {C : Type 0} → (C → Context) → model.Outcome Context → Result C EvaluationError → Type 0
Substitutes seen o (Ok c) = o ≡ makes_it (seen c)
Substitutes seen o (Err e) = (other : Stop) → is_memory e ≡ false → o ≡ refuses (context_stops (stop_or other e))

-- the names of a context's fields, in their order, with what stands under each
abbrev pub pairs_of_context : Context → List (Text × Tree)
pairs_of_context (closed fs) = listed_fields (written_fields fs)
pairs_of_context (residual_fields fs) = listed_fields fs
pairs_of_context unknown_context = []

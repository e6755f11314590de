-- What is left of a restricted record is left of a record.
use Rattle.std.proofs.Common.{◌≡◌, ◌∙◌, ℕ, zero, suc, true, List, map, Option, Some, None, IsSome, refl, ap, subst}
use Rattle.std.specs.Prelude.{is_none, is_some, option_map, zip, Result, Ok, Err}
use Rattle.std.specs.Map.{keys_of, values_of}
use Rattle.std.specs.Option.{option_map_or}
use Rattle.cedar_expr_model.specs.Made.{Made}
use Rattle.cedar_expr_model.specs.Builder.{tree_fields}
use Rattle.cedar_expr_model.specs.Parts.{listed_fields}
use Rattle.cedar_expr_model.specs.Restricted.{is_restricted, offence}
use Rattle.cedar_expr_model.specs.Substitution.{Bindings, substituted}
use Rattle.cedar_expr_model.specs.Tree.{Tree, TreeFields, record_literal, context}
use Rattle.cedar_expr_model.specs.ValueParts.{all_known, part_tree}
use Rattle.cedar_expr_model.specs.Name.{Text}
use Rattle.cedar_expr_model.specs.Records.{record_tree}
use Rattle.cedar_expr_model.specs.Repeats.{repeated_name}
use Rattle.cedar_evaluator_errors.specs.declared.err.EvaluationError.{EvaluationError}
use Rattle.cedar_evaluator_errors.specs.declared.restricted.ContextCreationError.{ContextCreationError}
use Rattle.cedar_evaluator_errors.specs.declared.restricted.ContextCreationError.TheVariants.{OutOfMemory, NotARecord, Evaluation, ExpressionConstruction}
use Rattle.cedar_evaluator_model.specs.Evaluation.{pieces_of, evaluated}
use Rattle.cedar_evaluator_model.specs.Reauthorize.{restricted_left, context_from, context_made, context_substituted, makes_it, refuses, wrong_value}
use Rattle.cedar_evaluator_model.specs.Scope.{Scope, Context, residual_fields, Left, value_left, residual, stopped}
use Rattle.cedar_evaluator_model.specs.Steps.{Pieces, pieces, halted, record_left}
use Rattle.cedar_evaluator_requests.specs.declared.context.Context as code
use Rattle.cedar_evaluator_requests.specs.Views.{context_of}
use Rattle.cedar_evaluator_restricted_exprs.specs.Read.{fields_read}
use Rattle.cedar_evaluator_model.specs.Functions.{Functions, with_functions}
use Rattle.cedar_evaluator_model.proofs.Restricted.{Clean, evaluated_clean, none_is, substituted_restricted}
use Rattle.cedar_evaluator_restricted_exprs.proofs.OfRecord.{both, of_record}
use Rattle.cedar_evaluator_restricted_exprs.specs.Contexts.{IsOfRecord}
use Rattle.cedar_evaluator_contexts.specs.Contexts.{Becomes, Evaluates, StoppedBy, CreatesOfExpr, CreatesOfPairs, Substitutes}
use Rattle.cedar_evaluator_contexts.proofs.Alike.{left_same}

functions_of : Scope → Functions
functions_of s = record { table = s.table; calls = s.calls }

fields_left : (s : Scope) (fs : TreeFields) → is_restricted (record_literal fs) ≡ true → IsOfRecord (restricted_left s (record_literal fs))
unfolding functions_of
fields_left s fs r =
    let x = functions_of s in
    let clean : Clean (record_literal fs) (restricted_left s (record_literal fs)) = subst (Clean (record_literal fs)) (left_same s (with_functions x) (record_literal fs) refl refl (λ n. refl) r) (evaluated_clean x 512 (record_literal fs) (none_is (offence (record_literal fs)) r)) in
    both (record_literal fs) (restricted_left s (record_literal fs)) clean (of_record (record s { slots = λ x. None; values = λ n. None }) 512 fs)

fields_of : (t : Tree) → IsSome (fields_read t) → (fs : TreeFields) × (record_literal fs ≡ t)
fields_of (record_literal fs) k = (fs, refl)
fields_of t k = cc

pub left_of_record : (s : Scope) (t : Tree) → is_restricted t ≡ true → IsSome (fields_read t) → IsOfRecord (restricted_left s t)
left_of_record s t r k = let f = fields_of t k in subst (λ u. IsOfRecord (restricted_left s u)) f.1 (fields_left s f.0 (ap is_restricted f.1 ∙ r))

-- what a context becomes, where what is left is left of a record
pub evaluates : (t : Tree) (l k : Left) (r : Result code.Context EvaluationError) → l ≡ k → (IsSome (fields_read t) → IsOfRecord l) → Becomes k r → Evaluates t l r
evaluates t l k (Ok c) e h b = ap context_from e ∙ b
evaluates t l k (Err x) e h b = λ i other m. absurd (b m (subst IsOfRecord e (h i)))

-- with values in the place of its unknowns it stays restricted
pub stays_restricted : (values : Bindings) (t : Tree) → is_restricted t ≡ true → is_restricted (substituted values t) ≡ true
stays_restricted values t r = ap is_none (substituted_restricted values t (none_is (offence t) r))

-- the context of a record of pairs
of_record_tree : {C : Type 0} (seen : C → Context) (ps : List (Text × Tree)) (l : Left) (r : Result C ContextCreationError) → repeated_name ps ≡ None → CreatesOfExpr seen (record_tree ps) l r → CreatesOfPairs seen ps l r
of_record_tree seen ps l (Ok c) d k = (d, k.1)
of_record_tree seen ps l (Err OutOfMemory) d k = tt
of_record_tree seen ps l (Err (NotARecord e)) d k = let n = k.0 in absurd (cc)
of_record_tree seen ps l (Err (Evaluation e)) d k = (d, k.1)
of_record_tree seen ps l (Err (ExpressionConstruction e)) d k = absurd k

pub of_pairs : {C : Type 0} (seen : C → Context) (s : Scope) (ps : List (Text × Tree)) (t : Tree) (r : Result C ContextCreationError) → t ≡ record_tree ps → repeated_name ps ≡ None → CreatesOfExpr seen t (restricted_left s t) r → CreatesOfPairs seen ps (restricted_left s (record_tree ps)) r
of_pairs seen s ps t r e d k = of_record_tree seen ps (restricted_left s (record_tree ps)) r d (subst (λ u. CreatesOfExpr seen u (restricted_left s u) r) e k)

-- a context made of what an expression evaluates to, where it is a record
pub of_expr : {C : Type 0} (seen : C → Context) (t : Tree) (l : Left) (e : EvaluationError) → IsSome (fields_read t) → (IsSome (fields_read t) → StoppedBy l e) → CreatesOfExpr seen t l (Err (Evaluation e))
of_expr seen t l e i h = (i, h i)

-- an expression is a record where there are pairs to go over
pub some_read : {A B : Type 0} (f : A → B) (o : Option A) (q : Option B) → option_map f o ≡ q → is_some o ≡ true → IsSome q
some_read f None q e h = absurd (cc)
some_read f (Some a) q e h = subst IsSome e refl

-- what comes of a context with values in the place of its unknowns
made_so : (l : Left) (c : Context) → context_from l ≡ Some c → context_made l ≡ makes_it c
made_so (stopped x) c e = absurd (cc)
made_so (value_left m) c e = ap (λ o. option_map_or makes_it o (refuses (wrong_value context))) e
made_so (residual r) c e = ap (λ o. option_map_or makes_it o (refuses (wrong_value context))) e

of_record_read : (t : Tree) (l : Left) (r : Result code.Context EvaluationError) → IsSome (fields_read t) → Evaluates t l r → Substitutes context_of (context_made l) r
of_record_read t l (Ok c) i h = made_so l (context_of c) h
of_record_read t l (Err e) i h = λ other m. ap context_made (h i other m)

pub substitutes : (s : Scope) (env : Bindings) (fs : TreeFields) (t : Tree) (r : Result code.Context EvaluationError) → t ≡ substituted env (record_literal fs) → Evaluates t (restricted_left s t) r → Substitutes context_of (context_substituted s env (residual_fields fs)) r
substitutes s env fs t r e h =
    of_record_read (substituted env (record_literal fs)) (restricted_left s (substituted env (record_literal fs))) r refl (subst (λ u. Evaluates u (restricted_left s u) r) e h)

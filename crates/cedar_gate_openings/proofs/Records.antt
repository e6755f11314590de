-- What is left of the record of a context, with values in the place of its unknowns.
use Rattle.std.proofs.Common.{◌≡◌, ℕ, zero, suc, true, false, List, map, Option, Some, None, IsSome, Result, Ok, Err, IfOk, refl, sym, ap, ◌∙◌, subst}
use Rattle.std.specs.Prelude.{is_none, zip, option_map, unwrap_or}
use Rattle.std.specs.Map.{keys_of, values_of}
use Rattle.std.specs.Option.{option_map_or}
use Rattle.cedar_expr_model.specs.Builder.{built_fields, tree_fields}
use Rattle.cedar_expr_model.specs.Made.{Made}
use Rattle.cedar_expr_model.specs.Parts.{listed_fields}
use Rattle.cedar_expr_model.specs.Restricted.{is_restricted, offence}
use Rattle.cedar_expr_model.specs.Substitution.{Bindings, substituted}
use Rattle.cedar_expr_model.specs.Tree.{Tree, TreeFields, record_literal}
use Rattle.cedar_expr_model.specs.ValueParts.{all_known, part_tree}
use Rattle.cedar_evaluator_model.specs.Evaluation.{pieces_of, evaluated}
use Rattle.cedar_evaluator_model.specs.Reauthorize.{context_from}
use Rattle.cedar_evaluator_model.specs.Scope.{Context, unknown_context, Left, value_left, residual, stopped}
use Rattle.cedar_evaluator_model.specs.Steps.{Pieces, pieces, halted, record_left}
use Rattle.cedar_evaluator_requests.specs.Views.{context_of, context_or_unknown, restricted_tree}
use Rattle.cedar_evaluator_requests.specs.Fields.{fields_in}
use Rattle.cedar_evaluator_requests.specs.declared.context.RestrictedFields.{RestrictedFields}
use Rattle.cedar_expr_trees.specs.Trees.{tree_of}
use Rattle.cedar_expr_trees.specs.declared.expr.Expr.{Expr}
use Rattle.cedar_evaluator_requests.specs.declared.context.Context as code
use Rattle.cedar_evaluator_restricted_exprs.specs.Lefts.{is_stopped}
use Rattle.cedar_evaluator_model.specs.Functions.{Functions, with_functions, left_of_restricted}
use Rattle.cedar_evaluator_model.proofs.Restricted.{Clean, evaluated_clean, none_is, substituted_restricted}
use Rattle.cedar_gate_model.proofs.Runs.Contexts.{puts}
use Rattle.cedar_gate_openings.specs.Requests.{fields_left, left_context, IsRecordTree}
use Rattle.cedar_evaluator_restricted_exprs.proofs.OfRecord.{left_is_of_record}
use Rattle.cedar_evaluator_restricted_exprs.specs.Contexts.{IsOfRecord}

module _ (f : Functions) (values : Bindings) (fs : TreeFields) (r : is_restricted (record_literal fs) ≡ true) where
  -- the fields with their values are restricted
  pub stays_restricted : is_restricted (substituted values (record_literal fs)) ≡ true
  stays_restricted = ap is_none (substituted_restricted values (record_literal fs) (none_is (offence (record_literal fs)) r))

  pub fields_left_of_record : IsOfRecord (fields_left f values (record_literal fs))
  fields_left_of_record = left_is_of_record f (tree_fields (built_fields (puts values) fs)) stays_restricted

some_is : {A : Type 0} (o : Option A) → IsSome o → is_none o ≡ false
some_is None h = cc
some_is (Some a) h = refl

-- no context comes of what is left exactly where nothing is left
pub none_where_stopped : (l : Left) → IsOfRecord l → is_none (context_from l) ≡ is_stopped l
none_where_stopped (value_left m) k = some_is (context_from (value_left m)) k
none_where_stopped (residual r) k = some_is (context_from (residual r)) k.0
none_where_stopped (stopped s) k = refl

none_as : {A B : Type 0} (f : A → B) (o : Option A) → is_none o ≡ is_none (option_map f o)
none_as f None = refl
none_as f (Some a) = refl

pub none_made : {C : Type 0} (f : C → Context) (c : Option C) (l : Left) → IsOfRecord l → option_map f c ≡ context_from l → is_none c ≡ is_stopped l
none_made f c l k e = none_as f c ∙ ap is_none e ∙ none_where_stopped l k

-- an expression with values in the place of its unknowns
restricted_with : (values : Bindings) (t e : Tree) → is_restricted t ≡ true → e ≡ substituted values t → is_restricted e ≡ true
restricted_with values t e r q = ap is_restricted q ∙ ap is_none (substituted_restricted values t (none_is (offence t) r))

record_with : (values : Bindings) (fs : TreeFields) (e : Tree) → is_restricted (record_literal fs) ≡ true → e ≡ substituted values (record_literal fs) → (f : Functions) → IsOfRecord (left_of_restricted f e)
record_with values fs e r q f = subst (λ t. IsOfRecord (left_of_restricted f t)) (sym q) (fields_left_of_record f values fs r)

ok_each : {A E : Type 0} {P Q : A → Type 0} (q : Result A E) → ((a : A) → P a → Q a) → IfOk q P → IfOk q Q
ok_each (Ok a) f h = f a h
ok_each (Err e) f h = tt

-- what stopped is no context
pub no_context : (l : Left) → is_stopped l ≡ true → context_from l ≡ None
no_context (stopped s) e = refl
no_context (value_left m) e = cc
no_context (residual r) e = cc

-- What a call answers of what is left of a record, whichever functions these are of which it is left.
module _ {E : Type 0} (q : Result (Option code.Context) E) (Are : Functions → Type 0) (t : Tree) (l : Left) (fits : IsRecordTree t) (is : (f : Functions) → Are f → left_of_restricted f t ≡ l) where
  pub context_made : IfOk q (λ c. IsOfRecord l → option_map context_of c ≡ context_from l) → IfOk q (λ c. (f : Functions) → Are f → option_map context_of c ≡ context_from (left_of_restricted f t))
  context_made h = ok_each q (λ c made f a. made (subst IsOfRecord (is f a) (fits.each f)) ∙ ap context_from (sym (is f a))) h

  pub context_fails : IfOk q (λ c. IsOfRecord l → option_map context_of c ≡ context_from l) → IfOk q (λ c. (f : Functions) → Are f → is_none c ≡ is_stopped (left_of_restricted f t))
  context_fails h = ok_each q (λ c made f a. none_made context_of c (left_of_restricted f t) (fits.each f) (made (subst IsOfRecord (is f a) (fits.each f)) ∙ ap context_from (sym (is f a)))) h

-- What a call answers of what is left of an expression it answers of what is left of one that is the same.
module _ {E : Type 0} (q : Result (Option code.Context) E) (Are : Functions → Type 0) (t u : Tree) (same : t ≡ u) where
  pub made_as : IfOk q (λ c. (f : Functions) → Are f → option_map context_of c ≡ context_from (left_of_restricted f t)) → IfOk q (λ c. (f : Functions) → Are f → option_map context_of c ≡ context_from (left_of_restricted f u))
  made_as h = subst (λ z. IfOk q (λ c. (f : Functions) → Are f → option_map context_of c ≡ context_from (left_of_restricted f z))) same h

  pub fails_as : IfOk q (λ c. (f : Functions) → Are f → is_none c ≡ is_stopped (left_of_restricted f t)) → IfOk q (λ c. (f : Functions) → Are f → is_none c ≡ is_stopped (left_of_restricted f u))
  fails_as h = subst (λ z. IfOk q (λ c. (f : Functions) → Are f → is_none c ≡ is_stopped (left_of_restricted f z))) same h

-- the context that is left, or an unknown one
pub left_as_context : (c : Option code.Context) (l : Left) → option_map context_of c ≡ context_from l → context_or_unknown c ≡ left_context l
left_as_context c l e = as_unwrapped c ∙ ap (λ (o : Option Context). unwrap_or o unknown_context) e
  where
    as_unwrapped : (c : Option code.Context) → context_or_unknown c ≡ unwrap_or (option_map context_of c) unknown_context
    as_unwrapped None = refl
    as_unwrapped (Some k) = refl

-- What a call answers, if it is a restricted expression with values put into it, is restricted, and is a record where that is one.
pub all_restricted : {E : Type 0} (values : Bindings) (t : Tree) (q : Result (Expr Unit) E) → is_restricted t ≡ true → IfOk q (λ e. tree_of e ≡ substituted values t) → IfOk q (λ e. is_restricted (tree_of e) ≡ true)
all_restricted values t (Ok e) r h = restricted_with values t (tree_of e) r h
all_restricted values t (Err x) r h = tt

pub all_of_record : {E : Type 0} (values : Bindings) (r : RestrictedFields) (q : Result (Expr Unit) E) → is_restricted (restricted_tree r) ≡ true → IfOk q (λ e. tree_of e ≡ substituted values (restricted_tree r))
    → IfOk q (λ e. IsRecordTree (tree_of e))
all_of_record values r (Ok e) k h = record { each = record_with values (fields_in r.fields.value.entries) (tree_of e) k h }
all_of_record values r (Err x) k h = tt

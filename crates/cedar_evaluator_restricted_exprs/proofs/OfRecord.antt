-- What is left of a record is one, and the context that is made of it.
use Rattle.std.proofs.Common.{◌≡◌, ℕ, zero, suc, true, List, map, Option, Some, None, IsSome, Result, Ok, Err, IfOk, refl, sym, ap}
use Rattle.std.specs.Prelude.{is_none, zip, option_map}
use Rattle.std.specs.Map.{keys_of, values_of}
use Rattle.std.specs.Option.{option_map_or}
use Rattle.cedar_expr_model.specs.Builder.{tree_fields}
use Rattle.cedar_expr_model.specs.Made.{Made}
use Rattle.cedar_expr_model.specs.Parts.{listed_fields}
use Rattle.cedar_expr_model.specs.Restricted.{is_restricted, offence}
use Rattle.cedar_expr_model.specs.Tree.{Tree, TreeFields, record_literal}
use Rattle.cedar_expr_model.specs.Unknowns.{has_unknown}
use Rattle.cedar_expr_model.specs.ValueParts.{all_known, part_tree}
use Rattle.cedar_evaluator_model.specs.Evaluation.{pieces_of, evaluated}
use Rattle.cedar_evaluator_model.specs.Reauthorize.{context_from}
use Rattle.cedar_evaluator_model.specs.Scope.{Scope, Left, value_left, residual, stopped}
use Rattle.cedar_evaluator_model.specs.Steps.{Pieces, pieces, halted, record_left}
use Rattle.cedar_evaluator_requests.specs.Views.{context_of}
use Rattle.cedar_evaluator_requests.specs.declared.context.Context as code
use Rattle.cedar_evaluator_model.specs.Functions.{Functions, with_functions, left_of_restricted}
use Rattle.cedar_evaluator_model.proofs.Restricted.{Clean, evaluated_clean, none_is}
use Rattle.cedar_evaluator_restricted_exprs.specs.Contexts.{IsOfRecord, IsContextOf}

-- a context is made of what is left, or nothing is left
abbrev pub MakesContext : Left → Type 0
MakesContext (stopped s) = Unit {0}
MakesContext l = IsSome (context_from l)

by_known : (o : Option (List Made)) (next : List Made → Left) (r : Tree) → ((ms : List Made) → MakesContext (next ms)) → MakesContext (residual r) → MakesContext (option_map_or next o (residual r))
by_known None next r h k = k
by_known (Some ms) next r h k = h ms

of_pieces : (names : _) (ps : Pieces) → MakesContext (record_left names ps)
of_pieces names (halted s) = tt
of_pieces names (pieces qs) = by_known (all_known qs) _ (record_literal (tree_fields (zip names (map part_tree qs)))) (λ ms. refl) refl

pub of_record : (s : Scope) (n : ℕ) (fs : TreeFields) → MakesContext (evaluated s n (record_literal fs))
of_record s zero fs = tt
of_record s (suc n) fs = of_pieces (keys_of (listed_fields fs)) (pieces_of (evaluated s n) (values_of (listed_fields fs)))

pub both : (t : Tree) (l : Left) → Clean t l → MakesContext l → IsOfRecord l
both t (value_left m) c k = k
both t (residual r) c k = (k, c.0, ap is_none c.1)
both t (stopped s) c k = tt

-- whatever the functions, what is left of a restricted record is left of a record
pub left_is_of_record : (f : Functions) (fs : TreeFields) → is_restricted (record_literal fs) ≡ true → IsOfRecord (left_of_restricted f (record_literal fs))
left_is_of_record f fs r =
    let t = record_literal fs in
    both t (left_of_restricted f t) (evaluated_clean f 512 t (none_is (offence t) r)) (of_record (with_functions f) 512 fs)

ok_each : {A E : Type 0} {P Q : A → Type 0} (q : Result A E) → ((a : A) → P a → Q a) → IfOk q P → IfOk q Q
ok_each (Ok a) f h = f a h
ok_each (Err e) f h = tt

-- what is made of an expression, or of a value, is made of what is left of a record, which is one
pub residual_made : {E : Type 0} (q : Result (Option code.Context) E) (t : Tree) → IfOk q (λ c. is_restricted t ≡ true → has_unknown t ≡ true → option_map context_of c ≡ context_from (residual t))
    → IfOk q (λ c. IsOfRecord (residual t) → option_map context_of c ≡ context_from (residual t))
residual_made q t h = ok_each q (λ c made k. made k.2 k.1) h

pub value_made : {E : Type 0} (q : Result (Option code.Context) E) (l : Left) → IfOk q (λ c. option_map context_of c ≡ context_from l) → IfOk q (λ c. IsOfRecord l → option_map context_of c ≡ context_from l)
value_made q l h = ok_each q (λ c made k. made) h

context_is : (l : Left) (c : Option code.Context) → option_map context_of c ≡ context_from l → IsContextOf l c
context_is l None e = tt
context_is l (Some k) e = sym e

pub some_made : {E : Type 0} (q : Result (Option code.Context) E) (l : Left) → IfOk q (λ c. option_map context_of c ≡ context_from l) → IfOk q (IsContextOf l)
some_made q l h = ok_each q (context_is l) h

-- The walk along expressions in a row, and along the fields of a record: what was typed so far, and then what the rest is.
use Rattle.std.proofs.Common.{◌≡◌, true, ℕ, suc, ◌<◌, ◌≤◌, ◌+◌, List, [], ◌∷◌, ◌++◌, length, drop, get_or, map, Option, Some, None, refl, sym, ap, ◌∙◌, drop-cons, drop_of_length-le, arith}
use Rattle.std.specs.Prelude.{option_map, option_and_then}
use Rattle.std.specs.Rc.{rc_str_bytes}
use Rattle.std.specs.List.Sorted.{IsStrictlySortedBy}
use Rattle.std.specs.Map.{keys_of}
use Rattle.std.specs.declared.alloc.Global.{Global}
use Rattle.std.specs.declared.rc.RcStr.{RcStr}
use Rattle.cedar_expr_model.specs.Builder.{trees, tree_fields}
use Rattle.cedar_expr_model.specs.Lists.{rises}
use Rattle.cedar_expr_model.specs.Order.{text_cmp}
use Rattle.cedar_expr_model.specs.Name.{Text}
use Rattle.cedar_expr_model.specs.Records.{in_order, names_rise}
use Rattle.cedar_expr_values.proofs.Ascending.{names_ascend}
use Rattle.cedar_expr_trees.specs.Trees.{tree_of, named, field_trees}
use Rattle.cedar_expr_trees.specs.declared.expr.Expr.{Expr}
use Rattle.cedar_schema_types.specs.declared.types.Type.{«Type» as CodeType}
use Rattle.cedar_typechecker_model.specs.Facts.{Facts, no_facts}
use Rattle.cedar_typechecker_model.specs.Rules.{Setting}
use Rattle.cedar_typechecker_model.specs.Typed.{Typed, Row, no_row, row_with, FieldRow, no_field_row, field_row_with, typed, typed_row, typed_fields}
use Rattle.cedar_typechecker_answers.specs.Answers.{typed_at}
use Rattle.cedar_typechecker_answers.proofs.Fields.{same_fields}
use Rattle.cedar_typechecker_operators.specs.Rows.{then_row, then_fields}

drop_here : {A : Type 0} (es : List A) (i : ℕ) (e d : A) → i < length es → e ≡ get_or es i d → drop i es ≡ e ∷ drop (i + 1) es
drop_here es i e d below at = let next : suc i ≡ i + 1 = omega arith in drop-cons es i d below ∙ (λ j. sym at j ∷ drop (next j) es)

then_more : (es : List (Expr (Option CodeType))) (e : Expr (Option CodeType)) (o : Option Row) → then_row (es ++ e ∷ []) o ≡ then_row es (then_row (e ∷ []) o)
then_more [] e o = refl
then_more (x ∷ es) e o = ap (λ q. option_and_then (λ y. option_map (row_with y) q) (typed_at x no_facts x.«data»)) (then_more es e o)

apart : (e : Expr (Option CodeType)) (f : Facts) (d : Option CodeType) (o : Option Row) → option_and_then (λ x. option_map (row_with x) o) (typed_at e no_facts d) ≡ option_and_then (λ x. option_map (row_with x) o) (typed_at e f d)
apart e f None o = refl
apart e f (Some t) o = refl

nothing : (q : Option Typed) → option_and_then (λ x. option_map (row_with x) None) q ≡ None
nothing None = refl
nothing (Some x) = refl

then_none : (es : List (Expr (Option CodeType))) → then_row es None ≡ None
then_none [] = refl
then_none (x ∷ es) = ap (λ q. option_and_then (λ y. option_map (row_with y) q) (typed_at x no_facts x.«data»)) (then_none es) ∙ nothing (typed_at x no_facts x.«data»)

module _ (s : Setting) (known : Facts) where
  abbrev rest_of : List (Expr Unit) → Option Row
  rest_of es = typed_row s known (trees (map tree_of es))

  pub record RowSoFar (es : List (Expr Unit)) (made : List (Expr (Option CodeType))) (rest : List (Expr Unit)) : Type 0 where
    pub is : then_row made (rest_of rest) ≡ rest_of es

  pub row_start : (es : List (Expr Unit)) → RowSoFar es [] es
  row_start es = record { is = refl }

  pub row_on : (es : List (Expr Unit)) (i : ℕ) (e d : Expr Unit) (made more : List (Expr (Option CodeType))) (x : Expr (Option CodeType)) (f : Facts) → i < length es → e ≡ get_or es i d → RowSoFar es made (drop i es) → typed_at x f x.«data» ≡ typed s known (tree_of e) → more ≡ made ++ x ∷ [] → RowSoFar es more (drop (i + 1) es)
  row_on es i e d made more x f below at was here m =
      let later : Option Row = rest_of (drop (i + 1) es) in
      record {
        is =
            ap (λ xs. then_row xs later) m
            ∙ then_more made x later
            ∙ ap (then_row made) (apart x f x.«data» later ∙ ap (option_and_then (λ y. option_map (row_with y) later)) here)
            ∙ ap (λ ds. then_row made (rest_of ds)) (sym (drop_here es i e d below at))
            ∙ was.is;
      }

  pub row_stops : (es : List (Expr Unit)) (i : ℕ) (e d : Expr Unit) (made : List (Expr (Option CodeType))) → i < length es → e ≡ get_or es i d → RowSoFar es made (drop i es) → None ≡ typed s known (tree_of e) → None ≡ rest_of es
  row_stops es i e d made below at was here =
      let later : Option Row = rest_of (drop (i + 1) es) in
      sym (then_none made)
      ∙ ap (λ o. then_row made (option_and_then (λ y. option_map (row_with y) later) o)) here
      ∙ ap (λ ds. then_row made (rest_of ds)) (sym (drop_here es i e d below at))
      ∙ was.is

  pub row_end : (es : List (Expr Unit)) (i : ℕ) (made : List (Expr (Option CodeType))) → length es ≤ i → RowSoFar es made (drop i es) → then_row made (Some no_row) ≡ rest_of es
  row_end es i made past was = ap (λ ds. then_row made (rest_of ds)) (sym (drop_of_length-le es past)) ∙ was.is

-- To put fields with one more at the end before a row is to put that one there first, and then the fields.
fields_more : (ps : List (RcStr Global × Expr (Option CodeType))) (p : RcStr Global × Expr (Option CodeType)) (o : Option FieldRow) → then_fields (ps ++ p ∷ []) o ≡ then_fields ps (then_fields (p ∷ []) o)
fields_more [] p o = refl
fields_more (x ∷ ps) p o = ap (λ q. option_and_then (λ y. option_map (field_row_with (rc_str_bytes x.0) y) q) (typed_at x.1 no_facts x.1.«data»)) (fields_more ps p o)

fields_apart : (a : RcStr Global) (e : Expr (Option CodeType)) (f : Facts) (d : Option CodeType) (o : Option FieldRow) → option_and_then (λ x. option_map (field_row_with (rc_str_bytes a) x) o) (typed_at e no_facts d) ≡ option_and_then (λ x. option_map (field_row_with (rc_str_bytes a) x) o) (typed_at e f d)
fields_apart a e f None o = refl
fields_apart a e f (Some t) o = refl

no_fields : (a : RcStr Global) (q : Option Typed) → option_and_then (λ x. option_map (field_row_with (rc_str_bytes a) x) None) q ≡ None
no_fields a None = refl
no_fields a (Some x) = refl

fields_none : (ps : List (RcStr Global × Expr (Option CodeType))) → then_fields ps None ≡ None
fields_none [] = refl
fields_none (x ∷ ps) = ap (λ q. option_and_then (λ y. option_map (field_row_with (rc_str_bytes x.0) y) q) (typed_at x.1 no_facts x.1.«data»)) (fields_none ps) ∙ no_fields x.0 (typed_at x.1 no_facts x.1.«data»)

module _ (s : Setting) (known : Facts) where
  abbrev fields_in : List (RcStr Global × Expr Unit) → Option FieldRow
  fields_in es = typed_fields s known (tree_fields (named (field_trees es)))

  pub record FieldsSoFar (es : List (RcStr Global × Expr Unit)) (made : List (RcStr Global × Expr (Option CodeType))) (rest : List (RcStr Global × Expr Unit)) : Type 0 where
    pub is : then_fields made (fields_in rest) ≡ fields_in es

  pub fields_start : (es : List (RcStr Global × Expr Unit)) → FieldsSoFar es [] es
  fields_start es = record { is = refl }

  pub fields_on : (es rest later : List (RcStr Global × Expr Unit)) (made more : List (RcStr Global × Expr (Option CodeType))) (k n : RcStr Global) (e : Expr Unit) (x : Expr (Option CodeType)) (f : Facts) → FieldsSoFar es made rest → rest ≡ (k, e) ∷ later → more ≡ made ++ (n, x) ∷ [] → rc_str_bytes n ≡ rc_str_bytes k → typed_at x f x.«data» ≡ typed s known (tree_of e) → FieldsSoFar es more later
  fields_on es rest later made more k n e x f was r m same here =
      record {
        is =
            ap (λ xs. then_fields xs (fields_in later)) m
            ∙ fields_more made (n, x) (fields_in later)
            ∙ ap (then_fields made) (fields_apart n x f x.«data» (fields_in later) ∙ (λ i. option_and_then (λ y. option_map (field_row_with (same i) y) (fields_in later)) (here i)))
            ∙ ap (λ ds. then_fields made (fields_in ds)) (sym r)
            ∙ was.is;
      }

  pub fields_stop : (es rest later : List (RcStr Global × Expr Unit)) (made : List (RcStr Global × Expr (Option CodeType))) (k : RcStr Global) (e : Expr Unit) → FieldsSoFar es made rest → rest ≡ (k, e) ∷ later → None ≡ typed s known (tree_of e) → None ≡ fields_in es
  fields_stop es rest later made k e was r here =
      sym (fields_none made)
      ∙ ap (λ o. then_fields made (option_and_then (λ y. option_map (field_row_with (rc_str_bytes k) y) (fields_in later)) o)) here
      ∙ ap (λ ds. then_fields made (fields_in ds)) (sym r)
      ∙ was.is

  pub fields_end : (es rest : List (RcStr Global × Expr Unit)) (made : List (RcStr Global × Expr (Option CodeType))) → FieldsSoFar es made rest → rest ≡ [] → then_fields made (Some no_field_row) ≡ fields_in es
  fields_end es rest made was r = ap (λ ds. then_fields made (fields_in ds)) (sym r) ∙ was.is

-- the names of what was made rise as those of the fields do
names_of_fields : {A : Type 0} (es : List (RcStr Global × A)) → map (λ p. p.0) (named es) ≡ map (λ e. rc_str_bytes e.0) es
names_of_fields [] = refl
names_of_fields (e ∷ es) = ap (λ ns. rc_str_bytes e.0 ∷ ns) (names_of_fields es)

pub rise_by_names : {A B : Type 0} (made : List (RcStr Global × A)) (es : List (RcStr Global × B)) → map (λ e. rc_str_bytes e.0) made ≡ map (λ e. rc_str_bytes e.0) es → IsStrictlySortedBy (λ x y. text_cmp (rc_str_bytes x) (rc_str_bytes y)) (keys_of es) → names_rise (named made) ≡ true
rise_by_names made es e s = ap (rises text_cmp) (names_of_fields made ∙ e ∙ sym (names_of_fields es)) ∙ names_ascend es s

-- fields whose names rise are those of their map
abbrev then_named : List (Text × Expr (Option CodeType)) → Option FieldRow → Option FieldRow
then_named [] o = o
then_named (p ∷ ps) o = option_and_then (λ x. option_map (field_row_with p.0 x) (then_named ps o)) (typed_at p.1 no_facts p.1.«data»)

by_names : (es : List (RcStr Global × Expr (Option CodeType))) (o : Option FieldRow) → then_fields es o ≡ then_named (named es) o
by_names [] o = refl
by_names (e ∷ es) o = ap (λ r. option_and_then (λ x. option_map (field_row_with (rc_str_bytes e.0) x) r) (typed_at e.1 no_facts e.1.«data»)) (by_names es o)

pub fields_in_order : (es ps : List (RcStr Global × Expr (Option CodeType))) (o : Option FieldRow) → names_rise (named ps) ≡ true → named es ≡ in_order (named ps) → then_fields es o ≡ then_fields ps o
fields_in_order es ps o h e = by_names es o ∙ ap (λ ns. then_named ns o) (same_fields es ps h e) ∙ sym (by_names ps o)

-- What is gathered on the walk that puts values in the place of unknowns.
use Rattle.std.proofs.Common.{◌≡◌, true, ℕ, suc, ◌+◌, ◌<◌, length, get_or, drop, drop-cons, append_assoc, arith, List, [], ◌∷◌, ◌++◌, map, Option, Some, None, Result, Ok, Err, IfOk, refl, sym, ap, ◌∙◌}
use Rattle.std.proofs.lemmas.List.{append-nil, map-append}
use Rattle.std.specs.declared.alloc.Global.{Global}
use Rattle.std.specs.declared.collections.BTreeMap.{BTreeMap}
use Rattle.std.specs.declared.rc.RcStr.{RcStr}
use Rattle.std.specs.Rc.{rc_str_bytes}
use Rattle.std.specs.List.Sorted.{IsStrictlySortedBy}
use Rattle.std.specs.Map.{keys_of}
use Rattle.cedar_expr_model.specs.Name.{Text}
use Rattle.cedar_expr_model.specs.Tree.{CoreType, Tree, unknown}
use Rattle.cedar_expr_model.specs.Builder.{Builder, built, built_list, built_fields, tree_builder, trees, tree_fields}
use Rattle.cedar_expr_model.specs.Lists.{rises}
use Rattle.cedar_expr_model.specs.Made.{Made, written}
use Rattle.cedar_expr_model.specs.Order.{text_cmp}
use Rattle.cedar_expr_model.specs.Records.{names_rise, in_order}
use Rattle.cedar_expr_model.specs.Substitution.{Bindings, substituted}
use Rattle.cedar_expr_model.proofs.Substituting.{bound_or}
use Rattle.cedar_expr_values.proofs.Ascending.{names_ascend}
use Rattle.cedar_expr_trees.specs.Trees.{tree_of, named, field_trees}
use Rattle.cedar_expr_trees.specs.declared.expr.Expr.{Expr}
use Rattle.cedar_expr_builders.proofs.Ordered.{meant_rising}
use Rattle.cedar_expr_substitution.proofs.InTurn.{written_stays}

-- the written value of an unknown that is bound, and the unknown where it isn't
pub value_put_in : (env : Bindings) (n : Text) (a : Option CoreType) (m : Made) (t : Tree) → env n ≡ Some m → t ≡ written m → t ≡ substituted env (unknown n a)
value_put_in env n a m t h e = e ∙ sym (written_stays (λ k b. tree_builder.of_unknown k b) m) ∙ ap (bound_or tree_builder n a) (sym h)

pub value_written : {E : Type 0} (env : Bindings) (n : Text) (a : Option CoreType) (m : Made) (q : Result (Expr Unit) E) → env n ≡ Some m → IfOk q (λ e. tree_of e ≡ written m) → IfOk q (λ e. tree_of e ≡ substituted env (unknown n a))
value_written env n a m (Ok e) h k = value_put_in env n a m (tree_of e) h k
value_written env n a m (Err x) h k = tt

pub unknown_stays : (env : Bindings) (n : Text) (a : Option CoreType) (t : Tree) → env n ≡ None → t ≡ unknown n a → t ≡ substituted env (unknown n a)
unknown_stays env n a t h e = e ∙ ap (bound_or tree_builder n a) (sym h)

-- what is made is the other of two trees that are the same
pub onto : {E : Type 0} (r : Result (Expr Unit) E) (t u : Tree) → t ≡ u → IfOk r (λ e. tree_of e ≡ t) → IfOk r (λ e. tree_of e ≡ u)
onto (Ok e) t u same h = h ∙ same
onto (Err x) t u same h = tt

-- a walk along fields: those made so far, and then those that are left, are those of all
module _ (b : Builder Tree) (all rest : List (RcStr Global × Expr Unit)) where
  abbrev pub of_fields : List (RcStr Global × Expr Unit) → List (Text × Tree)
  of_fields es = built_fields b (tree_fields (named (field_trees es)))

  fields_more : (done : List (RcStr Global × Expr Unit)) (k c : RcStr Global) (x : Expr Unit) (ps : List (Text × Tree)) → rc_str_bytes c ≡ rc_str_bytes k → named (field_trees (done ++ (c, x) ∷ [])) ++ ps ≡ named (field_trees done) ++ (rc_str_bytes k, tree_of x) ∷ ps
  fields_more [] k c x ps same = ap (λ n. (n, tree_of x) ∷ ps) same
  fields_more (d ∷ done) k c x ps same = ap (λ qs. (rc_str_bytes d.0, tree_of d.1) ∷ qs) (fields_more done k c x ps same)

  pub field_steps : (later : List (RcStr Global × Expr Unit)) (done more : List (RcStr Global × Expr Unit)) (k c : RcStr Global) (e x : Expr Unit) → named (field_trees done) ++ of_fields rest ≡ of_fields all → rest ≡ (k, e) ∷ later → more ≡ done ++ (c, x) ∷ [] → rc_str_bytes c ≡ rc_str_bytes k → tree_of x ≡ built b (tree_of e) → named (field_trees more) ++ of_fields later ≡ of_fields all
  field_steps later done more k c e x h is n same made =
      ap (λ ds. named (field_trees ds) ++ of_fields later) n
      ∙ fields_more done k c x (of_fields later) same
      ∙ ap (λ t. named (field_trees done) ++ (rc_str_bytes k, t) ∷ of_fields later) made
      ∙ ap (λ es. named (field_trees done) ++ of_fields es) (sym is)
      ∙ h

  pub fields_end : (done : List (RcStr Global × Expr Unit)) → named (field_trees done) ++ of_fields rest ≡ of_fields all → rest ≡ [] → named (field_trees done) ≡ of_fields all
  fields_end done h is = sym (append-nil (named (field_trees done))) ∙ ap (λ es. named (field_trees done) ++ of_fields es) (sym is) ∙ h

names_built : (b : Builder Tree) (es : List (RcStr Global × Expr Unit)) → map (λ p. p.0) (built_fields b (tree_fields (named (field_trees es)))) ≡ map (λ p. p.0) (named es)
names_built b [] = refl
names_built b (e ∷ es) = ap (λ ns. rc_str_bytes e.0 ∷ ns) (names_built b es)

names_stay : (es : List (RcStr Global × Expr Unit)) → map (λ p. p.0) (named (field_trees es)) ≡ map (λ p. p.0) (named es)
names_stay [] = refl
names_stay (e ∷ es) = ap (λ ns. rc_str_bytes e.0 ∷ ns) (names_stay es)

-- the names of what is made rise where those of the fields do
made_rises : (b : Builder Tree) (es made : List (RcStr Global × Expr Unit)) → named (field_trees made) ≡ built_fields b (tree_fields (named (field_trees es))) → IsStrictlySortedBy (λ x y. text_cmp (rc_str_bytes x) (rc_str_bytes y)) (keys_of es) → names_rise (named made) ≡ true
made_rises b es made h s =
    ap (rises text_cmp) (sym (names_stay made) ∙ ap (map (λ p. p.0)) h ∙ names_built b es)
    ∙ names_ascend es s

-- the map of what is made
pub map_made : {E : Type 0} (b : Builder Tree) (es made : List (RcStr Global × Expr Unit)) (q : Result (BTreeMap (RcStr Global) (Expr Unit) Global) E)
    → named (field_trees made) ≡ built_fields b (tree_fields (named (field_trees es)))
    → IsStrictlySortedBy (λ x y. text_cmp (rc_str_bytes x) (rc_str_bytes y)) (keys_of es)
    → IfOk q (λ m. named m.entries ≡ in_order (named made))
    → IfOk q (λ m. named (field_trees m.entries) ≡ built_fields b (tree_fields (named (field_trees es))))
map_made b es made (Ok m) h s e = meant_rising (tree_of {T = Unit}) m.entries made e (made_rises b es made h s) ∙ h
map_made b es made (Err x) h s e = tt

-- a walk along a row, in the same way
module _ (b : Builder Tree) (xs : List (Expr Unit)) (i : ℕ) (x d : Expr Unit) where
  abbrev of_row : List (Expr Unit) → List Tree
  of_row es = built_list b (trees (map tree_of es))

  pub row_steps : (done more : List (Expr Unit)) (y : Expr Unit) (all : List Tree) → i < length xs → x ≡ get_or xs i d → map tree_of done ++ of_row (drop i xs) ≡ all → more ≡ done ++ y ∷ [] → tree_of y ≡ built b (tree_of x) → map tree_of more ++ of_row (drop (i + 1) xs) ≡ all
  row_steps done more y all below at h n made =
      let next : i + 1 ≡ suc i = omega arith in
      ap (λ ms. map tree_of ms ++ of_row (drop (i + 1) xs)) n
      ∙ ap (λ ts. ts ++ of_row (drop (i + 1) xs)) (map-append tree_of done (y ∷ []))
      ∙ append_assoc (map tree_of done) (tree_of y ∷ []) (of_row (drop (i + 1) xs))
      ∙ ap (λ t. map tree_of done ++ t ∷ of_row (drop (i + 1) xs)) (made ∙ ap (λ z. built b (tree_of z)) at)
      ∙ ap (λ k. map tree_of done ++ built b (tree_of (get_or xs i d)) ∷ of_row (drop k xs)) next
      ∙ ap (λ zs. map tree_of done ++ of_row zs) (sym (drop-cons xs i d below))
      ∙ h

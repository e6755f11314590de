-- The names of what is made of fields.
use Rattle.std.proofs.Common.{◌≡◌, true, ℕ, suc, ◌+◌, ◌<◌, length, get_or, drop, drop-cons, arith, List, [], ◌∷◌, ◌++◌, map, Result, Ok, Err, refl, sym, ap, ◌∙◌}
use Rattle.std.specs.declared.alloc.Global.{Global}
use Rattle.std.specs.declared.rc.RcStr.{RcStr}
use Rattle.std.specs.Rc.{rc_str_bytes}
use Rattle.cedar_expr_model.specs.Name.{Text}
use Rattle.cedar_expr_model.specs.Builder.{Builder, built, built_list, built_fields, trees, tree_fields}
use Rattle.cedar_expr_model.specs.Lists.{rises}
use Rattle.cedar_expr_model.specs.Order.{text_cmp}
use Rattle.cedar_expr_model.specs.Records.{names_rise}
use Rattle.cedar_expr_trees.specs.Trees.{tree_of, named, field_trees}
use Rattle.cedar_expr_trees.specs.declared.expr.Expr.{Expr}
use Rattle.cedar_expr_builders.specs.Refusing.{and_then, all_made, fields_made}
use Rattle.cedar_expr_builders.specs.Views.{meant}
use Rattle.cedar_expr_substitution.proofs.Gathered.{one_and, after, ends}
use Rattle.cedar_expr_substitution.proofs.Stepping.{row_goes_on, row_goes_wrong}

-- what is made has the names of the fields
names_stay : {M R : Type 0} (os : List (Text × Result M R)) (ms : List (Text × M)) → fields_made os ≡ Ok ms → map (λ p. p.0) ms ≡ map (λ p. p.0) os
names_stay [] ms h = let e : [] ≡ ms = cc in ap (map (λ p. p.0)) (sym e)
names_stay ((b, Err s) ∷ os) ms h = absurd (cc)
names_stay {M} {R} ((b, Ok y) ∷ os) ms h = go (fields_made os) refl h (names_stay os)
  where
    go : (q : Result (List (Text × M)) R) → fields_made os ≡ q → and_then (λ ys. Ok ((b, y) ∷ ys)) q ≡ Ok ms → ((ys : List (Text × M)) → fields_made os ≡ Ok ys → map (λ p. p.0) ys ≡ map (λ p. p.0) os) → map (λ p. p.0) ms ≡ b ∷ map (λ p. p.0) os
    go (Err s) e k l = absurd (cc)
    go (Ok ys) e k l = let n : (b, y) ∷ ys ≡ ms = cc in ap (map (λ p. p.0)) (sym n) ∙ ap (λ ns. b ∷ ns) (l ys e)

names_built : {T M R : Type 0} (b : Builder (Result M R)) (es : List (RcStr Global × Expr T)) → map (λ p. p.0) (built_fields b (tree_fields (named (field_trees es)))) ≡ map (λ p. p.0) (named es)
names_built b [] = refl
names_built b (e ∷ es) = ap (λ ns. rc_str_bytes e.0 ∷ ns) (names_built b es)

names_meant : {B M : Type 0} (means : B → M) (es : List (RcStr Global × B)) → map (λ p. p.0) (named (meant means es)) ≡ map (λ p. p.0) (named es)
names_meant means [] = refl
names_meant means (e ∷ es) = ap (λ ns. rc_str_bytes e.0 ∷ ns) (names_meant means es)

-- the names of what is made rise where those of the fields do
pub made_rises : {T B M R : Type 0} (b : Builder (Result M R)) (means : B → M) (es : List (RcStr Global × Expr T)) (made : List (RcStr Global × B)) → fields_made (built_fields b (tree_fields (named (field_trees es)))) ≡ Ok (named (meant means made)) → names_rise (named es) ≡ true → names_rise (named made) ≡ true
made_rises b means es made h s =
    ap (rises text_cmp) (sym (names_meant means made) ∙ names_stay (built_fields b (tree_fields (named (field_trees es)))) (named (meant means made)) h ∙ names_built b es)
    ∙ s

-- a walk along fields
module _ {T B M R : Type 0} (b : Builder (Result M R)) (means : B → M) (all rest : List (RcStr Global × Expr T)) where
  abbrev pub of_fields : List (RcStr Global × Expr T) → Result (List (Text × M)) R
  of_fields es = fields_made (built_fields b (tree_fields (named (field_trees es))))

  pub field_goes_on : (later : List (RcStr Global × Expr T)) (done more : List (RcStr Global × B)) (k : RcStr Global) (e : Expr T) → of_fields all ≡ after (named (meant means done)) (of_fields rest) → rest ≡ (k, e) ∷ later → and_then (λ x. Ok (named (meant means done) ++ (rc_str_bytes k, x) ∷ [])) (built b (tree_of e)) ≡ Ok (named (meant means more)) → of_fields all ≡ after (named (meant means more)) (of_fields later)
  field_goes_on later done more k e h is n = row_goes_on (λ m. (rc_str_bytes k, m)) (of_fields all) (of_fields rest) (of_fields later) (built b (tree_of e)) (named (meant means done)) (named (meant means more)) h (ap of_fields is) n

  pub field_goes_wrong : (later : List (RcStr Global × Expr T)) (done : List (RcStr Global × B)) (k : RcStr Global) (e : Expr T) (r : R) → of_fields all ≡ after (named (meant means done)) (of_fields rest) → rest ≡ (k, e) ∷ later → and_then (λ x. Ok (named (meant means done) ++ (rc_str_bytes k, x) ∷ [])) (built b (tree_of e)) ≡ Err r → of_fields all ≡ Err r
  field_goes_wrong later done k e r h is n = row_goes_wrong (λ m. (rc_str_bytes k, m)) (of_fields all) (of_fields rest) (of_fields later) (built b (tree_of e)) (named (meant means done)) r h (ap of_fields is) n

  pub fields_end : (done : List (RcStr Global × B)) → of_fields all ≡ after (named (meant means done)) (of_fields rest) → rest ≡ [] → of_fields all ≡ Ok (named (meant means done))
  fields_end done h is = ends (of_fields all) (of_fields rest) (named (meant means done)) h (ap of_fields is)

-- a walk along a row
module _ {T B M R : Type 0} (b : Builder (Result M R)) (means : B → M) (xs : List (Expr T)) (i : ℕ) (x d : Expr T) where
  abbrev of_row : List (Expr T) → Result (List M) R
  of_row es = all_made (built_list b (trees (map tree_of es)))

  falls : i < length xs → x ≡ get_or xs i d → of_row (drop i xs) ≡ one_and (λ m. m) (built b (tree_of x)) (of_row (drop (i + 1) xs))
  falls below at =
      let next : suc i ≡ i + 1 = omega arith in
      ap of_row (drop-cons xs i d below)
      ∙ ap (λ y. one_and (λ m. m) (built b (tree_of y)) (of_row (drop (suc i) xs))) (sym at)
      ∙ ap (λ k. one_and (λ m. m) (built b (tree_of x)) (of_row (drop k xs))) next

  pub row_steps : (all : Result (List M) R) (done more : List B) → i < length xs → x ≡ get_or xs i d → all ≡ after (map means done) (of_row (drop i xs)) → and_then (λ y. Ok (map means done ++ y ∷ [])) (built b (tree_of x)) ≡ Ok (map means more) → all ≡ after (map means more) (of_row (drop (i + 1) xs))
  row_steps all done more below at h n = row_goes_on (λ m. m) all (of_row (drop i xs)) (of_row (drop (i + 1) xs)) (built b (tree_of x)) (map means done) (map means more) h (falls below at) n

  pub row_wrong : (all : Result (List M) R) (done : List B) (r : R) → i < length xs → x ≡ get_or xs i d → all ≡ after (map means done) (of_row (drop i xs)) → and_then (λ y. Ok (map means done ++ y ∷ [])) (built b (tree_of x)) ≡ Err r → all ≡ Err r
  row_wrong all done r below at h n = row_goes_wrong (λ m. m) all (of_row (drop i xs)) (of_row (drop (i + 1) xs)) (built b (tree_of x)) (map means done) r h (falls below at) n

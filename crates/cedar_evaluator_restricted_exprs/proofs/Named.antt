-- Names with what stands in their places.
use Rattle.std.proofs.Common.{◌≡◌, true, List, [], ◌∷◌, ◌++◌, map, refl, sym, ap, ◌∙◌, append-nil}
use Rattle.std.specs.List.{zip}
use Rattle.std.specs.List.Sorted.{IsStrictlySortedBy}
use Rattle.std.specs.Map.{keys_of}
use Rattle.std.specs.Rc.{rc_str_bytes}
use Rattle.std.specs.declared.alloc.Global.{Global}
use Rattle.std.specs.declared.rc.RcStr.{RcStr}
use Rattle.cedar_expr_model.specs.Name.{Text}
use Rattle.cedar_expr_model.specs.Made.{Made, made_record, made_field}
use Rattle.cedar_expr_model.specs.Order.{text_cmp}
use Rattle.cedar_expr_model.specs.Records.{in_order, names_rise}
use Rattle.cedar_expr_model.proofs.Lists.{hold_both}
use Rattle.cedar_expr_model.proofs.Ordering.{in_order_stays}
use Rattle.cedar_expr_model.proofs.Rising.{is_less}
use Rattle.cedar_expr_trees.specs.Trees.{tree_of, named, field_trees}
use Rattle.cedar_expr_trees.specs.declared.expr.Expr.{Expr}
use Rattle.cedar_expr_values.specs.Extension.{Extension}
use Rattle.cedar_expr_values.specs.Fields.{by_text}
use Rattle.cedar_expr_values.specs.Values.{made, made_pair, made_fields, record_as_made}
use Rattle.cedar_expr_values.specs.declared.value.Value.{Value}
use Rattle.cedar_expr_values.proofs.Recorded.{under, in_order_under}
use Rattle.cedar_evaluator_model.specs.Steps.{made_fields as model_fields}
use Rattle.cedar_evaluator_restricted_exprs.specs.Lefts.{names_in}

-- the names of a record's fields
names_are : (es : List (RcStr Global × Expr Unit)) → names_in es ≡ map rc_str_bytes (keys_of es)
names_are [] = refl
names_are (e ∷ es) = ap (λ ns. rc_str_bytes e.0 ∷ ns) (names_are es)

nothing_beside : {A B : Type 0} (ks : List A) → zip {X = B} ks [] ≡ []
nothing_beside [] = refl
nothing_beside (k ∷ ks) = refl

-- pairs made so far, and then the rest
module _ {A : Type 0} (all : List (Text × A)) where
  pub pairs_on : (done more : List (RcStr Global × A)) (names later : List (RcStr Global)) (k n : RcStr Global) (x : A) (xs rest : List A) → named done ++ zip (map rc_str_bytes names) rest ≡ all → names ≡ k ∷ later → rest ≡ x ∷ xs → rc_str_bytes n ≡ rc_str_bytes k → more ≡ done ++ (n, x) ∷ [] → named more ++ zip (map rc_str_bytes later) xs ≡ all
  pairs_on done more names later k n x xs rest h a b same m =
      ap (λ ps. named ps ++ zip (map rc_str_bytes later) xs) m
      ∙ go done
      ∙ ap (λ b. named done ++ ((b, x) ∷ zip (map rc_str_bytes later) xs)) same
      ∙ ap (λ ks. named done ++ zip (map rc_str_bytes ks) (x ∷ xs)) (sym a)
      ∙ ap (λ ys. named done ++ zip (map rc_str_bytes names) ys) (sym b)
      ∙ h
    where
      go : (ds : List (RcStr Global × A)) → named (ds ++ (n, x) ∷ []) ++ zip (map rc_str_bytes later) xs ≡ named ds ++ ((rc_str_bytes n, x) ∷ zip (map rc_str_bytes later) xs)
      go [] = refl
      go (d ∷ ds) = ap (λ ps. by_text d ∷ ps) (go ds)

  -- no name is left
  pub pairs_pass : (done : List (RcStr Global × A)) (names later : List (RcStr Global)) (xs rest : List A) → named done ++ zip (map rc_str_bytes names) rest ≡ all → names ≡ [] → later ≡ [] → named done ++ zip (map rc_str_bytes later) xs ≡ all
  pairs_pass done names later xs rest h a b = ap (λ ks. named done ++ zip (map rc_str_bytes ks) xs) b ∙ ap (λ ks. named done ++ zip (map rc_str_bytes ks) rest) (sym a) ∙ h

  pub pairs_end : (done : List (RcStr Global × A)) (names : List (RcStr Global)) (rest : List A) → named done ++ zip (map rc_str_bytes names) rest ≡ all → rest ≡ [] → named done ≡ all
  pairs_end done names rest h b = sym (append-nil (named done)) ∙ ap (λ ps. named done ++ ps) (sym (nothing_beside (map rc_str_bytes names)) ∙ ap (zip (map rc_str_bytes names)) (sym b)) ∙ h

-- the names of pairs are those of the map, or the first of them
ascend : {A : Type 0} (ks : List (RcStr Global)) (xs : List A) → IsStrictlySortedBy (λ a b. text_cmp (rc_str_bytes a) (rc_str_bytes b)) ks → names_rise (zip (map rc_str_bytes ks) xs) ≡ true
unfolding IsStrictlySortedBy
ascend [] xs s = refl
ascend (k ∷ ks) [] s = refl
ascend (k ∷ []) (x ∷ xs) s = refl
ascend (k ∷ l ∷ ks) (x ∷ []) s = refl
ascend (k ∷ l ∷ ks) (x ∷ y ∷ xs) s = hold_both _ _ (is_less (text_cmp (rc_str_bytes k) (rc_str_bytes l)) (s.0).0) (ascend (l ∷ ks) (y ∷ xs) s.1)

module _ {A : Type 0} (es : List (RcStr Global × Expr Unit)) (xs : List A) (ps : List (RcStr Global × A)) (h : named ps ≡ zip (map rc_str_bytes (keys_of es)) xs) where
  pub pairs_are : named ps ≡ zip (names_in es) xs
  pairs_are = h ∙ ap (λ ns. zip ns xs) (sym (names_are es))

  pub pairs_rise : IsStrictlySortedBy (λ a b. text_cmp (rc_str_bytes a) (rc_str_bytes b)) (keys_of es) → names_rise (named ps) ≡ true
  pairs_rise s = ap names_rise h ∙ ascend (keys_of es) xs s

-- what stands under the names, as it is seen
module _ {A B : Type 0} (f : A → B) where
  beside : (ns : List Text) (xs : List A) → map (under f) (zip ns xs) ≡ zip ns (map f xs)
  beside [] xs = refl
  beside (n ∷ ns) [] = refl
  beside (n ∷ ns) (x ∷ xs) = ap (λ ps. (n, f x) ∷ ps) (beside ns xs)

  seen_so : (ns : List Text) (xs : List A) (ps : List (RcStr Global × A)) → named ps ≡ zip ns xs → names_rise (named ps) ≡ true → in_order (map (under f) (named ps)) ≡ zip ns (map f xs)
  seen_so ns xs ps h r = in_order_under f (named ps) ∙ ap (map (under f)) (in_order_stays (named ps) r ∙ h) ∙ beside ns xs

same_fields : (ps : List (Text × Made)) → made_fields ps ≡ model_fields ps
same_fields [] = refl
same_fields (p ∷ ps) = ap (made_field p.0 p.1) (same_fields ps)

module _ {X : Type 0} (seen : X → Extension) where
  pairs_made : (ps : List (RcStr Global × Value X)) → map (made_pair seen) ps ≡ map (under (made seen)) (named ps)
  pairs_made [] = refl
  pairs_made (p ∷ ps) = ap (λ qs. made_pair seen p ∷ qs) (pairs_made ps)

  -- the record of values
  pub record_is : (ns : List Text) (vs : List (Value X)) (ps : List (RcStr Global × Value X)) → named ps ≡ zip ns vs → names_rise (named ps) ≡ true → made_record (model_fields (zip ns (map (made seen) vs))) ≡ record_as_made (map (made_pair seen) ps)
  record_is ns vs ps h r = ap made_record (sym (same_fields _) ∙ ap made_fields (sym (ap in_order (pairs_made ps) ∙ seen_so (made seen) ns vs ps h r)))

trees_under : (es : List (RcStr Global × Expr Unit)) → named (field_trees es) ≡ map (under (tree_of {T = Unit})) (named es)
trees_under [] = refl
trees_under (e ∷ es) = ap (λ ps. (rc_str_bytes e.0, tree_of {T = Unit} e.1) ∷ ps) (trees_under es)

-- the record of expressions
pub record_tree_is : (ns : List Text) (us : List (Expr Unit)) (ps es : List (RcStr Global × Expr Unit)) → named ps ≡ zip ns us → names_rise (named ps) ≡ true → named es ≡ in_order (named ps) → zip ns (map (tree_of {T = Unit}) us) ≡ named (field_trees es)
record_tree_is ns us ps es h r m = sym (trees_under es ∙ ap (map (under (tree_of {T = Unit}))) (m ∙ in_order_stays (named ps) r ∙ h) ∙ beside (tree_of {T = Unit}) ns us)

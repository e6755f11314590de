-- Expressions whose parts are restricted, and what is refused in others.
use Rattle.std.proofs.Common.{◌≡◌, ◌&&◌, Bool, true, false, List, [], ◌∷◌, ◌++◌, map, Option, Some, None, refl, sym, ap, ◌∙◌, option_map}
use Rattle.std.specs.Prelude.{is_none}
use Rattle.std.specs.Map.{values_of}
use Rattle.std.specs.Option.{option_or}
use Rattle.std.specs.Ordering.{match_ordering}
use Rattle.std.specs.declared.cmp.Ordering.{Ordering}
use Rattle.std.specs.declared.cmp.Ordering.TheVariants.{Less, Equal, Greater}
use Rattle.std.specs.declared.alloc.Global.{Global}
use Rattle.std.specs.declared.rc.RcStr.{RcStr}
use Rattle.std.proofs.lemmas.List.Folds.{list_all-append}
use Rattle.cedar_expr_model.specs.Builder.{trees, tree_fields}
use Rattle.cedar_expr_model.specs.Name.{Text}
use Rattle.cedar_expr_model.specs.Lists.{first_found}
use Rattle.cedar_expr_model.specs.Order.{text_cmp}
use Rattle.cedar_expr_model.specs.Parts.{subexpressions, subexpressions_among, subexpressions_in_fields}
use Rattle.cedar_expr_model.specs.Records.{pair_placed, in_order, record_tree}
use Rattle.cedar_expr_model.specs.Restricted.{Feature, is_restricted, feature_here}
use Rattle.cedar_expr_model.specs.Tree.{Tree}
use Rattle.cedar_expr_model.proofs.Lists.{both_hold, hold_both}
use Rattle.cedar_expr_trees.specs.Trees.{tree_of, named, field_trees}
use Rattle.cedar_expr_trees.specs.declared.expr.Expr.{Expr}
use Rattle.cedar_evaluator_restricted_exprs.specs.Read.{are_restricted, have_restricted}
use Rattle.cedar_evaluator_restricted_exprs.specs.Refused.{feature_text, refused_here, refused}

-- what is refused of an expression with a feature, whatever comes after it
pub found_here : (t : Tree) (o : Option Feature) (s : Text) (rest : Option (Text × Tree)) → option_map feature_text o ≡ Some s → option_or (option_map (λ f. (feature_text f, t)) o) rest ≡ Some (s, t)
found_here t None s rest e = cc
found_here t (Some f) s rest e = let k : feature_text f ≡ s = cc in ap (λ z. Some (z, t)) k

-- an expression without a feature is passed over
pub passed_here : (t : Tree) (o : Option Feature) (rest : Option (Text × Tree)) → option_map feature_text o ≡ None → option_or (option_map (λ f. (feature_text f, t)) o) rest ≡ rest
passed_here t None rest e = refl
passed_here t (Some f) rest e = cc

pub passed_on : (o : Option Feature) (rest : Option Feature) → option_map feature_text o ≡ None → is_none (option_or o rest) ≡ is_none rest
passed_on None rest e = refl
passed_on (Some f) rest e = cc

found_first : {B : Type 0} (o p : Option B) → is_none (option_or o p) ≡ (is_none o && is_none p)
found_first None p = refl
found_first (Some b) p = refl

none_joined : {A B : Type 0} (f : A → Option B) (xs ys : List A) → is_none (first_found f (xs ++ ys)) ≡ (is_none (first_found f xs) && is_none (first_found f ys))
none_joined f [] ys = refl
none_joined f (x ∷ xs) ys = found_first (f x) (first_found f (xs ++ ys)) ∙ ap (λ b. is_none (f x) && b) (none_joined f xs ys) ∙ go (is_none (f x)) (is_none (first_found f xs)) (is_none (first_found f ys)) ∙ ap (λ b. b && is_none (first_found f ys)) (sym (found_first (f x) (first_found f xs)))
  where
    go : (a b c : Bool) → (a && (b && c)) ≡ ((a && b) && c)
    go true b c = refl
    go false b c = refl

-- the members of a set, or the arguments of a call, and the fields of a record
pub members_all : (ts : List Tree) → is_none (first_found feature_here (subexpressions_among (trees ts))) ≡ are_restricted ts
members_all [] = refl
members_all (t ∷ ts) = none_joined feature_here (subexpressions t) (subexpressions_among (trees ts)) ∙ ap (λ b. is_restricted t && b) (members_all ts)

pub fields_all : (ps : List (Text × Tree)) → is_none (first_found feature_here (subexpressions_in_fields (tree_fields ps))) ≡ have_restricted ps
fields_all [] = refl
fields_all (p ∷ ps) = none_joined feature_here (subexpressions p.1) (subexpressions_in_fields (tree_fields ps)) ∙ ap (λ b. is_restricted p.1 && b) (fields_all ps)

-- the first of several, and the others; one more at the end
pub apart : (t : Tree) (ts : List Tree) → are_restricted (t ∷ ts) ≡ true → (is_restricted t ≡ true) × (are_restricted ts ≡ true)
apart t ts h = both_hold _ _ h

pub one_more : (ts : List Tree) (t : Tree) → are_restricted ts ≡ true → is_restricted t ≡ true → are_restricted (ts ++ t ∷ []) ≡ true
one_more ts t h k = list_all-append is_restricted ts (t ∷ []) ∙ hold_both _ _ h (hold_both _ _ k refl)

pub one_field_more : (ps : List (Text × Tree)) (a : Text) (t : Tree) → have_restricted ps ≡ true → is_restricted t ≡ true → have_restricted (ps ++ (a, t) ∷ []) ≡ true
one_field_more ps a t h k = list_all-append (λ (p : Text × Tree). is_restricted p.1) ps ((a, t) ∷ []) ∙ hold_both _ _ h (hold_both _ _ k refl)

-- in the order of their names they stay restricted
by_order : (o : Ordering) (xs ys zs : List (Text × Tree)) → have_restricted xs ≡ true → have_restricted ys ≡ true → have_restricted zs ≡ true → have_restricted (match_ordering o xs ys zs) ≡ true
by_order Less xs ys zs h k j = h
by_order Equal xs ys zs h k j = k
by_order Greater xs ys zs h k j = j

placed : (a : Text) (t : Tree) (ps : List (Text × Tree)) → is_restricted t ≡ true → have_restricted ps ≡ true → have_restricted (pair_placed a t ps) ≡ true
placed a t [] h k = hold_both _ _ h refl
placed a t (p ∷ ps) h k =
    let q = both_hold (is_restricted p.1) (have_restricted ps) k in
    by_order (text_cmp a p.0) _ _ _ (hold_both _ _ h k) k (hold_both _ _ q.0 (placed a t ps h q.1))

ordered : (ps : List (Text × Tree)) → have_restricted ps ≡ true → have_restricted (in_order ps) ≡ true
ordered [] h = refl
ordered (p ∷ ps) h = let q = both_hold (is_restricted p.1) (have_restricted ps) h in placed p.0 p.1 (in_order ps) q.0 (ordered ps q.1)

pub record_restricted : (ps : List (Text × Tree)) → have_restricted ps ≡ true → is_restricted (record_tree ps) ≡ true
record_restricted ps h = fields_all (in_order ps) ∙ ordered ps h

-- what has something that is refused isn't restricted
alike_here : (t : Tree) (o : Option Feature) (r : Option (Text × Tree)) (q : Option Feature) → is_none r ≡ is_none q → is_none (option_or (option_map (λ f. (feature_text f, t)) o) r) ≡ is_none (option_or o q)
alike_here t None r q e = e
alike_here t (Some f) r q e = refl

found_alike : (ts : List Tree) → is_none (first_found refused_here ts) ≡ is_none (first_found feature_here ts)
found_alike [] = refl
found_alike (t ∷ ts) = alike_here t (feature_here t) (first_found refused_here ts) (first_found feature_here ts) (found_alike ts)

pub refused_is_not : (t : Tree) (p : Text × Tree) → refused t ≡ Some p → is_restricted t ≡ false
refused_is_not t p e = sym (found_alike (subexpressions t)) ∙ ap is_none e

-- fields are restricted where their expressions are
pub of_fields : (es : List (RcStr Global × Expr Unit)) → have_restricted (named (field_trees es)) ≡ are_restricted (map (tree_of {T = Unit}) (values_of es))
of_fields [] = refl
of_fields (e ∷ es) = ap (λ b. is_restricted (tree_of {T = Unit} e.1) && b) (of_fields es)

-- What the builder of trees makes: its form, and that it keeps what has the form.
use Rattle.std.proofs.Common.{◌≡◌, Bool, true, false, ◌&&◌, not, List, [], ◌∷◌, ◌++◌, map, Option, Some, None, refl, ap, ◌∙◌}
use Rattle.std.specs.Prelude.{is_some}
use Rattle.std.specs.List.{list_all}
use Rattle.cedar_expr_model.specs.Name.{Text}
use Rattle.cedar_expr_model.specs.Value.{Literal}
use Rattle.cedar_expr_model.specs.Tree.{CoreType, Tree, lit, var, slot, unknown, choice, both, either, unary, binary, call, get_attr, has_attr, has_path, like, is_type, set_literal, record_literal, Trees, no_trees, tree, TreeFields, no_tree_fields, tree_field}
use Rattle.cedar_expr_model.specs.Builder.{Builder, built, built_list, built_fields, tree_builder, written_truth, folded, conjunction, disjunction, path_test, trees, tree_fields}
use Rattle.cedar_expr_model.specs.OfLaws.Built.{is_foldable, is_kept, is_built}
use Rattle.cedar_expr_model.specs.Parts.{subexpressions, subexpressions_among, subexpressions_in_fields}
use Rattle.cedar_expr_model.specs.Made.{Made, made_prim, made_set, made_record, made_extension, Mades, no_mades, made, MadeFields, no_made_fields, made_field, written, writtens, written_fields}
use Rattle.cedar_expr_model.proofs.Lists.{both_hold, hold_both}
use Rattle.cedar_expr_model.proofs.Gathering.{all_join, all_split}

-- the builder of trees, with this made of an unknown
abbrev pub builder_with : (Text → Option CoreType → Tree) → Builder Tree
builder_with f = record tree_builder { of_unknown = f }

-- what is folded is in the form, and so is what is not
folded_built : (f : Bool → Bool → Bool) (a b : Option Bool) (t : Tree) → ((is_some a && is_some b) ≡ false → is_built t ≡ true) → is_built (folded f a b t) ≡ true
folded_built f (Some x) (Some y) t h = refl
folded_built f (Some x) None t h = h refl
folded_built f None b t h = h refl

pub conjunction_built : (a b : Tree) → is_built a ≡ true → is_built b ≡ true → is_built (conjunction a b) ≡ true
conjunction_built a b h k = folded_built _ (written_truth a) (written_truth b) (both a b) (λ e. hold_both (not (is_foldable a b)) (list_all is_kept (subexpressions a ++ subexpressions b)) (ap not e) (all_join is_kept (subexpressions a) (subexpressions b) h k))

pub disjunction_built : (a b : Tree) → is_built a ≡ true → is_built b ≡ true → is_built (disjunction a b) ≡ true
disjunction_built a b h k = folded_built _ (written_truth a) (written_truth b) (either a b) (λ e. hold_both (not (is_foldable a b)) (list_all is_kept (subexpressions a ++ subexpressions b)) (ap not e) (all_join is_kept (subexpressions a) (subexpressions b) h k))

path_built : (t : Tree) (a : Text) (bs : List Text) → is_built t ≡ true → is_built (path_test t a bs) ≡ true
path_built t a [] h = h
path_built t a (b ∷ bs) h = h

module _ (f : Text → Option CoreType → Tree) (h : (n : Text) (a : Option CoreType) → is_built (f n a) ≡ true) where
  abbrev below : Tree → List Tree
  below t = subexpressions (built (builder_with f) t)

  mutual
    pub makes_form : (t : Tree) → is_built (built (builder_with f) t) ≡ true
    makes_form (lit p) = refl
    makes_form (var x) = refl
    makes_form (slot s) = refl
    makes_form (unknown n a) = h n a
    makes_form (choice t a b) = all_join is_kept (below t) (below a ++ below b) (makes_form t) (all_join is_kept (below a) (below b) (makes_form a) (makes_form b))
    makes_form (both a b) = conjunction_built (built (builder_with f) a) (built (builder_with f) b) (makes_form a) (makes_form b)
    makes_form (either a b) = disjunction_built (built (builder_with f) a) (built (builder_with f) b) (makes_form a) (makes_form b)
    makes_form (unary o a) = makes_form a
    makes_form (binary o a b) = all_join is_kept (below a) (below b) (makes_form a) (makes_form b)
    makes_form (call g ts) = make_form ts
    makes_form (get_attr t a) = makes_form t
    makes_form (has_attr t a) = makes_form t
    makes_form (has_path t a bs) = path_built (built (builder_with f) t) a bs (makes_form t)
    makes_form (like t p) = makes_form t
    makes_form (is_type t n) = makes_form t
    makes_form (set_literal ts) = make_form ts
    makes_form (record_literal fs) = fields_make_form fs

    make_form : (ts : Trees) → list_all is_kept (subexpressions_among (trees (built_list (builder_with f) ts))) ≡ true
    make_form no_trees = refl
    make_form (tree t ts) = all_join is_kept (below t) (subexpressions_among (trees (built_list (builder_with f) ts))) (makes_form t) (make_form ts)

    fields_make_form : (fs : TreeFields) → list_all is_kept (subexpressions_in_fields (tree_fields (built_fields (builder_with f) fs))) ≡ true
    fields_make_form no_tree_fields = refl
    fields_make_form (tree_field a t fs) = all_join is_kept (below t) (subexpressions_in_fields (tree_fields (built_fields (builder_with f) fs))) (makes_form t) (fields_make_form fs)

pub built_is_built : (t : Tree) → is_built (built tree_builder t) ≡ true
built_is_built = makes_form unknown (λ n a. refl)

-- what has the form is kept
folded_stays : (f : Bool → Bool → Bool) (a b : Option Bool) (t : Tree) → not (is_some a && is_some b) ≡ true → folded f a b t ≡ t
folded_stays f (Some x) (Some y) t h = cc
folded_stays f (Some x) None t h = refl
folded_stays f None b t h = refl

path_stays : (t : Tree) (a : Text) (bs : List Text) → is_kept (has_path t a bs) ≡ true → path_test t a bs ≡ has_path t a bs
path_stays t a [] h = cc
path_stays t a (b ∷ bs) h = refl

mutual
  pub built_stays : (t : Tree) → is_built t ≡ true → built tree_builder t ≡ t
  built_stays (lit p) h = refl
  built_stays (var x) h = refl
  built_stays (slot s) h = refl
  built_stays (unknown n a) h = refl
  built_stays (choice t a b) h =
      let p = all_split is_kept (subexpressions t) (subexpressions a ++ subexpressions b) h in
      let q = all_split is_kept (subexpressions a) (subexpressions b) p.1 in
      λ i. choice (built_stays t p.0 i) (built_stays a q.0 i) (built_stays b q.1 i)
  built_stays (both a b) h =
      let p = both_hold (not (is_foldable a b)) (list_all is_kept (subexpressions a ++ subexpressions b)) h in
      let q = all_split is_kept (subexpressions a) (subexpressions b) p.1 in
      (λ i. conjunction (built_stays a q.0 i) (built_stays b q.1 i)) ∙ folded_stays _ (written_truth a) (written_truth b) (both a b) p.0
  built_stays (either a b) h =
      let p = both_hold (not (is_foldable a b)) (list_all is_kept (subexpressions a ++ subexpressions b)) h in
      let q = all_split is_kept (subexpressions a) (subexpressions b) p.1 in
      (λ i. disjunction (built_stays a q.0 i) (built_stays b q.1 i)) ∙ folded_stays _ (written_truth a) (written_truth b) (either a b) p.0
  built_stays (unary o a) h = ap (unary o) (built_stays a h)
  built_stays (binary o a b) h = let p = all_split is_kept (subexpressions a) (subexpressions b) h in λ i. binary o (built_stays a p.0 i) (built_stays b p.1 i)
  built_stays (call f ts) h = ap (call f) (list_stays ts h)
  built_stays (get_attr t a) h = ap (λ x. get_attr x a) (built_stays t h)
  built_stays (has_attr t a) h = ap (λ x. has_attr x a) (built_stays t h)
  built_stays (has_path t a bs) h =
      let p = both_hold (is_kept (has_path t a bs)) (is_built t) h in
      ap (λ x. path_test x a bs) (built_stays t p.1) ∙ path_stays t a bs p.0
  built_stays (like t p) h = ap (λ x. like x p) (built_stays t h)
  built_stays (is_type t n) h = ap (λ x. is_type x n) (built_stays t h)
  built_stays (set_literal ts) h = ap set_literal (list_stays ts h)
  built_stays (record_literal fs) h = ap record_literal (fields_stay fs h)

  list_stays : (ts : Trees) → list_all is_kept (subexpressions_among ts) ≡ true → trees (built_list tree_builder ts) ≡ ts
  list_stays no_trees h = refl
  list_stays (tree t ts) h = let p = all_split is_kept (subexpressions t) (subexpressions_among ts) h in λ i. tree (built_stays t p.0 i) (list_stays ts p.1 i)

  fields_stay : (fs : TreeFields) → list_all is_kept (subexpressions_in_fields fs) ≡ true → tree_fields (built_fields tree_builder fs) ≡ fs
  fields_stay no_tree_fields h = refl
  fields_stay (tree_field a t fs) h = let p = all_split is_kept (subexpressions t) (subexpressions_in_fields fs) h in λ i. tree_field a (built_stays t p.0 i) (fields_stay fs p.1 i)

pub built_twice : (t : Tree) → built tree_builder (built tree_builder t) ≡ built tree_builder t
built_twice t = built_stays (built tree_builder t) (built_is_built t)

-- written values have the form
literals_built : (ps : List Literal) → list_all is_kept (subexpressions_among (trees (map lit ps))) ≡ true
literals_built [] = refl
literals_built (p ∷ ps) = literals_built ps

mutual
  pub written_built : (m : Made) → is_built (written m) ≡ true
  written_built (made_prim p) = refl
  written_built (made_set ms) = writtens_built ms
  written_built (made_record fs) = written_fields_built fs
  written_built (made_extension n k f ps) = literals_built ps

  writtens_built : (ms : Mades) → list_all is_kept (subexpressions_among (writtens ms)) ≡ true
  writtens_built no_mades = refl
  writtens_built (made m ms) = all_join is_kept (subexpressions (written m)) (subexpressions_among (writtens ms)) (written_built m) (writtens_built ms)

  written_fields_built : (fs : MadeFields) → list_all is_kept (subexpressions_in_fields (written_fields fs)) ≡ true
  written_fields_built no_made_fields = refl
  written_fields_built (made_field a m fs) = all_join is_kept (subexpressions (written m)) (subexpressions_in_fields (written_fields fs)) (written_built m) (written_fields_built fs)

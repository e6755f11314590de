-- Substitution: what stays where nothing is bound, what is left where all is, and that every lawful builder agrees.
use Rattle.std.proofs.Common.{◌≡◌, Bool, true, false, List, [], ◌∷◌, ◌++◌, map, Option, Some, None, refl, ap, ◌∙◌}
use Rattle.std.specs.Prelude.{is_some}
use Rattle.std.specs.Option.{option_map_or}
use Rattle.std.specs.List.{list_any}
use Rattle.cedar_expr_model.specs.Name.{Text}
use Rattle.cedar_expr_model.specs.Value.{Literal}
use Rattle.cedar_expr_model.specs.Tree.{CoreType, Tree, lit, var, slot, unknown, choice, both, either, unary, binary, call, get_attr, has_attr, has_path, like, is_type, set_literal, record_literal, Trees, no_trees, tree, TreeFields, no_tree_fields, tree_field}
use Rattle.cedar_expr_model.specs.Builder.{Builder, built, built_list, built_fields, tree_builder, written_truth, folded, conjunction, disjunction, path_test, trees, tree_fields}
use Rattle.cedar_expr_model.specs.OfLaws.Built.{is_built}
use Rattle.cedar_expr_model.specs.Made.{Made, made_prim, made_set, made_record, made_extension, Mades, no_mades, made, MadeFields, no_made_fields, made_field, written, writtens, written_fields}
use Rattle.cedar_expr_model.specs.Substitution.{Bindings, substituted}
use Rattle.cedar_expr_model.specs.Unknowns.{has_unknown}
use Rattle.cedar_expr_model.specs.Parts.{subexpressions, subexpressions_among, subexpressions_in_fields, unknown_here}
use Rattle.cedar_expr_model.specs.TreeLaws.{AllBound, NoneBound}
use Rattle.cedar_expr_model.proofs.Gathering.{EachIn, EachAmong, EachInFields, each_in, none_join}
use Rattle.cedar_expr_model.proofs.Building.{builder_with, makes_form, built_stays, written_built}

-- what a builder makes of an unknown under bindings, and what substitution puts in its place
abbrev pub bound_or : {B : Type 0} → Builder B → Text → Option CoreType → Option Made → B
bound_or b n a o = option_map_or (λ m. built b (written m)) o (b.of_unknown n a)

abbrev pub placed : Bindings → Text → Option CoreType → Tree
placed env n a = bound_or tree_builder n a (env n)

placed_built : (n : Text) (a : Option CoreType) (m : Option Made) → is_built (bound_or tree_builder n a m) ≡ true
placed_built n a None = refl
placed_built n a (Some m) = ap is_built (built_stays (written m) (written_built m)) ∙ written_built m

pub substituted_built : (env : Bindings) (t : Tree) → is_built (substituted env t) ≡ true
substituted_built env t = makes_form (placed env) (λ n a. placed_built n a (env n)) t

-- builders that make the same of each unknown in the expression make the same of it
module _ (f g : Text → Option CoreType → Tree) where
  mutual
    pub makes_same : (t : Tree) → EachIn (λ n a. f n a ≡ g n a) t → built (builder_with f) t ≡ built (builder_with g) t
    makes_same (lit p) h = refl
    makes_same (var x) h = refl
    makes_same (slot s) h = refl
    makes_same (unknown n a) h = h
    makes_same (choice t a b) h = λ i. choice (makes_same t h.0 i) (makes_same a h.1 i) (makes_same b h.2 i)
    makes_same (both a b) h = λ i. conjunction (makes_same a h.0 i) (makes_same b h.1 i)
    makes_same (either a b) h = λ i. disjunction (makes_same a h.0 i) (makes_same b h.1 i)
    makes_same (unary o a) h = ap (unary o) (makes_same a h)
    makes_same (binary o a b) h = λ i. binary o (makes_same a h.0 i) (makes_same b h.1 i)
    makes_same (call k ts) h = ap (λ x. call k (trees x)) (make_same ts h)
    makes_same (get_attr t a) h = ap (λ x. get_attr x a) (makes_same t h)
    makes_same (has_attr t a) h = ap (λ x. has_attr x a) (makes_same t h)
    makes_same (has_path t a bs) h = ap (λ x. path_test x a bs) (makes_same t h)
    makes_same (like t p) h = ap (λ x. like x p) (makes_same t h)
    makes_same (is_type t n) h = ap (λ x. is_type x n) (makes_same t h)
    makes_same (set_literal ts) h = ap (λ x. set_literal (trees x)) (make_same ts h)
    makes_same (record_literal fs) h = ap (λ x. record_literal (tree_fields x)) (fields_make_same fs h)

    make_same : (ts : Trees) → EachAmong (λ n a. f n a ≡ g n a) ts → built_list (builder_with f) ts ≡ built_list (builder_with g) ts
    make_same no_trees h = refl
    make_same (tree t ts) h = λ i. makes_same t h.0 i ∷ make_same ts h.1 i

    fields_make_same : (fs : TreeFields) → EachInFields (λ n a. f n a ≡ g n a) fs → built_fields (builder_with f) fs ≡ built_fields (builder_with g) fs
    fields_make_same no_tree_fields h = refl
    fields_make_same (tree_field a t fs) h = λ i. (a, makes_same t h.0 i) ∷ fields_make_same fs h.1 i

pub unbound_stays : (env : Bindings) (t : Tree) → NoneBound env t → substituted env t ≡ built tree_builder t
unbound_stays env t h = makes_same (placed env) unknown t ((each_in (λ n a. placed env n a ≡ unknown n a) t).0 (λ u c. ap (bound_or tree_builder u.name u.annotation) (h u c)))

-- written values have no unknowns
abbrev is_unknown : Tree → Bool
is_unknown t = is_some (unknown_here t)

literals_known : (ps : List Literal) → list_any is_unknown (subexpressions_among (trees (map lit ps))) ≡ false
literals_known [] = refl
literals_known (p ∷ ps) = literals_known ps

mutual
  pub written_known : (m : Made) → has_unknown (written m) ≡ false
  written_known (made_prim p) = refl
  written_known (made_set ms) = writtens_known ms
  written_known (made_record fs) = written_fields_known fs
  written_known (made_extension n k f ps) = literals_known ps

  writtens_known : (ms : Mades) → list_any is_unknown (subexpressions_among (writtens ms)) ≡ false
  writtens_known no_mades = refl
  writtens_known (made m ms) = none_join is_unknown (subexpressions (written m)) (subexpressions_among (writtens ms)) (written_known m) (writtens_known ms)

  written_fields_known : (fs : MadeFields) → list_any is_unknown (subexpressions_in_fields (written_fields fs)) ≡ false
  written_fields_known no_made_fields = refl
  written_fields_known (made_field a m fs) = none_join is_unknown (subexpressions (written m)) (subexpressions_in_fields (written_fields fs)) (written_known m) (written_fields_known fs)

-- where each unknown is made into something without, none is left
folded_known : (f : Bool → Bool → Bool) (a b : Option Bool) (t : Tree) → has_unknown t ≡ false → has_unknown (folded f a b t) ≡ false
folded_known f (Some x) (Some y) t h = refl
folded_known f (Some x) None t h = h
folded_known f None b t h = h

path_known : (t : Tree) (a : Text) (bs : List Text) → has_unknown t ≡ false → has_unknown (path_test t a bs) ≡ false
path_known t a [] h = h
path_known t a (b ∷ bs) h = h

module _ (f : Text → Option CoreType → Tree) where
  abbrev made_of : Tree → Tree
  made_of t = built (builder_with f) t

  abbrev below : Tree → List Tree
  below t = subexpressions (made_of t)

  mutual
    pub none_left : (t : Tree) → EachIn (λ n a. has_unknown (f n a) ≡ false) t → has_unknown (made_of t) ≡ false
    none_left (lit p) h = refl
    none_left (var x) h = refl
    none_left (slot s) h = refl
    none_left (unknown n a) h = h
    none_left (choice t a b) h = none_join is_unknown (below t) (below a ++ below b) (none_left t h.0) (none_join is_unknown (below a) (below b) (none_left a h.1) (none_left b h.2))
    none_left (both a b) h = folded_known _ (written_truth (made_of a)) (written_truth (made_of b)) (both (made_of a) (made_of b)) (none_join is_unknown (below a) (below b) (none_left a h.0) (none_left b h.1))
    none_left (either a b) h = folded_known _ (written_truth (made_of a)) (written_truth (made_of b)) (either (made_of a) (made_of b)) (none_join is_unknown (below a) (below b) (none_left a h.0) (none_left b h.1))
    none_left (unary o a) h = none_left a h
    none_left (binary o a b) h = none_join is_unknown (below a) (below b) (none_left a h.0) (none_left b h.1)
    none_left (call k ts) h = none_left_among ts h
    none_left (get_attr t a) h = none_left t h
    none_left (has_attr t a) h = none_left t h
    none_left (has_path t a bs) h = path_known (made_of t) a bs (none_left t h)
    none_left (like t p) h = none_left t h
    none_left (is_type t n) h = none_left t h
    none_left (set_literal ts) h = none_left_among ts h
    none_left (record_literal fs) h = none_left_in_fields fs h

    none_left_among : (ts : Trees) → EachAmong (λ n a. has_unknown (f n a) ≡ false) ts → list_any is_unknown (subexpressions_among (trees (built_list (builder_with f) ts))) ≡ false
    none_left_among no_trees h = refl
    none_left_among (tree t ts) h = none_join is_unknown (below t) (subexpressions_among (trees (built_list (builder_with f) ts))) (none_left t h.0) (none_left_among ts h.1)

    none_left_in_fields : (fs : TreeFields) → EachInFields (λ n a. has_unknown (f n a) ≡ false) fs → list_any is_unknown (subexpressions_in_fields (tree_fields (built_fields (builder_with f) fs))) ≡ false
    none_left_in_fields no_tree_fields h = refl
    none_left_in_fields (tree_field a t fs) h = none_join is_unknown (below t) (subexpressions_in_fields (tree_fields (built_fields (builder_with f) fs))) (none_left t h.0) (none_left_in_fields fs h.1)

placed_known : (n : Text) (a : Option CoreType) (m : Made) → has_unknown (bound_or tree_builder n a (Some m)) ≡ false
placed_known n a m = ap has_unknown (built_stays (written m) (written_built m)) ∙ written_known m

pub bound_leaves_none : (env : Bindings) (t : Tree) → AllBound env t → has_unknown (substituted env t) ≡ false
bound_leaves_none env t h =
    none_left (placed env) t
    ((each_in (λ n a. has_unknown (placed env n a) ≡ false) t).0 (λ u c. let e = h u c in ap (λ m. has_unknown (bound_or tree_builder u.name u.annotation m)) e.1 ∙ placed_known u.name u.annotation e.0))

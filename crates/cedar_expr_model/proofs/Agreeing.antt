-- To substitute and then to build through a lawful builder is to build with each bound unknown made of its value.
use Rattle.std.proofs.Common.{◌≡◌, Bool, ◌&&◌, ◌||◌, List, [], ◌∷◌, Option, Some, None, refl, sym, ap, ◌∙◌}
use Rattle.cedar_expr_model.specs.Name.{Text}
use Rattle.cedar_expr_model.specs.Value.{truth, long, text, entity}
use Rattle.cedar_expr_model.specs.Tree.{CoreType, Tree, lit, var, slot, unknown, choice, both, either, unary, binary, call, get_attr, has_attr, has_path, like, is_type, set_literal, record_literal, Trees, no_trees, tree, TreeFields, no_tree_fields, tree_field}
use Rattle.cedar_expr_model.specs.Builder.{Builder, built, built_list, built_fields, tree_builder, written_truth, folded, conjunction, disjunction, path_test, trees, tree_fields}
use Rattle.cedar_expr_model.specs.BuilderForm.{IsLawful}
use Rattle.cedar_expr_model.specs.Made.{Made, written}
use Rattle.cedar_expr_model.specs.Substitution.{Bindings, built_under, substituted}
use Rattle.cedar_expr_model.proofs.Building.{builder_with, built_stays, written_built}
use Rattle.cedar_expr_model.proofs.Substituting.{bound_or, placed}

truth_written : (t : Tree) (x : Bool) → written_truth t ≡ Some x → t ≡ lit (truth x)
truth_written (lit (truth b)) x e = cc
truth_written (lit (long n)) x e = cc
truth_written (lit (text s)) x e = cc
truth_written (lit (entity u)) x e = cc
truth_written (var v) x e = cc
truth_written t x e = cc

module _ {B : Type 0} (b : Builder B) (l : IsLawful b) where
  both_case : (s t : Tree) (p q : Option Bool) → written_truth s ≡ p → written_truth t ≡ q → built b (folded (λ x y. x && y) p q (both s t)) ≡ b.of_both (built b s) (built b t)
  both_case s t (Some x) (Some y) e f =
      sym (l.conjoins x y) ∙ sym (λ i. b.of_both (built b (truth_written s x e i)) (built b (truth_written t y f i)))
  both_case s t (Some x) None e f = refl
  both_case s t None q e f = refl

  conjunction_agrees : (s t : Tree) → built b (conjunction s t) ≡ b.of_both (built b s) (built b t)
  conjunction_agrees s t = both_case s t (written_truth s) (written_truth t) refl refl

  either_case : (s t : Tree) (p q : Option Bool) → written_truth s ≡ p → written_truth t ≡ q → built b (folded (λ x y. x || y) p q (either s t)) ≡ b.of_either (built b s) (built b t)
  either_case s t (Some x) (Some y) e f =
      sym (l.disjoins x y) ∙ sym (λ i. b.of_either (built b (truth_written s x e i)) (built b (truth_written t y f i)))
  either_case s t (Some x) None e f = refl
  either_case s t None q e f = refl

  disjunction_agrees : (s t : Tree) → built b (disjunction s t) ≡ b.of_either (built b s) (built b t)
  disjunction_agrees s t = either_case s t (written_truth s) (written_truth t) refl refl

  path_agrees : (t : Tree) (a : Text) (as_ : List Text) → built b (path_test t a as_) ≡ b.of_path (built b t) a as_
  path_agrees t a [] = sym (l.walks_one (built b t) a)
  path_agrees t a (c ∷ cs) = refl

  module _ (f : Text → Option CoreType → Tree) where
    -- the builder that makes of an unknown what it makes of this
    abbrev through : Builder B
    through = record b { of_unknown = λ n a. built b (f n a) }

    abbrev of : Tree → Tree
    of t = built (builder_with f) t

    mutual
      pub builds_agree : (t : Tree) → built b (of t) ≡ built through t
      builds_agree (lit p) = refl
      builds_agree (var x) = refl
      builds_agree (slot s) = refl
      builds_agree (unknown n a) = refl
      builds_agree (choice t u v) = λ i. b.of_choice (builds_agree t i) (builds_agree u i) (builds_agree v i)
      builds_agree (both t u) = conjunction_agrees (of t) (of u) ∙ (λ i. b.of_both (builds_agree t i) (builds_agree u i))
      builds_agree (either t u) = disjunction_agrees (of t) (of u) ∙ (λ i. b.of_either (builds_agree t i) (builds_agree u i))
      builds_agree (unary o t) = ap (b.of_unary o) (builds_agree t)
      builds_agree (binary o t u) = λ i. b.of_binary o (builds_agree t i) (builds_agree u i)
      builds_agree (call g ts) = ap (b.of_call g) (lists_agree ts)
      builds_agree (get_attr t a) = ap (λ x. b.of_get x a) (builds_agree t)
      builds_agree (has_attr t a) = ap (λ x. b.of_has x a) (builds_agree t)
      builds_agree (has_path t a as_) = path_agrees (of t) a as_ ∙ ap (λ x. b.of_path x a as_) (builds_agree t)
      builds_agree (like t p) = ap (λ x. b.of_like x p) (builds_agree t)
      builds_agree (is_type t n) = ap (λ x. b.of_is x n) (builds_agree t)
      builds_agree (set_literal ts) = ap b.of_set (lists_agree ts)
      builds_agree (record_literal fs) = ap b.of_record (fields_agree fs)

      lists_agree : (ts : Trees) → built_list b (trees (built_list (builder_with f) ts)) ≡ built_list through ts
      lists_agree no_trees = refl
      lists_agree (tree t ts) = λ i. builds_agree t i ∷ lists_agree ts i

      fields_agree : (fs : TreeFields) → built_fields b (tree_fields (built_fields (builder_with f) fs)) ≡ built_fields through fs
      fields_agree no_tree_fields = refl
      fields_agree (tree_field a t fs) = λ i. (a, builds_agree t i) ∷ fields_agree fs i

  placed_agrees : (n : Text) (a : Option CoreType) (m : Option Made) → built b (bound_or tree_builder n a m) ≡ bound_or b n a m
  placed_agrees n a None = refl
  placed_agrees n a (Some m) = ap (built b) (built_stays (written m) (written_built m))

  pub substitution_agrees : (env : Bindings) (t : Tree) → built b (substituted env t) ≡ built_under b env t
  substitution_agrees env t =
      builds_agree (placed env) t ∙ (λ i. built (record b { of_unknown = λ n a. placed_agrees n a (env n) i }) t)

pub trees_are_lawful : IsLawful tree_builder
trees_are_lawful = record { conjoins = λ x y. refl; disjoins = λ x y. refl; walks_one = λ t a. refl }

-- What a lawful builder makes means what it is made of.
use Rattle.std.proofs.Common.{◌≡◌, ◌↔◌, true, false, List, [], ◌∷◌, refl, sym, ◌∙◌}
use Rattle.std.specs.Prelude.{Some}
use Rattle.cedar_expr_model.specs.Name.{Text}
use Rattle.cedar_expr_model.specs.Value.{V, truth, record_of, field}
use Rattle.cedar_expr_model.specs.Tree.{Tree, lit, var, slot, unknown, choice, both, either, unary, binary, call, get_attr, has_attr, has_path, like, is_type, set_literal, record_literal, Trees, no_trees, tree, TreeFields, no_tree_fields, tree_field}
use Rattle.cedar_expr_model.specs.Canonical.{set_made}
use Rattle.cedar_expr_model.specs.Builder.{conjunction, disjunction, path_test, trees, tree_fields, tree_builder, built, built_list, built_fields}
use Rattle.cedar_store_model.specs.Outcome.{Res, val, bind}
use Rattle.cedar_store_model.specs.World.{World}
use Rattle.cedar_store_model.specs.Operators.{says, applied, like_pattern, of_type, called}
use Rattle.cedar_store_model.specs.Reads.{attribute_read, attribute_tested}
use Rattle.cedar_store_model.specs.Meaning.{Means, combined, picked, truth_asked, outcome_of, outcomes_of, field_outcomes_of, path_tested}
use Rattle.cedar_store_model.proofs.Meaning.{means_outcome, outcome_means}

pub conjunction_outcome : (w : World) (a b : Tree) → outcome_of w (conjunction a b) ≡ outcome_of w (both a b)
conjunction_outcome w (lit (truth true)) (lit (truth b)) = refl
conjunction_outcome w (lit (truth false)) (lit (truth b)) = refl
conjunction_outcome w a b = refl

pub disjunction_outcome : (w : World) (a b : Tree) → outcome_of w (disjunction a b) ≡ outcome_of w (either a b)
disjunction_outcome w (lit (truth true)) (lit (truth b)) = refl
disjunction_outcome w (lit (truth false)) (lit (truth b)) = refl
disjunction_outcome w a b = refl

path_outcome : (w : World) (t : Tree) (a : Text) (bs : List Text) → outcome_of w (path_test t a bs) ≡ outcome_of w (has_path t a bs)
path_outcome w t a [] = refl
path_outcome w t a (b ∷ bs) = refl

mutual
  pub same_built : (w : World) (t : Tree) → outcome_of w (built tree_builder t) ≡ outcome_of w t
  same_built w (lit p) = refl
  same_built w (var x) = refl
  same_built w (slot s) = refl
  same_built w (unknown n a) = refl
  same_built w (choice t a b) = λ i. bind (same_built w t i) (picked (same_built w a i) (same_built w b i))
  same_built w (both a b) =
      conjunction_outcome w (built tree_builder a) (built tree_builder b)
      ∙ (λ i. bind (same_built w a i) (picked (bind (same_built w b i) (λ v. Some (truth_asked v))) (Some (says false))))
  same_built w (either a b) =
      disjunction_outcome w (built tree_builder a) (built tree_builder b)
      ∙ (λ i. bind (same_built w a i) (picked (Some (says true)) (bind (same_built w b i) (λ v. Some (truth_asked v)))))
  same_built w (unary o a) = λ i. bind (same_built w a i) (λ v. Some (applied o v))
  same_built w (binary o a b) = λ i. bind (same_built w a i) (λ v. bind (same_built w b i) (combined w o v))
  same_built w (call f ts) = λ i. bind (same_list w ts i) (called w.table w.unknowns f)
  same_built w (get_attr t a) = λ i. bind (same_built w t i) (attribute_read w a)
  same_built w (has_attr t a) = λ i. bind (same_built w t i) (attribute_tested w a)
  same_built w (has_path t a bs) = path_outcome w (built tree_builder t) a bs ∙ (λ i. bind (same_built w t i) (path_tested w a bs))
  same_built w (like t p) = λ i. bind (same_built w t i) (λ v. Some (like_pattern p v))
  same_built w (is_type t n) = λ i. bind (same_built w t i) (λ v. Some (of_type n v))
  same_built w (set_literal ts) = λ i. bind (same_list w ts i) (λ vs. Some (val (set_made vs)))
  same_built w (record_literal fs) = λ i. bind (same_fields w fs i) (λ vs. Some (val (record_of vs)))

  same_list : (w : World) (ts : Trees) → outcomes_of w (trees (built_list tree_builder ts)) ≡ outcomes_of w ts
  same_list w no_trees = refl
  same_list w (tree t ts) = λ i. bind (same_built w t i) (λ v. bind (same_list w ts i) (λ vs. Some (val (v ∷ vs))))

  same_fields : (w : World) (fs : TreeFields) → field_outcomes_of w (tree_fields (built_fields tree_builder fs)) ≡ field_outcomes_of w fs
  same_fields w no_tree_fields = refl
  same_fields w (tree_field a t fs) = λ i. bind (same_built w t i) (λ v. bind (same_fields w fs i) (λ vs. Some (val (field a v vs))))

-- expressions of one outcome mean the same
pub same_meaning : (w : World) (a b : Tree) → outcome_of w a ≡ outcome_of w b → (r : Res V) → Means w a r ↔ Means w b r
same_meaning w a b e r = (λ m. outcome_means w b r (sym e ∙ means_outcome w a r m), λ m. outcome_means w a r (e ∙ means_outcome w b r m))

pub built_means : (w : World) (t : Tree) (r : Res V) → Means w (built tree_builder t) r ↔ Means w t r
built_means w t r = same_meaning w (built tree_builder t) t (same_built w t) r

pub conjunction_is_both : (w : World) (a b : Tree) (r : Res V) → Means w (conjunction a b) r ↔ Means w (both a b) r
conjunction_is_both w a b r = same_meaning w (conjunction a b) (both a b) (conjunction_outcome w a b) r

pub disjunction_is_either : (w : World) (a b : Tree) (r : Res V) → Means w (disjunction a b) r ↔ Means w (either a b) r
disjunction_is_either w a b r = same_meaning w (disjunction a b) (either a b) (disjunction_outcome w a b) r

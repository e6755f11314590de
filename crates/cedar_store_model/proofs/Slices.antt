-- Stores that answer alike for what is looked up give an expression the same outcomes.
use Rattle.std.proofs.Common.{◌≡◌, ◌↔◌, Bool, true, false, ◌||◌, List, [], ◌∷◌, refl, sym, ap, ◌∙◌, inl, inr}
use Rattle.std.specs.Prelude.{Option, Some, None, ◌++◌}
use Rattle.std.specs.List.{list_any}
use Rattle.std.proofs.lemmas.List.Folds.{list_any-append}
use Rattle.cedar_expr_model.specs.Name.{Text}
use Rattle.cedar_expr_model.specs.Uid.{Uid}
use Rattle.cedar_expr_model.specs.Value.{V, prim, truth, text, entity, field, truth_value}
use Rattle.cedar_expr_model.specs.Tree.{Tree, lit, var, slot, unknown, choice, both, either, unary, binary, call, get_attr, has_attr, has_path, like, is_type, set_literal, record_literal, Trees, no_trees, tree, TreeFields, no_tree_fields, tree_field, principal, action, resource, context, BinaryOp, is_in, get_tag, has_tag}
use Rattle.cedar_expr_model.specs.Parts.{subexpressions, subexpressions_among, subexpressions_in_fields}
use Rattle.cedar_store_model.specs.Outcome.{Res, val, err, bind}
use Rattle.cedar_store_model.specs.World.{World, Found}
use Rattle.cedar_store_model.specs.Operators.{says}
use Rattle.cedar_store_model.specs.Reads.{part_read, part_tested, attribute_read, attribute_tested, found_in, within}
use Rattle.cedar_store_model.specs.Meaning.{Means, combined, picked, truth_asked, outcome_of, outcomes_of, field_outcomes_of, path_tested}
use Rattle.cedar_store_model.specs.Looks.{CombinedLooks, PathLooks, Looks, AnyLooks, AnyFieldLooks, looks_up}
use Rattle.cedar_store_model.proofs.Meaning.{means_outcome, outcome_means}
use Rattle.cedar_store_model.proofs.Named.{attributes_of, tags_of, tag_read, tag_tested}
use Rattle.cedar_store_model.specs.Laws.{is_dereference, has_dereference, with_store}

-- the store answers as the world's does
abbrev AsIn : World → (Uid → Found V) → (Uid → Type 0) → Type 0
AsIn w s looked = (u : Uid) → looked u → s u ≡ w.store u

same_attribute : (w : World) (s : Uid → Found V) (a : Text) (v : V) → AsIn w s (λ u. v ≡ prim (entity u)) → attribute_read (with_store w s) a v ≡ attribute_read w a v
same_attribute w s a (prim (entity u)) h = ap (part_read attributes_of u a) (h u refl)
same_attribute w s a v h = refl

same_has : (w : World) (s : Uid → Found V) (a : Text) (v : V) → AsIn w s (λ u. v ≡ prim (entity u)) → attribute_tested (with_store w s) a v ≡ attribute_tested w a v
same_has w s a (prim (entity u)) h = ap (part_tested attributes_of u a) (h u refl)
same_has w s a v h = refl

same_tag : (w : World) (s : Uid → Found V) (v x : V) → AsIn w s (CombinedLooks get_tag v x) → tag_read (with_store w s) v x ≡ tag_read w v x
same_tag w s (prim (entity u)) (prim (text a)) h = ap (part_read tags_of u a) (h u (refl, (a, refl)))
same_tag w s v x h = refl

same_has_tag : (w : World) (s : Uid → Found V) (v x : V) → AsIn w s (CombinedLooks has_tag v x) → tag_tested (with_store w s) v x ≡ tag_tested w v x
same_has_tag w s (prim (entity u)) (prim (text a)) h = ap (part_tested tags_of u a) (h u (refl, (a, refl)))
same_has_tag w s v x h = refl

same_within : (w : World) (s : Uid → Found V) (v x : V) → AsIn w s (CombinedLooks is_in v x) → within (with_store w s) v x ≡ within w v x
same_within w s (prim (entity u)) x h = ap (found_in u x) (h u refl)
same_within w s v x h = refl

same_combined : (w : World) (s : Uid → Found V) (o : BinaryOp) (v x : V) → AsIn w s (CombinedLooks o v x) → combined (with_store w s) o v x ≡ combined w o v x
same_combined w s is_in v x h = same_within w s v x h
same_combined w s get_tag v x h = same_tag w s v x h
same_combined w s has_tag v x h = same_has_tag w s v x h
same_combined w s o v x h = refl

same_next : {A B : Type 0} (o : Option (Res A)) (f g : A → Option (Res B)) → ((v : A) → o ≡ Some (val v) → g v ≡ f v) → bind o g ≡ bind o f
same_next None f g n = refl
same_next (Some (val v)) f g n = n v refl
same_next (Some (err e)) f g n = refl

same_bind : {A B : Type 0} (o p : Option (Res A)) (f g : A → Option (Res B)) → p ≡ o → ((v : A) → o ≡ Some (val v) → g v ≡ f v) → bind p g ≡ bind o f
same_bind o p f g e n = ap (λ x. bind x g) e ∙ same_next o f g n

same_picked : (a b c d : Option (Res V)) (v : V) → (v ≡ truth_value true → c ≡ a) → (v ≡ truth_value false → d ≡ b) → picked c d v ≡ picked a b v
same_picked a b c d (prim (truth true)) h k = h refl
same_picked a b c d (prim (truth false)) h k = k refl
same_picked a b c d v h k = refl

same_path : (w : World) (s : Uid → Found V) (a : Text) (bs : List Text) (v : V) → AsIn w s (PathLooks w a bs v) → path_tested (with_store w s) a bs v ≡ path_tested w a bs v
same_path w s a [] v h = same_has w s a v h
same_path w s a (b ∷ bs) v h =
    same_bind (attribute_tested w a v) (attribute_tested (with_store w s) a v) _ _ (same_has w s a v (λ u l. h u (inl l)))
    (λ t e. same_picked _ (Some (says false)) _ (Some (says false)) t
    (λ q. same_bind (attribute_read w a v) (attribute_read (with_store w s) a v) (path_tested w b bs) (path_tested (with_store w s) b bs)
    (same_attribute w s a v (λ u l. h u (inl l))) (λ x f. same_path w s b bs x (λ u l. h u (inr (x, f, l)))))
    (λ q. refl))

-- the value that the expression means
its_value : (w : World) (t : Tree) (v x : V) → outcome_of w t ≡ Some (val v) → v ≡ x → Means w t (val x)
its_value w t v x e q = outcome_means w t (val x) (e ∙ ap (λ y. Some (val y)) q)

mutual
  pub same : (w : World) (s : Uid → Found V) (t : Tree) → AsIn w s (Looks w t) → outcome_of (with_store w s) t ≡ outcome_of w t
  same w s (lit p) h = refl
  same w s (var principal) h = refl
  same w s (var action) h = refl
  same w s (var resource) h = refl
  same w s (var context) h = refl
  same w s (slot x) h = refl
  same w s (unknown n a) h = refl
  same w s (choice t a b) h =
      same_bind (outcome_of w t) (outcome_of (with_store w s) t) _ _ (same w s t (λ u l. h u (inl l)))
      (λ v e. same_picked (outcome_of w a) (outcome_of w b) (outcome_of (with_store w s) a) (outcome_of (with_store w s) b) v
      (λ q. same w s a (λ u l. h u (inr (inl (its_value w t v (truth_value true) e q, l)))))
      (λ q. same w s b (λ u l. h u (inr (inr (its_value w t v (truth_value false) e q, l))))))
  same w s (both a b) h =
      same_bind (outcome_of w a) (outcome_of (with_store w s) a) _ _ (same w s a (λ u l. h u (inl l)))
      (λ v e. same_picked _ (Some (says false)) _ (Some (says false)) v
      (λ q. ap (λ o. bind o (λ x. Some (truth_asked x))) (same w s b (λ u l. h u (inr (its_value w a v (truth_value true) e q, l)))))
      (λ q. refl))
  same w s (either a b) h =
      same_bind (outcome_of w a) (outcome_of (with_store w s) a) _ _ (same w s a (λ u l. h u (inl l)))
      (λ v e. same_picked (Some (says true)) _ (Some (says true)) _ v
      (λ q. refl)
      (λ q. ap (λ o. bind o (λ x. Some (truth_asked x))) (same w s b (λ u l. h u (inr (its_value w a v (truth_value false) e q, l))))))
  same w s (unary o a) h = same_bind (outcome_of w a) (outcome_of (with_store w s) a) _ _ (same w s a h) (λ v e. refl)
  same w s (binary o a b) h =
      same_bind (outcome_of w a) (outcome_of (with_store w s) a) _ _ (same w s a (λ u l. h u (inl l)))
      (λ v e. same_bind (outcome_of w b) (outcome_of (with_store w s) b) (combined w o v) (combined (with_store w s) o v)
      (same w s b (λ u l. h u (inr (v, outcome_means w a (val v) e, inl l))))
      (λ x f. same_combined w s o v x (λ u l. h u (inr (v, outcome_means w a (val v) e, inr (x, outcome_means w b (val x) f, l))))))
  same w s (call f ts) h = same_bind (outcomes_of w ts) (outcomes_of (with_store w s) ts) _ _ (same_all w s ts h) (λ vs e. refl)
  same w s (get_attr t a) h =
      same_bind (outcome_of w t) (outcome_of (with_store w s) t) _ _ (same w s t (λ u l. h u (inl l)))
      (λ v e. same_attribute w s a v (λ u l. h u (inr (v, outcome_means w t (val v) e, l))))
  same w s (has_attr t a) h =
      same_bind (outcome_of w t) (outcome_of (with_store w s) t) _ _ (same w s t (λ u l. h u (inl l)))
      (λ v e. same_has w s a v (λ u l. h u (inr (v, outcome_means w t (val v) e, l))))
  same w s (has_path t a bs) h =
      same_bind (outcome_of w t) (outcome_of (with_store w s) t) _ _ (same w s t (λ u l. h u (inl l)))
      (λ v e. same_path w s a bs v (λ u l. h u (inr (v, outcome_means w t (val v) e, l))))
  same w s (like t p) h = same_bind (outcome_of w t) (outcome_of (with_store w s) t) _ _ (same w s t h) (λ v e. refl)
  same w s (is_type t n) h = same_bind (outcome_of w t) (outcome_of (with_store w s) t) _ _ (same w s t h) (λ v e. refl)
  same w s (set_literal ts) h = same_bind (outcomes_of w ts) (outcomes_of (with_store w s) ts) _ _ (same_all w s ts h) (λ vs e. refl)
  same w s (record_literal fs) h = same_bind (field_outcomes_of w fs) (field_outcomes_of (with_store w s) fs) _ _ (same_fields w s fs h) (λ vs e. refl)

  same_all : (w : World) (s : Uid → Found V) (ts : Trees) → AsIn w s (AnyLooks w ts) → outcomes_of (with_store w s) ts ≡ outcomes_of w ts
  same_all w s no_trees h = refl
  same_all w s (tree t ts) h =
      same_bind (outcome_of w t) (outcome_of (with_store w s) t) _ _ (same w s t (λ u l. h u (inl l)))
      (λ v e. ap (λ o. bind o (λ vs. Some (val (v ∷ vs)))) (same_all w s ts (λ u l. h u (inr (v, outcome_means w t (val v) e, l)))))

  same_fields : (w : World) (s : Uid → Found V) (fs : TreeFields) → AsIn w s (AnyFieldLooks w fs) → field_outcomes_of (with_store w s) fs ≡ field_outcomes_of w fs
  same_fields w s no_tree_fields h = refl
  same_fields w s (tree_field a t fs) h =
      same_bind (outcome_of w t) (outcome_of (with_store w s) t) _ _ (same w s t (λ u l. h u (inl l)))
      (λ v e. ap (λ o. bind o (λ vs. Some (val (field a v vs)))) (same_fields w s fs (λ u l. h u (inr (v, outcome_means w t (val v) e, l)))))

pub same_means : (w : World) (s : Uid → Found V) (t : Tree) → ((u : Uid) → Looks w t u → s u ≡ w.store u) → (r : Res V) → Means w t r ↔ Means (with_store w s) t r
same_means w s t h r = (
  λ m. outcome_means (with_store w s) t r (same w s t h ∙ means_outcome w t r m),
  λ m. outcome_means w t r (sym (same w s t h) ∙ means_outcome (with_store w s) t r m),
)

-- an expression without a dereference looks nothing up
neither : (a b : Bool) → (a || b) ≡ false → (a ≡ false) × (b ≡ false)
neither true b h = cc
neither false b h = (refl, h)

abbrev look_nothing_up : List Tree → Type 0
look_nothing_up ts = list_any is_dereference ts ≡ false

none_of_either : (ts us : List Tree) → look_nothing_up (ts ++ us) → look_nothing_up ts × look_nothing_up us
none_of_either ts us e = neither (list_any is_dereference ts) (list_any is_dereference us) (sym (list_any-append is_dereference ts us) ∙ e)

none_at_operator : (o : BinaryOp) (v x : V) (u : Uid) → looks_up o ≡ false → CombinedLooks o v x u → ⊥
none_at_operator is_in v x u e h = cc
none_at_operator get_tag v x u e h = cc
none_at_operator has_tag v x u e h = cc
none_at_operator o v x u e h = h

mutual
  pub nothing_looked : (w : World) (u : Uid) (t : Tree) → has_dereference t ≡ false → Looks w t u → ⊥
  nothing_looked w u (lit p) e h = h
  nothing_looked w u (var x) e h = h
  nothing_looked w u (slot s) e h = h
  nothing_looked w u (unknown n a) e h = h
  nothing_looked w u (choice t a b) e (inl h) = nothing_looked w u t (none_of_either (subexpressions t) (subexpressions a ++ subexpressions b) e).0 h
  nothing_looked w u (choice t a b) e (inr (inl h)) = nothing_looked w u a (none_of_either (subexpressions a) (subexpressions b) (none_of_either (subexpressions t) (subexpressions a ++ subexpressions b) e).1).0 h.1
  nothing_looked w u (choice t a b) e (inr (inr h)) = nothing_looked w u b (none_of_either (subexpressions a) (subexpressions b) (none_of_either (subexpressions t) (subexpressions a ++ subexpressions b) e).1).1 h.1
  nothing_looked w u (both a b) e (inl h) = nothing_looked w u a (none_of_either (subexpressions a) (subexpressions b) e).0 h
  nothing_looked w u (both a b) e (inr h) = nothing_looked w u b (none_of_either (subexpressions a) (subexpressions b) e).1 h.1
  nothing_looked w u (either a b) e (inl h) = nothing_looked w u a (none_of_either (subexpressions a) (subexpressions b) e).0 h
  nothing_looked w u (either a b) e (inr h) = nothing_looked w u b (none_of_either (subexpressions a) (subexpressions b) e).1 h.1
  nothing_looked w u (unary o a) e h = nothing_looked w u a e h
  nothing_looked w u (binary o a b) e (inl h) = nothing_looked w u a (none_of_either (subexpressions a) (subexpressions b) (neither (looks_up o) _ e).1).0 h
  nothing_looked w u (binary o a b) e (inr (v, m, inl h)) = nothing_looked w u b (none_of_either (subexpressions a) (subexpressions b) (neither (looks_up o) _ e).1).1 h
  nothing_looked w u (binary o a b) e (inr (v, m, inr h)) = none_at_operator o v h.0 u (neither (looks_up o) _ e).0 h.2
  nothing_looked w u (call f ts) e h = nothing_any w u ts e h
  nothing_looked w u (get_attr t a) e h = cc
  nothing_looked w u (has_attr t a) e h = cc
  nothing_looked w u (has_path t a bs) e h = cc
  nothing_looked w u (like t p) e h = nothing_looked w u t e h
  nothing_looked w u (is_type t n) e h = nothing_looked w u t e h
  nothing_looked w u (set_literal ts) e h = nothing_any w u ts e h
  nothing_looked w u (record_literal fs) e h = nothing_field w u fs e h

  nothing_any : (w : World) (u : Uid) (ts : Trees) → look_nothing_up (subexpressions_among ts) → AnyLooks w ts u → ⊥
  nothing_any w u no_trees e h = h
  nothing_any w u (tree t ts) e (inl h) = nothing_looked w u t (none_of_either (subexpressions t) (subexpressions_among ts) e).0 h
  nothing_any w u (tree t ts) e (inr h) = nothing_any w u ts (none_of_either (subexpressions t) (subexpressions_among ts) e).1 h.2

  nothing_field : (w : World) (u : Uid) (fs : TreeFields) → look_nothing_up (subexpressions_in_fields fs) → AnyFieldLooks w fs u → ⊥
  nothing_field w u no_tree_fields e h = h
  nothing_field w u (tree_field a t fs) e (inl h) = nothing_looked w u t (none_of_either (subexpressions t) (subexpressions_in_fields fs) e).0 h
  nothing_field w u (tree_field a t fs) e (inr h) = nothing_field w u fs (none_of_either (subexpressions t) (subexpressions_in_fields fs) e).1 h.2

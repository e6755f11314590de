-- Stores whose entities differ at most in the order of their ancestors give the same answers.
use Rattle.std.proofs.Common.{◌≡◌, ◌∙◌, ◌||◌, List, [], ◌∷◌, Some, refl, sym, ap, ⊎_elim, ◌⊎◌}
use Rattle.std.specs.Prelude.{true, false, is_some}
use Rattle.std.specs.List.{list_any}
use Rattle.std.specs.Map.{lookup}
use Rattle.std.specs.Option.{option_map_or}
use Rattle.std.specs.Str.{bytes_eq}
use Rattle.cedar_expr_model.specs.Name.{Text}
use Rattle.cedar_expr_model.specs.Uid.{Uid, uid_eq}
use Rattle.cedar_expr_model.specs.Canonical.{set_made}
use Rattle.cedar_expr_model.specs.Tree.{Var, principal, action, resource, context, BinaryOp, is_in, get_tag, has_tag, Tree, lit, var, slot, unknown, choice, both, either, unary, binary, call, get_attr, has_attr, has_path, like, is_type, set_literal, record_literal, Trees, no_trees, tree, TreeFields, no_tree_fields, tree_field}
use Rattle.cedar_expr_model.specs.Value.{V, prim, entity, text, record_of, field}
use Rattle.cedar_expr_model.specs.ValueParts.{Part}
use Rattle.cedar_store_model.specs.Laws.{with_store}
use Rattle.cedar_store_model.specs.Meaning.{Means, variable, combined, picked, truth_asked, path_tested, outcome_of, outcomes_of, field_outcomes_of}
use Rattle.cedar_store_model.specs.Operators.{says, applied, like_pattern, of_type, called}
use Rattle.cedar_store_model.specs.Outcome.{Res, val, err, bind, wrong_type}
use Rattle.cedar_store_model.specs.Policy.{Policy, condition}
use Rattle.cedar_store_model.specs.Answer.{with_slots, PolicyMeans, policy_outcome, answer_of}
use Rattle.cedar_store_model.specs.Reads.{part_value, part_read, part_tested, attribute_read, attribute_tested, uids_in, found_in, within}
use Rattle.cedar_store_model.specs.World.{World, Entity, Found, held}
use Rattle.cedar_store_model.proofs.Conditions.{condition_asked, policy_meaning_is_a_function}
use Rattle.cedar_store_model.proofs.Meaning.{means_outcome, outcome_means}
use Rattle.cedar_store_model.proofs.Named.{attributes_of, tags_of, tag_read, tag_tested}
use Rattle.cedar_store_model.proofs.Stores.{same_answers}

-- Two entities have the same attributes and tags, and the same ancestors in some order.
pub record Alike {A : Type 0} (e d : Entity A) : Type 0 where
  pub attributes : e.attributes ≡ d.attributes
  pub tags : e.tags ≡ d.tags
  pub ancestors : (v : Uid) → list_any (uid_eq v) e.ancestors ≡ list_any (uid_eq v) d.ancestors

abbrev pub FoundAlike : {A : Type 0} → Found A → Found A → Type 0
FoundAlike {A} f g = (f ≡ g) ⊎ ((e : Entity A) × (d : Entity A) × (f ≡ held e) × (g ≡ held d) × Alike e d)

pub by_found_alike : {A B : Type 0} (f g : Found A) → FoundAlike f g → (read : Found A → B) → ((e d : Entity A) → Alike e d → read (held e) ≡ read (held d)) → read f ≡ read g
by_found_alike f g h read same = ⊎_elim (λ q. ap read q) (λ k. ap read k.2 ∙ same k.0 k.1 k.4 ∙ sym (ap read k.3)) h

module _ (f g : Found V) (h : FoundAlike f g) where
  read_alike : (parts : Entity V → List (Text × Part V)) → ((e d : Entity V) → Alike e d → parts e ≡ parts d) → (u : Uid) (a : Text) → part_read parts u a f ≡ part_read parts u a g
  read_alike parts same u a = by_found_alike f g h (part_read parts u a) (λ e d k. ap (λ ps. part_value (lookup (bytes_eq a) ps)) (same e d k))

  tested_alike : (parts : Entity V → List (Text × Part V)) → ((e d : Entity V) → Alike e d → parts e ≡ parts d) → (u : Uid) (a : Text) → part_tested parts u a f ≡ part_tested parts u a g
  tested_alike parts same u a = by_found_alike f g h (part_tested parts u a) (λ e d k. ap (λ ps. Some (says (is_some (lookup (bytes_eq a) ps)))) (same e d k))

  in_alike : (u : Uid) (v : V) → found_in u v f ≡ found_in u v g
  in_alike u v =
      by_found_alike f g h (found_in u v)
      (λ e d k. λ i. Some (option_map_or (λ vs. says (list_any (λ y. uid_eq u y || k.ancestors y i) vs)) (uids_in v) (err wrong_type)))

module _ (w : World) (store : Uid → Found V) (alike : (u : Uid) → FoundAlike (store u) (w.store u)) where
  abbrev other : World
  other = with_store w store

  same_variable : (x : Var) → variable other x ≡ variable w x
  same_variable principal = refl
  same_variable action = refl
  same_variable resource = refl
  same_variable context = refl

  same_read : (a : Text) (v : V) → attribute_read other a v ≡ attribute_read w a v
  same_read a (prim (entity u)) = read_alike (store u) (w.store u) (alike u) attributes_of (λ e d k. k.attributes) u a
  same_read a v = refl

  same_tested : (a : Text) (v : V) → attribute_tested other a v ≡ attribute_tested w a v
  same_tested a (prim (entity u)) = tested_alike (store u) (w.store u) (alike u) attributes_of (λ e d k. k.attributes) u a
  same_tested a v = refl

  same_path : (a : Text) (bs : List Text) (v : V) → path_tested other a bs v ≡ path_tested w a bs v
  same_path a [] v = same_tested a v
  same_path a (b ∷ bs) v = λ i. bind (same_tested a v i) (picked (bind (same_read a v i) (λ x. same_path b bs x i)) (Some (says false)))

  same_tag_read : (v x : V) → tag_read other v x ≡ tag_read w v x
  same_tag_read (prim (entity u)) (prim (text a)) = read_alike (store u) (w.store u) (alike u) tags_of (λ e d k. k.tags) u a
  same_tag_read v x = refl

  same_tag_tested : (v x : V) → tag_tested other v x ≡ tag_tested w v x
  same_tag_tested (prim (entity u)) (prim (text a)) = tested_alike (store u) (w.store u) (alike u) tags_of (λ e d k. k.tags) u a
  same_tag_tested v x = refl

  same_within : (v x : V) → within other v x ≡ within w v x
  same_within (prim (entity u)) x = in_alike (store u) (w.store u) (alike u) u x
  same_within v x = refl

  same_combined : (o : BinaryOp) (v x : V) → combined other o v x ≡ combined w o v x
  same_combined is_in v x = same_within v x
  same_combined get_tag v x = same_tag_read v x
  same_combined has_tag v x = same_tag_tested v x
  same_combined o v x = refl

  mutual
    pub same_outcome : (t : Tree) → outcome_of other t ≡ outcome_of w t
    same_outcome (lit p) = refl
    same_outcome (var x) = same_variable x
    same_outcome (slot s) = refl
    same_outcome (unknown n a) = refl
    same_outcome (choice t a b) = λ i. bind (same_outcome t i) (picked (same_outcome a i) (same_outcome b i))
    same_outcome (both a b) = λ i. bind (same_outcome a i) (picked (bind (same_outcome b i) (λ v. Some (truth_asked v))) (Some (says false)))
    same_outcome (either a b) = λ i. bind (same_outcome a i) (picked (Some (says true)) (bind (same_outcome b i) (λ v. Some (truth_asked v))))
    same_outcome (unary o a) = λ i. bind (same_outcome a i) (λ v. Some (applied o v))
    same_outcome (binary o a b) = λ i. bind (same_outcome a i) (λ v. bind (same_outcome b i) (λ x. same_combined o v x i))
    same_outcome (call f ts) = λ i. bind (same_outcomes ts i) (called w.table w.unknowns f)
    same_outcome (get_attr t a) = λ i. bind (same_outcome t i) (λ v. same_read a v i)
    same_outcome (has_attr t a) = λ i. bind (same_outcome t i) (λ v. same_tested a v i)
    same_outcome (has_path t a bs) = λ i. bind (same_outcome t i) (λ v. same_path a bs v i)
    same_outcome (like t p) = λ i. bind (same_outcome t i) (λ v. Some (like_pattern p v))
    same_outcome (is_type t n) = λ i. bind (same_outcome t i) (λ v. Some (of_type n v))
    same_outcome (set_literal ts) = λ i. bind (same_outcomes ts i) (λ vs. Some (val (set_made vs)))
    same_outcome (record_literal fs) = λ i. bind (same_fields fs i) (λ vs. Some (val (record_of vs)))

    same_outcomes : (ts : Trees) → outcomes_of other ts ≡ outcomes_of w ts
    same_outcomes no_trees = refl
    same_outcomes (tree t ts) = λ i. bind (same_outcome t i) (λ v. bind (same_outcomes ts i) (λ vs. Some (val (v ∷ vs))))

    same_fields : (fs : TreeFields) → field_outcomes_of other fs ≡ field_outcomes_of w fs
    same_fields no_tree_fields = refl
    same_fields (tree_field a t fs) = λ i. bind (same_outcome t i) (λ v. bind (same_fields fs i) (λ vs. Some (val (field a v vs))))

module _ (w : World) (store : Uid → Found V) (alike : (u : Uid) → FoundAlike (store u) (w.store u)) where
  policy_alike : (p : Policy) → policy_outcome (with_store w store) p ≡ policy_outcome w p
  policy_alike p = condition_asked (with_store w store) p ∙ same_outcome (with_slots w p.bindings) store alike (condition p) ∙ sym (condition_asked w p)

  pub stores_alike : (ps : List Policy) → answer_of (with_store w store) ps ≡ answer_of w ps
  stores_alike ps = same_answers (with_store w store) w ps (λ p k. policy_alike p)

  pub means_alike : (t : Tree) (r : Res V) → Means w t r → Means (with_store w store) t r
  means_alike t r h = outcome_means (with_store w store) t r (same_outcome w store alike t ∙ means_outcome w t r h)

  pub policy_means_alike : (p : Policy) (r : Res V) → PolicyMeans (with_store w store) p r → PolicyMeans w p r
  policy_means_alike p r h = (policy_meaning_is_a_function w p r).1 (sym (policy_alike p) ∙ (policy_meaning_is_a_function (with_store w store) p r).0 h)

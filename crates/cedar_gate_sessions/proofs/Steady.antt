-- Evaluations don't see in which order the ancestors of entities stand.
use Rattle.std.proofs.Common.{◌≡◌, ◌∙◌, ◌||◌, ℕ, zero, suc, List, [], ◌∷◌, false, refl}
use Rattle.std.specs.List.{filter_map, list_any}
use Rattle.std.specs.Map.{lookup}
use Rattle.std.specs.Option.{option_map_or}
use Rattle.std.specs.Str.{bytes_eq}
use Rattle.cedar_expr_model.specs.Name.{Text}
use Rattle.cedar_expr_model.specs.Uid.{Uid, uid_eq}
use Rattle.cedar_expr_model.specs.Made.{Made, made_prim, made_record, bare}
use Rattle.cedar_expr_model.specs.Builder.{path_test}
use Rattle.cedar_expr_model.specs.Tree.{Var, principal, action, resource, context, BinaryOp, is_in, get_tag, has_tag, Tree, lit, var, unknown, binary, get_attr, has_attr, has_path}
use Rattle.cedar_expr_model.specs.Value.{text, entity}
use Rattle.cedar_expr_model.specs.ValueParts.{Part, known, left}
use Rattle.cedar_store_model.specs.Answer.{decided}
use Rattle.cedar_store_model.specs.Operators.{says}
use Rattle.cedar_store_model.specs.Outcome.{err, missing_entity, wrong_type}
use Rattle.cedar_store_model.specs.Policy as model
use Rattle.cedar_store_model.specs.Policy.{permit, forbid, binding_of, condition}
use Rattle.cedar_store_model.specs.Reads.{uids_in}
use Rattle.cedar_store_model.specs.Store.{stand_in}
use Rattle.cedar_store_model.specs.World.{Entity, Found, held, missing, not_loaded, by_found}
use Rattle.cedar_evaluator_model.specs.Evaluation.{variable_left, get_of_residual, has_of_residual, binary_left, node, evaluated}
use Rattle.cedar_evaluator_model.specs.Response.{with_bindings, slots_bound, verdict, response_of, request_of, group, if_true, if_false, if_residual, if_stopped}
use Rattle.cedar_evaluator_model.specs.Scope.{Scope, Left, residual}
use Rattle.cedar_evaluator_model.specs.Steps.{errs, truth_left, on_value, left_of, truth_wanted, path_step, part_left, tag_left, part_or_missing, part_there, made_named, attribute_of, test_of, path_of, get_tag_found, has_tag_found, tag_of, in_found, in_of, combined_left, kind_of_value, kind_of_unknown, with_residual}
use Rattle.cedar_expr_model.specs.Made.{written}
use Rattle.cedar_gate_sessions.specs.Answers.{asked, if_erring, reasons_left, answered}

-- entities that evaluations don't tell apart
pub record AreAlike (d e : Entity Made) : Type 0 where
  pub attributes : d.attributes ≡ e.attributes
  pub tags : d.tags ≡ e.tags
  pub ancestors : (u : Uid) → list_any (uid_eq u) d.ancestors ≡ list_any (uid_eq u) e.ancestors

abbrev pub IsAlike : Found Made → Found Made → Type 0
IsAlike (held d) (held e) = AreAlike d e
IsAlike missing missing = Unit {0}
IsAlike not_loaded not_loaded = Unit {0}
IsAlike f g = ⊥

pub alike_self : (f : Found Made) → IsAlike f f
alike_self (held e) = record { attributes = refl; tags = refl; ancestors = λ u. refl }
alike_self missing = tt
alike_self not_loaded = tt

-- what is made of them
by_alike : {B : Type 0} (p q : Entity Made → B) (m n : B) → ((d e : Entity Made) → AreAlike d e → p d ≡ q e) → (f g : Found Made) → IsAlike f g → by_found p m n f ≡ by_found q m n g
by_alike p q m n each (held d) (held e) h = each d e h
by_alike p q m n each missing missing h = refl
by_alike p q m n each not_loaded not_loaded h = refl
by_alike p q m n each (held d) missing h = absurd h
by_alike p q m n each (held d) not_loaded h = absurd h
by_alike p q m n each missing (held e) h = absurd h
by_alike p q m n each missing not_loaded h = absurd h
by_alike p q m n each not_loaded (held e) h = absurd h
by_alike p q m n each not_loaded missing h = absurd h

alike_within : (u : Uid) (m : Made) (d e : Entity Made) → AreAlike d e → in_found u m (held d) ≡ in_found u m (held e)
alike_within u m d e h = λ i. left_of (option_map_or (λ vs. says (list_any (λ v. uid_eq u v || h.ancestors v i) vs)) (uids_in (bare m)) (err wrong_type))

module _ (s : Scope) (st : Uid → Found Made) (alike : (u : Uid) → IsAlike (s.store u) (st u)) where
  -- the scope with the other store
  abbrev other : Scope
  other = record s { store = st }

  same_variable : (x : Var) → variable_left s x ≡ variable_left other x
  same_variable principal = refl
  same_variable action = refl
  same_variable resource = refl
  same_variable context = refl

  same_part : (p : Part Made) → part_left s p ≡ part_left other p
  same_part (known m) = refl
  same_part (left (unknown n a)) = refl
  same_part (left t) = refl

  same_attribute : (a : Text) (m : Made) → attribute_of s a m ≡ attribute_of other a m
  same_attribute a (made_prim (entity u)) =
      by_alike (λ e. part_or_missing (part_left s) a e.attributes) (λ e. part_or_missing (part_left other) a e.attributes) (errs (missing_entity u)) (residual (get_attr (stand_in u) a))
      (λ d e h i. part_or_missing (λ p. same_part p i) a (h.attributes i)) (s.store u) (st u) (alike u)
  same_attribute a m = refl

  same_test : (a : Text) (m : Made) → test_of s a m ≡ test_of other a m
  same_test a (made_prim (entity u)) =
      by_alike (λ e. part_there a e.attributes) (λ e. part_there a e.attributes) (truth_left false) (residual (has_attr (stand_in u) a)) (λ d e h i. part_there a (h.attributes i)) (s.store u) (st u) (alike u)
  same_test a m = refl

  same_path : (a : Text) (bs : List Text) (m : Made) → path_of s a bs m ≡ path_of other a bs m
  same_path a [] m = same_test a m
  same_path a (b ∷ bs) (made_prim (entity u)) =
      by_alike (λ e. path_step (path_of s b bs) b bs (lookup (bytes_eq a) e.attributes)) (λ e. path_step (path_of other b bs) b bs (lookup (bytes_eq a) e.attributes)) (truth_left false) (residual (has_path (stand_in u) a (b ∷ bs)))
      (λ d e h i. path_step (λ m. same_path b bs m i) b bs (lookup (bytes_eq a) (h.attributes i))) (s.store u) (st u) (alike u)
  same_path a (b ∷ bs) (made_record fs) = λ i. option_map_or (λ m. same_path b bs m i) (made_named a fs) (truth_left false)
  same_path a (b ∷ bs) m = refl

  same_get_tag : (m n : Made) → tag_of get_tag_found s m n ≡ tag_of get_tag_found other m n
  same_get_tag (made_prim (entity u)) (made_prim (text a)) =
      by_alike (λ e. part_or_missing tag_left a e.tags) (λ e. part_or_missing tag_left a e.tags) (errs (missing_entity u)) (residual (binary get_tag (stand_in u) (lit (text a))))
      (λ d e h i. part_or_missing tag_left a (h.tags i)) (s.store u) (st u) (alike u)
  same_get_tag m n = refl

  same_has_tag : (m n : Made) → tag_of has_tag_found s m n ≡ tag_of has_tag_found other m n
  same_has_tag (made_prim (entity u)) (made_prim (text a)) =
      by_alike (λ e. part_there a e.tags) (λ e. part_there a e.tags) (truth_left false) (residual (binary has_tag (stand_in u) (lit (text a)))) (λ d e h i. part_there a (h.tags i)) (s.store u) (st u) (alike u)
  same_has_tag m n = refl

  same_in : (m n : Made) → in_of s m n ≡ in_of other m n
  same_in (made_prim (entity u)) n =
      by_alike (λ e. in_found u n (held e)) (λ e. in_found u n (held e)) (in_found u n missing) (residual (binary is_in (stand_in u) (written n))) (alike_within u n) (s.store u) (st u) (alike u)
  same_in m n = refl

  same_combined : (o : BinaryOp) (m n : Made) → combined_left s o m n ≡ combined_left other o m n
  same_combined is_in m n = same_in m n
  same_combined get_tag m n = same_get_tag m n
  same_combined has_tag m n = same_has_tag m n
  same_combined o m n = refl

  same_binary : (o : BinaryOp) (l r : Left) → binary_left s o l r ≡ binary_left other o l r
  same_binary o l r = λ i. on_value l
      (λ m. on_value r (λ n. same_combined o m n i) (λ b. with_residual o (kind_of_value m) (kind_of_unknown b) (written m) b))
      (λ a. on_value r (λ n. with_residual o (kind_of_unknown a) (kind_of_value n) a (written n)) (λ b. with_residual o (kind_of_unknown a) (kind_of_unknown b) a b))

  same_node : (go : Tree → Left) (t : Tree) → node s go t ≡ node other go t
  same_node go (var x) = same_variable x
  same_node go (binary o a b) = same_binary o (go a) (go b)
  same_node go (get_attr e a) = λ i. on_value (go e) (λ m. same_attribute a m i) (get_of_residual go a)
  same_node go (has_attr e a) = λ i. on_value (go e) (λ m. same_test a m i) (has_of_residual a)
  same_node go (has_path e a bs) = λ i. on_value (go e) (λ m. same_path a bs m i) (λ r. residual (path_test r a bs))
  same_node go t = refl

  pub same_evaluated : (n : ℕ) (t : Tree) → evaluated s n t ≡ evaluated other n t
  same_evaluated zero t = refl
  same_evaluated (suc n) t = (λ i. node s (λ u. same_evaluated n u i) t) ∙ same_node (evaluated other n) t

module _ (s : Scope) (st : Uid → Found Made) (alike : (u : Uid) → IsAlike (s.store u) (st u)) (n : ℕ) where
  abbrev with_other : Scope
  with_other = record s { store = st }

  -- what is left of policies
  same_verdict : (p : model.Policy) → verdict s n p ≡ verdict with_other n p
  same_verdict p = λ i. on_value (same_evaluated (with_bindings s p.bindings) st alike n (condition p) i) truth_wanted (λ r. residual (slots_bound (binding_of p.bindings) r))

  pub same_response : (ps : List model.Policy) → response_of s n ps ≡ response_of with_other n ps
  same_response ps = λ i. record {
    true_permits = group permit (λ p. if_true p (same_verdict p i)) ps;
    false_permits = group permit (λ p. if_false p (same_verdict p i)) ps;
    residual_permits = group permit (λ p. if_residual p (same_verdict p i)) ps;
    true_forbids = group forbid (λ p. if_true p (same_verdict p i)) ps;
    false_forbids = group forbid (λ p. if_false p (same_verdict p i)) ps;
    residual_forbids = group forbid (λ p. if_residual p (same_verdict p i)) ps;
    errors = filter_map (λ p. if_stopped p (same_verdict p i)) ps;
    request = request_of s;
  }

  same_asked : (p : model.Policy) → asked s n p ≡ asked with_other n p
  same_asked p = λ i. on_value (same_evaluated (with_bindings s p.bindings) st alike n (condition p) i) truth_wanted residual

  -- the answer that is left
  pub same_answered : (ps : List model.Policy) → answered s n ps ≡ answered with_other n ps
  same_answered ps = λ i. record {
    decision = decided (same_response ps i).true_permits (same_response ps i).true_forbids;
    reasons = reasons_left (same_response ps i);
    errors = filter_map (λ p. if_erring p (same_asked p i)) ps;
  }

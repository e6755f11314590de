-- Evaluation in part leaves the same over stores whose entities differ at most in the order of their ancestors.
use Rattle.std.proofs.Common.{◌≡◌, ◌∙◌, ◌||◌, ℕ, zero, suc, List, [], ◌∷◌, refl, ap}
use Rattle.std.specs.Prelude.{false}
use Rattle.std.specs.List.{list_any, filter_map}
use Rattle.std.specs.Map.{lookup}
use Rattle.std.specs.Option.{option_map_or}
use Rattle.std.specs.Str.{bytes_eq}
use Rattle.cedar_expr_model.specs.Name.{Text}
use Rattle.cedar_expr_model.specs.Uid.{Uid, uid_eq}
use Rattle.cedar_expr_model.specs.Builder.{path_test}
use Rattle.cedar_expr_model.specs.Made.{Made, made_prim, made_record, bare, written}
use Rattle.cedar_expr_model.specs.Tree.{Var, principal, action, resource, context, BinaryOp, is_in, get_tag, has_tag, Tree, var, unknown, binary, get_attr, has_attr, has_path}
use Rattle.cedar_expr_model.specs.Value.{entity, text}
use Rattle.cedar_expr_model.specs.ValueParts.{Part, left}
use Rattle.cedar_store_model.specs.Operators.{says}
use Rattle.cedar_store_model.specs.Outcome.{err, wrong_type}
use Rattle.cedar_store_model.specs.Policy.{Policy, permit, forbid, binding_of, condition}
use Rattle.cedar_store_model.specs.Reads.{uids_in}
use Rattle.cedar_store_model.specs.World.{Found, held, missing, not_loaded}
use Rattle.cedar_evaluator_model.specs.Evaluation.{variable_left, get_of_residual, has_of_residual, node, evaluated}
use Rattle.cedar_evaluator_model.specs.Response.{with_bindings, slots_bound, verdict, if_true, if_false, if_residual, if_stopped, group, request_of, response_of}
use Rattle.cedar_evaluator_model.specs.Scope.{Scope, Left, residual}
use Rattle.cedar_evaluator_model.specs.Steps.{on_value, left_of, truth_left, truth_wanted, part_left, part_or_missing, part_there, made_named, attribute_of, test_of, path_of, path_step, get_tag_found, has_tag_found, tag_of, tag_left, in_of, in_found, combined_left, kind_of_value, kind_of_unknown, with_residual}
use Rattle.cedar_evaluator_model.proofs.Named.{attribute_found, test_found, path_found}
use Rattle.cedar_gate_model.proofs.Runs.Ancestors.{FoundAlike, by_found_alike}

module _ (s : Scope) (store : Uid → Found Made) (alike : (u : Uid) → FoundAlike (store u) (s.store u)) where
  abbrev over : Scope
  over = record s { store = store }

  same_variable : (x : Var) → variable_left over x ≡ variable_left s x
  same_variable principal = refl
  same_variable action = refl
  same_variable resource = refl
  same_variable context = refl

  -- attributes
  same_part : (p : Part Made) → part_left over p ≡ part_left s p
  same_part (left (unknown n a)) = refl
  same_part p = refl

  same_attribute_found : (u : Uid) (a : Text) (f : Found Made) → attribute_found over u a f ≡ attribute_found s u a f
  same_attribute_found u a (held e) = λ i. part_or_missing (λ p. same_part p i) a e.attributes
  same_attribute_found u a missing = refl
  same_attribute_found u a not_loaded = refl

  same_attribute : (a : Text) (m : Made) → attribute_of over a m ≡ attribute_of s a m
  same_attribute a (made_prim (entity u)) =
      same_attribute_found u a (store u) ∙ by_found_alike (store u) (s.store u) (alike u) (attribute_found s u a) (λ e d k. ap (part_or_missing (part_left s) a) k.attributes)
  same_attribute a m = refl

  same_test : (a : Text) (m : Made) → test_of over a m ≡ test_of s a m
  same_test a (made_prim (entity u)) = by_found_alike (store u) (s.store u) (alike u) (test_found u a) (λ e d k. ap (part_there a) k.attributes)
  same_test a m = refl

  same_path : (a : Text) (bs : List Text) (m : Made) → path_of over a bs m ≡ path_of s a bs m
  same_path a [] m = same_test a m
  same_path a (b ∷ bs) (made_prim (entity u)) =
      (λ i. path_found (λ n. same_path b bs n i) u a b bs (store u))
      ∙ by_found_alike (store u) (s.store u) (alike u) (path_found (path_of s b bs) u a b bs) (λ e d k. ap (λ ps. path_step (path_of s b bs) b bs (lookup (bytes_eq a) ps)) k.attributes)
  same_path a (b ∷ bs) (made_record fs) = λ i. option_map_or (λ n. same_path b bs n i) (made_named a fs) (truth_left false)
  same_path a (b ∷ bs) m = refl

  -- tags, and the hierarchy
  same_get_tag : (m n : Made) → tag_of get_tag_found over m n ≡ tag_of get_tag_found s m n
  same_get_tag (made_prim (entity u)) (made_prim (text a)) = by_found_alike (store u) (s.store u) (alike u) (get_tag_found u a) (λ e d k. ap (part_or_missing tag_left a) k.tags)
  same_get_tag m n = refl

  same_has_tag : (m n : Made) → tag_of has_tag_found over m n ≡ tag_of has_tag_found s m n
  same_has_tag (made_prim (entity u)) (made_prim (text a)) = by_found_alike (store u) (s.store u) (alike u) (has_tag_found u a) (λ e d k. ap (part_there a) k.tags)
  same_has_tag m n = refl

  same_in : (m n : Made) → in_of over m n ≡ in_of s m n
  same_in (made_prim (entity u)) n =
      by_found_alike (store u) (s.store u) (alike u) (in_found u n)
      (λ e d k. λ i. left_of (option_map_or (λ vs. says (list_any (λ y. uid_eq u y || k.ancestors y i) vs)) (uids_in (bare n)) (err wrong_type)))
  same_in m n = refl

  same_combined : (o : BinaryOp) (m n : Made) → combined_left over o m n ≡ combined_left s o m n
  same_combined is_in m n = same_in m n
  same_combined get_tag m n = same_get_tag m n
  same_combined has_tag m n = same_has_tag m n
  same_combined o m n = refl

  -- one level
  module _ (go here : Tree → Left) (deeper : (t : Tree) → go t ≡ here t) where
    abbrev all_deeper : go ≡ here
    all_deeper = λ i t. deeper t i

    same_node : (t : Tree) → node over go t ≡ node s here t
    same_node (var x) = same_variable x
    same_node (binary o a b) =
        λ i. on_value (deeper a i)
        (λ m. on_value (deeper b i) (λ n. same_combined o m n i) (λ r. with_residual o (kind_of_value m) (kind_of_unknown r) (written m) r))
        (λ l. on_value (deeper b i) (λ n. with_residual o (kind_of_unknown l) (kind_of_value n) l (written n)) (λ r. with_residual o (kind_of_unknown l) (kind_of_unknown r) l r))
    same_node (get_attr t a) = λ i. on_value (deeper t i) (λ m. same_attribute a m i) (get_of_residual (all_deeper i) a)
    same_node (has_attr t a) = λ i. on_value (deeper t i) (λ m. same_test a m i) (has_of_residual a)
    same_node (has_path t a bs) = λ i. on_value (deeper t i) (λ m. same_path a bs m i) (λ r. residual (path_test r a bs))
    same_node t = λ i. node s (all_deeper i) t

  same_evaluated : (n : ℕ) (t : Tree) → evaluated over n t ≡ evaluated s n t
  same_evaluated zero t = refl
  same_evaluated (suc n) t = same_node (evaluated over n) (evaluated s n) (same_evaluated n) t

module _ (s : Scope) (store : Uid → Found Made) (alike : (u : Uid) → FoundAlike (store u) (s.store u)) (n : ℕ) where
  abbrev on_other : Scope
  on_other = record s { store = store }

  same_verdict : (p : Policy) → verdict on_other n p ≡ verdict s n p
  same_verdict p = λ i. on_value (same_evaluated (with_bindings s p.bindings) store alike n (condition p) i) truth_wanted (λ r. residual (slots_bound (binding_of p.bindings) r))

  pub same_response : (ps : List Policy) → response_of on_other n ps ≡ response_of s n ps
  same_response ps =
      λ i. record {
        true_permits = group permit (λ p. if_true p (same_verdict p i)) ps;
        false_permits = group permit (λ p. if_false p (same_verdict p i)) ps;
        residual_permits = group permit (λ p. if_residual p (same_verdict p i)) ps;
        true_forbids = group forbid (λ p. if_true p (same_verdict p i)) ps;
        false_forbids = group forbid (λ p. if_false p (same_verdict p i)) ps;
        residual_forbids = group forbid (λ p. if_residual p (same_verdict p i)) ps;
        errors = filter_map (λ p. if_stopped p (same_verdict p i)) ps;
        request = request_of s;
      }

-- What is owed: where what is known gives an expression an outcome, and its nesting is within the limit, that outcome is left.
use Rattle.std.proofs.Common.{◌≡◌, ℕ, zero, suc, ◌≤◌, max, true, false, [], ◌∷◌, refl, sym, ap, subst, arith, zip}
use Rattle.std.proofs.Math.Nat.{le-max_left, le-max_right}
use Rattle.std.specs.Prelude.{Option, Some, None, map, option_map}
use Rattle.cedar_expr_model.specs.Name.{Text}
use Rattle.cedar_expr_model.specs.Uid.{Uid}
use Rattle.cedar_expr_model.specs.Value.{truth, V, set_of, record_of, field}
use Rattle.cedar_expr_model.specs.Canonical.{set_made}
use Rattle.cedar_expr_model.specs.Builder.{conjunction, disjunction, trees, tree_fields}
use Rattle.cedar_expr_model.specs.Tree.{CoreType, Tree, lit, var, slot, unknown, choice, both, either, unary, binary, call, get_attr, has_attr, has_path, like, is_type, set_literal, record_literal, Trees, no_trees, tree, TreeFields, no_tree_fields, tree_field, Var, principal, action, resource, context, nesting, nestings, field_nestings}
use Rattle.cedar_expr_model.specs.Made.{made_prim, made_set, made_record, bare, bare_fields}
use Rattle.cedar_expr_model.specs.Table.{signature_of}
use Rattle.cedar_store_model.specs.Outcome.{Res, val, bind}
use Rattle.cedar_store_model.proofs.Named.{bound_value, known_uid}
use Rattle.cedar_store_model.specs.Operators.{says, applied, like_pattern, of_type, called}
use Rattle.cedar_store_model.specs.Reads.{attribute_read, attribute_tested}
use Rattle.cedar_store_model.specs.Meaning.{variable, combined, slot_value, outcome_of, outcomes_of, field_outcomes_of, path_tested}
use Rattle.cedar_store_model.proofs.Meaning.{means_outcome}
use Rattle.cedar_evaluator_model.specs.Scope.{Scope, Entry, uid, unknown_uid, Context, closed, residual_fields, unknown_context, Left, value_left}
use Rattle.cedar_evaluator_model.specs.OfLaws.Calls.{Agrees}
use Rattle.cedar_evaluator_model.specs.Steps.{truth_left, left_of, combined_left, attribute_of, test_of, path_of, called_left, made_members}
use Rattle.cedar_evaluator_model.specs.Evaluation.{entry_left, context_left, variable_left, pieces_of, node, evaluated}
use Rattle.cedar_evaluator_model.specs.Known.{known_entry, known_context, known_world}
use Rattle.cedar_evaluator_model.specs.Completion.{Fits, FitsAnnotations}
use Rattle.cedar_evaluator_model.specs.OfLaws.Standing.{IsOutcome, LeavesUnbound, Owed}
use Rattle.cedar_evaluator_model.proofs.Given.{Given, given_value, given_bind, given_picks, given_truth, given_literal, literal_applied, literal_like, literal_type}
use Rattle.cedar_evaluator_model.proofs.GivenReads.{given_mapped, given_attribute, given_test, given_path, given_combined, given_call}
use Rattle.cedar_evaluator_model.proofs.GivenLists.{bare_members, GivenAs, given_from, given_more}
use Rattle.cedar_evaluator_model.proofs.Named.{field_names, field_trees, fields_named, FitsIn, FitsAmong, FitsInFields, fits_in, slot_left}
use Rattle.cedar_expr_model.specs.Parts.{listed}

-- variables and slots
given_entry : (n : Text) (e : Entry) → Given (known_uid (known_entry e)) (entry_left n e)
given_entry n (uid u) = given_value (made_prim _)
given_entry n (unknown_uid k) = tt

given_context : (c : Context) → Given (bound_value (known_context c)) (context_left c)
given_context (closed fs) = given_value (made_record fs)
given_context (residual_fields fs) = tt
given_context unknown_context = tt

pub given_variable : (s : Scope) (x : Var) → Given (variable (known_world s) x) (variable_left s x)
given_variable s principal = given_entry _ s.principal
given_variable s action = given_entry _ s.action
given_variable s resource = given_entry _ s.resource
given_variable s context = given_context s.context

pub given_slot : (o : Option Uid) → Given (Some (slot_value o)) (slot_left o)
given_slot None = refl
given_slot (Some u) = given_value (made_prim _)

-- depths of children
pub left_within : (a b n : ℕ) → max a b ≤ n → a ≤ n
left_within a b n h = let k = le-max_left a b in omega (arith, h, k)

pub right_within : (a b n : ℕ) → max a b ≤ n → b ≤ n
right_within a b n h = let k = le-max_right a b in omega (arith, h, k)

pub less_one : (a n : ℕ) → suc a ≤ suc n → a ≤ n
less_one a n h = omega (arith, h)

-- one level, where the outcomes of what is a level deeper are given
module _ (s : Scope) (agrees : Agrees s) (unbound : LeavesUnbound s) (n : ℕ) (go : Tree → Left) (deeper : (t : Tree) → nesting t ≤ n → FitsIn (known_world s) t → Given (outcome_of (known_world s) t) (go t)) where
  given_all : (ts : Trees) → nestings ts ≤ n → FitsAmong (known_world s) ts → GivenAs (map bare) (outcomes_of (known_world s) ts) (pieces_of go (listed ts))
  given_all no_trees d f = ([], refl, refl)
  given_all (tree t ts) d f =
      let a = nesting t in
      let b = nestings ts in
      given_more (map bare) (map bare) (λ v vs. v ∷ vs) (λ m ms. refl) (outcome_of (known_world s) t) (go t) (outcomes_of (known_world s) ts) (pieces_of go (listed ts))
      (deeper t (left_within a b n d) f.0) (given_all ts (right_within a b n d) f.1)

  given_fields : (fs : TreeFields) → field_nestings fs ≤ n → FitsInFields (known_world s) fs → GivenAs (λ ms. bare_fields (fields_named (field_names fs) ms)) (field_outcomes_of (known_world s) fs) (pieces_of go (field_trees fs))
  given_fields no_tree_fields d f = ([], refl, refl)
  given_fields (tree_field x t fs) d f =
      let a = nesting t in
      let b = field_nestings fs in
      given_more (λ ms. bare_fields (fields_named (field_names fs) ms)) (λ ms. bare_fields (fields_named (x ∷ field_names fs) ms)) (λ v vs. field x v vs) (λ m ms. refl) (outcome_of (known_world s) t) (go t) (field_outcomes_of (known_world s) fs) (pieces_of go (field_trees fs))
      (deeper t (left_within a b n d) f.0) (given_fields fs (right_within a b n d) f.1)

  given_child : (t : Tree) → suc (nesting t) ≤ suc n → FitsIn (known_world s) t → Given (outcome_of (known_world s) t) (go t)
  given_child t d f = deeper t (less_one (nesting t) n d) f

  pub given_node : (t : Tree) → nesting t ≤ suc n → FitsIn (known_world s) t → Given (outcome_of (known_world s) t) (node s go t)
  given_node (lit p) d f = given_value (made_prim p)
  given_node (var x) d f = given_variable s x
  given_node (slot x) d f = given_slot (s.slots x)
  given_node (unknown x a) d f = given_mapped x a (s.values x) f
  given_node (choice t a b) d f =
      let k = less_one _ n d in
      let r = right_within (nesting t) _ n k in
      given_bind _ (go t) _ _ _ (deeper t (left_within (nesting t) _ n k) f.0) (given_picks _ _ (go a) (go b) (deeper a (left_within (nesting a) (nesting b) n r) f.1) (deeper b (right_within (nesting a) (nesting b) n r) f.2))
  given_node (both a b) d f =
      let k = less_one _ n d in
      given_bind _ (go a) _ _ _ (deeper a (left_within (nesting a) (nesting b) n k) f.0)
      (given_picks _ (Some (says false)) _ (truth_left false) (given_truth conjunction true _ (go b) (deeper b (right_within (nesting a) (nesting b) n k) f.1)) (given_value (made_prim (truth false))))
  given_node (either a b) d f =
      let k = less_one _ n d in
      given_bind _ (go a) _ _ _ (deeper a (left_within (nesting a) (nesting b) n k) f.0)
      (given_picks (Some (says true)) _ (truth_left true) _ (given_value (made_prim (truth true))) (given_truth disjunction false _ (go b) (deeper b (right_within (nesting a) (nesting b) n k) f.1)))
  given_node (unary o a) d f = given_bind _ (go a) (λ v. Some (applied o v)) (λ m. left_of (applied o (bare m))) _ (given_child a d f) (λ m. given_literal (applied o (bare m)) (literal_applied o (bare m)))
  given_node (binary o a b) d f =
      let k = less_one _ n d in
      let r = deeper b (right_within (nesting a) (nesting b) n k) f.1 in
      given_bind _ (go a) (λ v. bind (outcome_of (known_world s) b) (combined (known_world s) o v)) _ _ (deeper a (left_within (nesting a) (nesting b) n k) f.0)
      (λ m. given_bind (outcome_of (known_world s) b) (go b) (combined (known_world s) o (bare m)) (combined_left s o m) _ r (λ x. given_combined s o m x))
  given_node (call g ts) d f = given_from (map bare) (outcomes_of (known_world s) ts) (pieces_of go (listed ts)) (called s.table (known_world s).unknowns g) (called_left s g) (λ us. call g (trees us)) (given_all ts (less_one _ n d) f) (λ ms. given_call s agrees unbound g ms (signature_of s.table g) refl)
  given_node (get_attr t a) d f = given_bind _ (go t) (attribute_read (known_world s) a) (attribute_of s a) _ (given_child t d f) (λ m. given_attribute s a m)
  given_node (has_attr t a) d f = given_bind _ (go t) (attribute_tested (known_world s) a) (test_of s a) _ (given_child t d f) (λ m. given_test s a m)
  given_node (has_path t a bs) d f = given_bind _ (go t) (path_tested (known_world s) a bs) (path_of s a bs) _ (given_child t d f) (λ m. given_path s a bs m)
  given_node (like t p) d f = given_bind _ (go t) (λ v. Some (like_pattern p v)) (λ m. left_of (like_pattern p (bare m))) _ (given_child t d f) (λ m. given_literal (like_pattern p (bare m)) (literal_like p (bare m)))
  given_node (is_type t k) d f = given_bind _ (go t) (λ v. Some (of_type k v)) (λ m. left_of (of_type k (bare m))) _ (given_child t d f) (λ m. given_literal (of_type k (bare m)) (literal_type k (bare m)))
  given_node (set_literal ts) d f =
      given_from (map bare) (outcomes_of (known_world s) ts) (pieces_of go (listed ts)) (λ vs. Some (val (set_made vs))) (λ ms. value_left (made_set (made_members ms))) (λ us. set_literal (trees us)) (given_all ts (less_one _ n d) f)
      (λ ms. (made_set (made_members ms), refl, ap set_of (bare_members ms)))
  given_node (record_literal fs) d f =
      given_from (λ ms. bare_fields (fields_named (field_names fs) ms)) (field_outcomes_of (known_world s) fs) (pieces_of go (field_trees fs)) (λ vs. Some (val (record_of vs))) (λ ms. value_left (made_record (fields_named (field_names fs) ms))) (λ ts. record_literal (tree_fields (zip (field_names fs) ts))) (given_fields fs (less_one _ n d) f)
      (λ ms. given_value (made_record (fields_named (field_names fs) ms)))

pub nested : (t : Tree) → nesting t ≤ 0 → ⊥
nested (lit p) h = omega (arith, h)
nested (var p) h = omega (arith, h)
nested (slot p) h = omega (arith, h)
nested (unknown p a) h = omega (arith, h)
nested (choice t a b) h = omega (arith, h)
nested (both a b) h = omega (arith, h)
nested (either a b) h = omega (arith, h)
nested (unary o a) h = omega (arith, h)
nested (binary o a b) h = omega (arith, h)
nested (call g ts) h = omega (arith, h)
nested (get_attr t a) h = omega (arith, h)
nested (has_attr t a) h = omega (arith, h)
nested (has_path t a bs) h = omega (arith, h)
nested (like t p) h = omega (arith, h)
nested (is_type t k) h = omega (arith, h)
nested (set_literal ts) h = omega (arith, h)
nested (record_literal fs) h = omega (arith, h)

pub given : (s : Scope) → Agrees s → LeavesUnbound s → (n : ℕ) (t : Tree) → nesting t ≤ n → FitsIn (known_world s) t → Given (outcome_of (known_world s) t) (evaluated s n t)
given s agrees unbound zero t d f = absurd (nested t d)
given s agrees unbound (suc n) t d f = given_node s agrees unbound n (evaluated s n) (given s agrees unbound n) t d f

given_outcome : (o : Option (Res V)) (l : Left) (r : Res V) → o ≡ Some r → Given o l → IsOutcome r l
given_outcome o l r e h = subst (λ x. Given x l) e h

pub owed : (s : Scope) → Agrees s → LeavesUnbound s → (n : ℕ) (t : Tree) → FitsAnnotations (known_world s) t → Owed s n t
owed s agrees unbound n t f d r m = given_outcome (outcome_of (known_world s) t) (evaluated s n t) r (means_outcome (known_world s) t r m) (given s agrees unbound n t d (fits_in (known_world s) t f))

-- with no value for any unknown annotations fit, and calls leave what is unbound
each_unbound : (s : Scope) → ((n : Text) → s.values n ≡ None) → (n : Text) (a : Option CoreType) → Fits a ((known_world s).unknowns n)
each_unbound s h n a = subst (λ o. Fits a (option_map bare o)) (sym (h n)) tt

pub owed_without_values : (s : Scope) → Agrees s → ((n : Text) → s.values n ≡ None) → (n : ℕ) (t : Tree) → Owed s n t
owed_without_values s agrees h n t = owed s agrees (λ f ms x k e. h x) n t (λ u c. each_unbound s h u.name u.annotation)

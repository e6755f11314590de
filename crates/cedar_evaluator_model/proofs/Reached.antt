-- At every limit: where what is known gives an expression an outcome, that outcome is left, or the limit is met.
use Rattle.std.proofs.Common.{◌≡◌, ℕ, zero, suc, Bool, true, false, List, [], ◌∷◌, refl, sym, ap, ◌∙◌, subst, ◌⊎◌, inl, inr, ⊎_elim, zip}
use Rattle.std.specs.Prelude.{Option, Some, None, map}
use Rattle.cedar_expr_model.specs.Value.{truth, V, set_of, record_of, field}
use Rattle.cedar_expr_model.specs.Canonical.{set_made}
use Rattle.cedar_expr_model.specs.Builder.{conjunction, disjunction, trees, tree_fields}
use Rattle.cedar_expr_model.specs.Tree.{Tree, lit, var, slot, unknown, choice, both, either, unary, binary, call, get_attr, has_attr, has_path, like, is_type, set_literal, record_literal, Trees, no_trees, tree, TreeFields, no_tree_fields, tree_field}
use Rattle.cedar_expr_model.specs.Made.{Made, made_prim, made_set, made_record, bare, bare_fields}
use Rattle.cedar_expr_model.specs.Table.{signature_of}
use Rattle.cedar_store_model.specs.Outcome.{Res, val, err, bind}
use Rattle.cedar_store_model.specs.Operators.{says, applied, like_pattern, of_type, called}
use Rattle.cedar_store_model.specs.Reads.{attribute_read, attribute_tested}
use Rattle.cedar_store_model.specs.Meaning.{Means, combined, picked, truth_asked, outcome_of, outcomes_of, field_outcomes_of, path_tested}
use Rattle.cedar_store_model.proofs.Meaning.{means_outcome}
use Rattle.cedar_evaluator_model.specs.Scope.{Scope, limit, Left, value_left, stopped}
use Rattle.cedar_evaluator_model.specs.OfLaws.Calls.{Agrees}
use Rattle.cedar_evaluator_model.specs.Steps.{truth_left, left_of, on_value, picks, truth_wanted, combined_left, attribute_of, test_of, path_of, called_left, made_members, Pieces, halted, with_piece, from_pieces}
use Rattle.cedar_evaluator_model.specs.Evaluation.{right_left, pieces_of, node, evaluated}
use Rattle.cedar_evaluator_model.specs.Known.{known_world}
use Rattle.cedar_evaluator_model.specs.Completion.{FitsAnnotations}
use Rattle.cedar_evaluator_model.specs.OfLaws.Standing.{IsOutcome, LeavesUnbound, NoLimit}
use Rattle.cedar_evaluator_model.proofs.Given.{Given, given_value, given_asked, given_literal, literal_applied, literal_like, literal_type}
use Rattle.cedar_evaluator_model.proofs.GivenReads.{given_mapped, given_attribute, given_test, given_path, given_combined, given_call}
use Rattle.cedar_evaluator_model.proofs.GivenLists.{bare_members, GivenAs, given_from, given_more}
use Rattle.cedar_evaluator_model.proofs.Owed.{given_variable, given_slot}
use Rattle.cedar_evaluator_model.proofs.Named.{field_names, field_trees, fields_named, FitsIn, FitsAmong, FitsInFields, fits_in}
use Rattle.cedar_expr_model.specs.Parts.{listed}

-- the limit is met, or the outcome is left, where there is one
abbrev pub Reached : Option (Res V) → Left → Type 0
Reached o l = (l ≡ stopped limit) ⊎ Given o l

reached_bind : (o : Option (Res V)) (l : Left) (f : V → Option (Res V)) (next : Made → Left) (other : Tree → Left) → Reached o l → ((m : Made) → Reached (f (bare m)) (next m)) → Reached (bind o f) (on_value l next other)
reached_bind o l f next other (inl e) n = inl (ap (λ x. on_value x next other) e)
reached_bind None l f next other (inr h) n = inr tt
reached_bind (Some (val v)) l f next other (inr h) n =
    let k : Reached (f v) (next h.0) = subst (λ x. Reached (f x) (next h.0)) h.2 (n h.0) in
    subst (λ x. Reached (f v) (on_value x next other)) (sym h.1) k
reached_bind (Some (err e)) l f next other (inr h) n = inr (ap (λ x. on_value x next other) h)

reached_picks : (a b : Option (Res V)) (l r : Left) → Reached a l → Reached b r → (m : Made) → Reached (picked a b (bare m)) (picks l r m)
reached_picks a b l r h k (made_prim (truth true)) = h
reached_picks a b l r h k (made_prim (truth false)) = k
reached_picks a b l r h k m = inr refl

reached_truth : (join : Tree → Tree → Tree) (b : Bool) (o : Option (Res V)) (l : Left) → Reached o l → Reached (bind o (λ v. Some (truth_asked v))) (right_left join b l)
reached_truth join b o l h = reached_bind o l (λ v. Some (truth_asked v)) truth_wanted _ h (λ m. inr (given_asked m))

-- The limit was met in the pieces of several expressions, or the pieces are as their outcome is, by this view of the values.
abbrev ReachedAs : {A : Type 0} → (List Made → A) → Option (Res A) → Pieces → Type 0
ReachedAs view o ps = (ps ≡ halted limit) ⊎ GivenAs view o ps

reached_from : {A : Type 0} (view : List Made → A) (o : Option (Res A)) (ps : Pieces) (f : A → Option (Res V)) (next : List Made → Left) (rebuilt : List Tree → Tree) → ReachedAs view o ps → ((ms : List Made) → Given (f (view ms)) (next ms)) → Reached (bind o f) (from_pieces next rebuilt ps)
reached_from view o ps f next rebuilt (inl e) n = inl (ap (from_pieces next rebuilt) e)
reached_from view o ps f next rebuilt (inr h) n = inr (given_from view o ps f next rebuilt h n)

-- the limit is met after a value
halted_after : (m : Made) (ps : Pieces) → ps ≡ halted limit → with_piece (value_left m) ps ≡ halted limit
halted_after m ps e = ap (with_piece (value_left m)) e

reached_more : {A : Type 0} (view wider : List Made → A) (joined : V → A → A) → ((m : Made) (ms : List Made) → wider (m ∷ ms) ≡ joined (bare m) (view ms)) → (o : Option (Res V)) (l : Left) (os : Option (Res A)) (ps : Pieces) → Reached o l → ReachedAs view os ps → ReachedAs wider (bind o (λ v. bind os (λ x. Some (val (joined v x))))) (with_piece l ps)
reached_more view wider joined step o l os ps (inl e) k = inl (ap (λ x. with_piece x ps) e)
reached_more view wider joined step o l os ps (inr h) (inr k) = inr (given_more view wider joined step o l os ps h k)
reached_more view wider joined step None l os ps (inr h) (inl e) = inr tt
reached_more view wider joined step (Some (val v)) l os ps (inr h) (inl e) = inl (ap (λ x. with_piece x ps) h.1 ∙ halted_after h.0 ps e)
reached_more view wider joined step (Some (err f)) l os ps (inr h) (inl e) = inr (ap (λ x. with_piece x ps) h)

-- one level
module _ (s : Scope) (agrees : Agrees s) (unbound : LeavesUnbound s) (go : Tree → Left) (deeper : (t : Tree) → FitsIn (known_world s) t → Reached (outcome_of (known_world s) t) (go t)) where
  reached_all : (ts : Trees) → FitsAmong (known_world s) ts → ReachedAs (map bare) (outcomes_of (known_world s) ts) (pieces_of go (listed ts))
  reached_all no_trees f = inr ([], refl, refl)
  reached_all (tree t ts) f = reached_more (map bare) (map bare) (λ v vs. v ∷ vs) (λ m ms. refl) (outcome_of (known_world s) t) (go t) (outcomes_of (known_world s) ts) (pieces_of go (listed ts)) (deeper t f.0) (reached_all ts f.1)

  reached_fields : (fs : TreeFields) → FitsInFields (known_world s) fs → ReachedAs (λ ms. bare_fields (fields_named (field_names fs) ms)) (field_outcomes_of (known_world s) fs) (pieces_of go (field_trees fs))
  reached_fields no_tree_fields f = inr ([], refl, refl)
  reached_fields (tree_field x t fs) f =
      reached_more (λ ms. bare_fields (fields_named (field_names fs) ms)) (λ ms. bare_fields (fields_named (x ∷ field_names fs) ms)) (λ v vs. field x v vs) (λ m ms. refl) (outcome_of (known_world s) t) (go t) (field_outcomes_of (known_world s) fs) (pieces_of go (field_trees fs))
      (deeper t f.0) (reached_fields fs f.1)

  reached_node : (t : Tree) → FitsIn (known_world s) t → Reached (outcome_of (known_world s) t) (node s go t)
  reached_node (lit p) f = inr (given_value (made_prim p))
  reached_node (var x) f = inr (given_variable s x)
  reached_node (slot x) f = inr (given_slot (s.slots x))
  reached_node (unknown x a) f = inr (given_mapped x a (s.values x) f)
  reached_node (choice t a b) f = reached_bind _ (go t) _ _ _ (deeper t f.0) (reached_picks _ _ (go a) (go b) (deeper a f.1) (deeper b f.2))
  reached_node (both a b) f =
      reached_bind _ (go a) _ _ _ (deeper a f.0)
      (reached_picks _ (Some (says false)) _ (truth_left false) (reached_truth conjunction true _ (go b) (deeper b f.1)) (inr (given_value (made_prim (truth false)))))
  reached_node (either a b) f =
      reached_bind _ (go a) _ _ _ (deeper a f.0)
      (reached_picks (Some (says true)) _ (truth_left true) _ (inr (given_value (made_prim (truth true)))) (reached_truth disjunction false _ (go b) (deeper b f.1)))
  reached_node (unary o a) f = reached_bind _ (go a) (λ v. Some (applied o v)) (λ m. left_of (applied o (bare m))) _ (deeper a f) (λ m. inr (given_literal (applied o (bare m)) (literal_applied o (bare m))))
  reached_node (binary o a b) f =
      let r = deeper b f.1 in
      reached_bind _ (go a) (λ v. bind (outcome_of (known_world s) b) (combined (known_world s) o v)) _ _ (deeper a f.0)
      (λ m. reached_bind (outcome_of (known_world s) b) (go b) (combined (known_world s) o (bare m)) (combined_left s o m) _ r (λ x. inr (given_combined s o m x)))
  reached_node (call g ts) f = reached_from (map bare) (outcomes_of (known_world s) ts) (pieces_of go (listed ts)) (called s.table (known_world s).unknowns g) (called_left s g) (λ us. call g (trees us)) (reached_all ts f) (λ ms. given_call s agrees unbound g ms (signature_of s.table g) refl)
  reached_node (get_attr t a) f = reached_bind _ (go t) (attribute_read (known_world s) a) (attribute_of s a) _ (deeper t f) (λ m. inr (given_attribute s a m))
  reached_node (has_attr t a) f = reached_bind _ (go t) (attribute_tested (known_world s) a) (test_of s a) _ (deeper t f) (λ m. inr (given_test s a m))
  reached_node (has_path t a bs) f = reached_bind _ (go t) (path_tested (known_world s) a bs) (path_of s a bs) _ (deeper t f) (λ m. inr (given_path s a bs m))
  reached_node (like t p) f = reached_bind _ (go t) (λ v. Some (like_pattern p v)) (λ m. left_of (like_pattern p (bare m))) _ (deeper t f) (λ m. inr (given_literal (like_pattern p (bare m)) (literal_like p (bare m))))
  reached_node (is_type t k) f = reached_bind _ (go t) (λ v. Some (of_type k v)) (λ m. left_of (of_type k (bare m))) _ (deeper t f) (λ m. inr (given_literal (of_type k (bare m)) (literal_type k (bare m))))
  reached_node (set_literal ts) f =
      reached_from (map bare) (outcomes_of (known_world s) ts) (pieces_of go (listed ts)) (λ vs. Some (val (set_made vs))) (λ ms. value_left (made_set (made_members ms))) (λ us. set_literal (trees us)) (reached_all ts f)
      (λ ms. (made_set (made_members ms), refl, ap set_of (bare_members ms)))
  reached_node (record_literal fs) f =
      reached_from (λ ms. bare_fields (fields_named (field_names fs) ms)) (field_outcomes_of (known_world s) fs) (pieces_of go (field_trees fs)) (λ vs. Some (val (record_of vs))) (λ ms. value_left (made_record (fields_named (field_names fs) ms))) (λ ts. record_literal (tree_fields (zip (field_names fs) ts))) (reached_fields fs f)
      (λ ms. given_value (made_record (fields_named (field_names fs) ms)))

pub reached : (s : Scope) → Agrees s → LeavesUnbound s → (n : ℕ) (t : Tree) → FitsIn (known_world s) t → Reached (outcome_of (known_world s) t) (evaluated s n t)
reached s agrees unbound zero t f = inl refl
reached s agrees unbound (suc n) t f = reached_node s agrees unbound (evaluated s n) (reached s agrees unbound n) t f

reached_outcome : (o : Option (Res V)) (l : Left) (r : Res V) → o ≡ Some r → Reached o l → (l ≡ stopped limit) ⊎ IsOutcome r l
reached_outcome o l r e (inl h) = inl h
reached_outcome o l r e (inr h) = inr (subst (λ x. Given x l) e h)

pub outcome_or_limit : (s : Scope) → Agrees s → LeavesUnbound s → (n : ℕ) (t : Tree) → FitsAnnotations (known_world s) t → (r : Res V) → Means (known_world s) t r → (evaluated s n t ≡ stopped limit) ⊎ IsOutcome r (evaluated s n t)
outcome_or_limit s agrees unbound n t f r m = reached_outcome (outcome_of (known_world s) t) (evaluated s n t) r (means_outcome (known_world s) t r m) (reached s agrees unbound n t (fits_in (known_world s) t f))

pub owed_unless_limit : (s : Scope) → Agrees s → LeavesUnbound s → (n : ℕ) (t : Tree) → FitsAnnotations (known_world s) t → NoLimit s n t → (r : Res V) → Means (known_world s) t r → IsOutcome r (evaluated s n t)
owed_unless_limit s agrees unbound n t f k r m = ⊎_elim (λ e. absurd (k e)) (λ h. h) (outcome_or_limit s agrees unbound n t f r m)

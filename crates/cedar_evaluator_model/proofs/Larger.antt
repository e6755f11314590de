-- Where what is known gives an expression an outcome and the limit isn't met, every larger limit leaves the same.
use Rattle.std.proofs.Common.{◌≡◌, ℕ, zero, suc, ◌+◌, ◌-◌, ◌≤◌, Bool, true, false, List, ◌∷◌, refl, sym, ap, ◌∙◌, inl, inr, arith, zip}
use Rattle.std.specs.Prelude.{Option, Some, None}
use Rattle.cedar_expr_model.specs.Value.{truth, V, field}
use Rattle.cedar_expr_model.specs.Tree.{Tree, choice, both, either, unary, binary, call, get_attr, has_attr, has_path, like, is_type, set_literal, record_literal, Trees, no_trees, tree, TreeFields, no_tree_fields, tree_field}
use Rattle.cedar_expr_model.specs.Builder.{conjunction, disjunction, trees, tree_fields}
use Rattle.cedar_expr_model.specs.Made.{Made, made_prim, made_set, made_record, bare}
use Rattle.cedar_store_model.specs.Outcome.{Res, val, err, bind}
use Rattle.cedar_store_model.specs.Operators.{says}
use Rattle.cedar_store_model.specs.Meaning.{picked, combined, truth_asked, outcome_of, outcomes_of, field_outcomes_of}
use Rattle.cedar_store_model.specs.Laws.{IsGrounded}
use Rattle.cedar_store_model.proofs.Meaning.{means_outcome}
use Rattle.cedar_evaluator_model.specs.Scope.{Scope, limit, Left, value_left, stopped}
use Rattle.cedar_evaluator_model.specs.OfLaws.Calls.{Agrees}
use Rattle.cedar_evaluator_model.specs.Steps.{truth_left, on_value, picks, truth_wanted, combined_left, called_left, made_members, Pieces, halted, with_piece, from_pieces}
use Rattle.cedar_evaluator_model.specs.Evaluation.{right_left, pieces_of, node, evaluated}
use Rattle.cedar_evaluator_model.specs.Known.{known_world}
use Rattle.cedar_evaluator_model.specs.Completion.{FitsAnnotations}
use Rattle.cedar_evaluator_model.specs.OfLaws.Standing.{LeavesUnbound, NoLimit}
use Rattle.cedar_evaluator_model.proofs.Reached.{Reached, reached}
use Rattle.cedar_evaluator_model.proofs.Named.{field_names, field_trees, fields_named, FitsIn, FitsAmong, FitsInFields, fits_in}
use Rattle.cedar_expr_model.specs.Parts.{listed}

-- where there is an outcome and the limit isn't met, the other is the same
abbrev Stays : Option (Res V) → Left → Left → Type 0
Stays o l l' = (r : Res V) → o ≡ Some r → (l ≡ stopped limit → ⊥) → l' ≡ l

stays_bind : (o : Option (Res V)) (l l' : Left) (f : V → Option (Res V)) (next next' : Made → Left) (other other' : Tree → Left) → Reached o l → Stays o l l' → ((m : Made) → Stays (f (bare m)) (next m) (next' m)) → Stays (bind o f) (on_value l next other) (on_value l' next' other')
stays_bind o l l' f next next' other other' (inl e) h n r q k = absurd (k (ap (λ x. on_value x next other) e))
stays_bind None l l' f next next' other other' (inr g) h n r q k = cc
stays_bind (Some (val v)) l l' f next next' other other' (inr g) h n r q k =
    let same : l' ≡ l = h (val v) refl (λ e. let c : value_left g.0 ≡ stopped limit = sym g.1 ∙ e in cc) in
    let out : on_value l next other ≡ next g.0 = ap (λ x. on_value x next other) g.1 in
    let step : next' g.0 ≡ next g.0 = n g.0 r (ap f g.2 ∙ q) (λ e. k (out ∙ e)) in
    ap (λ x. on_value x next' other') (same ∙ g.1) ∙ step ∙ sym out
stays_bind (Some (err e)) l l' f next next' other other' (inr g) h n r q k =
    let same : l' ≡ l = h (err e) refl (λ i. k (ap (λ x. on_value x next other) i)) in
    ap (λ x. on_value x next' other') (same ∙ g) ∙ sym (ap (λ x. on_value x next other) g)

stays_picks : (a b : Option (Res V)) (l l' r r' : Left) → Stays a l l' → Stays b r r' → (m : Made) → Stays (picked a b (bare m)) (picks l r m) (picks l' r' m)
stays_picks a b l l' r r' h k (made_prim (truth true)) = h
stays_picks a b l l' r r' h k (made_prim (truth false)) = k
stays_picks a b l l' r r' h k m = λ q e i. refl

stays_truth : (join : Tree → Tree → Tree) (b : Bool) (o : Option (Res V)) (l l' : Left) → Reached o l → Stays o l l' → Stays (bind o (λ v. Some (truth_asked v))) (right_left join b l) (right_left join b l')
stays_truth join b o l l' g h = stays_bind o l l' (λ v. Some (truth_asked v)) truth_wanted truth_wanted _ _ g h (λ m q e i. refl)

-- several
abbrev StaysAs : {A : Type 0} → Option (Res A) → Pieces → Pieces → Type 0
StaysAs {A} o ps ps' = (r : Res A) → o ≡ Some r → (ps ≡ halted limit → ⊥) → ps' ≡ ps

stays_rest : {A : Type 0} (joined : A → A) (m : Made) (os : Option (Res A)) (ps ps' : Pieces) → StaysAs os ps ps' → (r : Res A) → bind os (λ x. Some (val (joined x))) ≡ Some r → (with_piece (value_left m) ps ≡ halted limit → ⊥) → with_piece (value_left m) ps' ≡ with_piece (value_left m) ps
stays_rest joined m None ps ps' h r q k = cc
stays_rest joined m (Some x) ps ps' h r q k = ap (with_piece (value_left m)) (h x refl (λ e. k (ap (with_piece (value_left m)) e)))

stays_more : {A : Type 0} (joined : V → A → A) (o : Option (Res V)) (l l' : Left) (os : Option (Res A)) (ps ps' : Pieces) → Reached o l → Stays o l l' → StaysAs os ps ps' → StaysAs (bind o (λ v. bind os (λ x. Some (val (joined v x))))) (with_piece l ps) (with_piece l' ps')
stays_more joined o l l' os ps ps' (inl e) h n r q k = absurd (k (ap (λ x. with_piece x ps) e))
stays_more joined None l l' os ps ps' (inr g) h n r q k = cc
stays_more joined (Some (val v)) l l' os ps ps' (inr g) h n r q k =
    let same : l' ≡ l = h (val v) refl (λ e. let c : value_left g.0 ≡ stopped limit = sym g.1 ∙ e in cc) in
    let out : with_piece l ps ≡ with_piece (value_left g.0) ps = ap (λ x. with_piece x ps) g.1 in
    ap (λ x. with_piece x ps') (same ∙ g.1) ∙ stays_rest (joined v) g.0 os ps ps' n r q (λ e. k (out ∙ e)) ∙ sym out
stays_more joined (Some (err f)) l l' os ps ps' (inr g) h n r q k =
    let same : l' ≡ l = h (err f) refl (λ i. k (ap (λ x. with_piece x ps) i)) in
    ap (λ x. with_piece x ps') (same ∙ g) ∙ sym (ap (λ x. with_piece x ps) g)

stays_from : {A : Type 0} (o : Option (Res A)) (ps ps' : Pieces) (f : A → Option (Res V)) (next : List Made → Left) (rebuilt : List Tree → Tree) → StaysAs o ps ps' → Stays (bind o f) (from_pieces next rebuilt ps) (from_pieces next rebuilt ps')
stays_from None ps ps' f next rebuilt h r q k = cc
stays_from (Some x) ps ps' f next rebuilt h r q k = ap (from_pieces next rebuilt) (h x refl (λ e. k (ap (from_pieces next rebuilt) e)))

-- one level
module _ (s : Scope) (go go' : Tree → Left) (reaches : (t : Tree) → FitsIn (known_world s) t → Reached (outcome_of (known_world s) t) (go t)) (deeper : (t : Tree) → FitsIn (known_world s) t → Stays (outcome_of (known_world s) t) (go t) (go' t)) where
  stays_all : (ts : Trees) → FitsAmong (known_world s) ts → StaysAs (outcomes_of (known_world s) ts) (pieces_of go (listed ts)) (pieces_of go' (listed ts))
  stays_all no_trees f = λ r e k. refl
  stays_all (tree t ts) f = stays_more (λ v vs. v ∷ vs) (outcome_of (known_world s) t) (go t) (go' t) (outcomes_of (known_world s) ts) (pieces_of go (listed ts)) (pieces_of go' (listed ts)) (reaches t f.0) (deeper t f.0) (stays_all ts f.1)

  stays_fields : (fs : TreeFields) → FitsInFields (known_world s) fs → StaysAs (field_outcomes_of (known_world s) fs) (pieces_of go (field_trees fs)) (pieces_of go' (field_trees fs))
  stays_fields no_tree_fields f = λ r e k. refl
  stays_fields (tree_field x t fs) f = stays_more (λ v vs. field x v vs) (outcome_of (known_world s) t) (go t) (go' t) (field_outcomes_of (known_world s) fs) (pieces_of go (field_trees fs)) (pieces_of go' (field_trees fs)) (reaches t f.0) (deeper t f.0) (stays_fields fs f.1)

  stays_node : (t : Tree) → FitsIn (known_world s) t → Stays (outcome_of (known_world s) t) (node s go t) (node s go' t)
  stays_node (choice t a b) f = stays_bind _ (go t) (go' t) (picked (outcome_of (known_world s) a) (outcome_of (known_world s) b)) _ _ _ _ (reaches t f.0) (deeper t f.0) (stays_picks _ _ (go a) (go' a) (go b) (go' b) (deeper a f.1) (deeper b f.2))
  stays_node (both a b) f =
      stays_bind _ (go a) (go' a) (picked (bind (outcome_of (known_world s) b) (λ v. Some (truth_asked v))) (Some (says false))) _ _ _ _ (reaches a f.0) (deeper a f.0)
      (stays_picks _ (Some (says false)) _ _ (truth_left false) (truth_left false) (stays_truth conjunction true (outcome_of (known_world s) b) (go b) (go' b) (reaches b f.1) (deeper b f.1)) (λ r e k. refl))
  stays_node (either a b) f =
      stays_bind _ (go a) (go' a) (picked (Some (says true)) (bind (outcome_of (known_world s) b) (λ v. Some (truth_asked v)))) _ _ _ _ (reaches a f.0) (deeper a f.0)
      (stays_picks (Some (says true)) _ (truth_left true) (truth_left true) _ _ (λ r e k. refl) (stays_truth disjunction false (outcome_of (known_world s) b) (go b) (go' b) (reaches b f.1) (deeper b f.1)))
  stays_node (unary o a) f = stays_bind _ (go a) (go' a) _ _ _ _ _ (reaches a f) (deeper a f) (λ m r e k. refl)
  stays_node (binary o a b) f =
      let r = reaches b f.1 in
      let d = deeper b f.1 in
      stays_bind _ (go a) (go' a) (λ v. bind (outcome_of (known_world s) b) (combined (known_world s) o v)) _ _ _ _ (reaches a f.0) (deeper a f.0)
      (λ m. stays_bind (outcome_of (known_world s) b) (go b) (go' b) (combined (known_world s) o (bare m)) (combined_left s o m) (combined_left s o m) _ _ r d (λ x q e k. refl))
  stays_node (call g ts) f = stays_from (outcomes_of (known_world s) ts) (pieces_of go (listed ts)) (pieces_of go' (listed ts)) _ (called_left s g) (λ us. call g (trees us)) (stays_all ts f)
  stays_node (get_attr t a) f = stays_bind _ (go t) (go' t) _ _ _ _ _ (reaches t f) (deeper t f) (λ m r e k. refl)
  stays_node (has_attr t a) f = stays_bind _ (go t) (go' t) _ _ _ _ _ (reaches t f) (deeper t f) (λ m r e k. refl)
  stays_node (has_path t a bs) f = stays_bind _ (go t) (go' t) _ _ _ _ _ (reaches t f) (deeper t f) (λ m r e k. refl)
  stays_node (like t p) f = stays_bind _ (go t) (go' t) _ _ _ _ _ (reaches t f) (deeper t f) (λ m r e k. refl)
  stays_node (is_type t x) f = stays_bind _ (go t) (go' t) _ _ _ _ _ (reaches t f) (deeper t f) (λ m r e k. refl)
  stays_node (set_literal ts) f = stays_from (outcomes_of (known_world s) ts) (pieces_of go (listed ts)) (pieces_of go' (listed ts)) _ (λ ms. value_left (made_set (made_members ms))) (λ us. set_literal (trees us)) (stays_all ts f)
  stays_node (record_literal fs) f = stays_from (field_outcomes_of (known_world s) fs) (pieces_of go (field_trees fs)) (pieces_of go' (field_trees fs)) _ (λ ms. value_left (made_record (fields_named (field_names fs) ms))) (λ ts. record_literal (tree_fields (zip (field_names fs) ts))) (stays_fields fs f)
  stays_node t f = λ r e k. refl

stays : (s : Scope) → Agrees s → LeavesUnbound s → (n : ℕ) (t : Tree) → FitsIn (known_world s) t → Stays (outcome_of (known_world s) t) (evaluated s n t) (evaluated s (suc n) t)
stays s agrees unbound zero t f = λ r e k. absurd (k refl)
stays s agrees unbound (suc n) t f = stays_node s (evaluated s n) (evaluated s (suc n)) (reached s agrees unbound n) (stays s agrees unbound n) t f

-- one limit more, and then any
steps : (s : Scope) → Agrees s → LeavesUnbound s → (n : ℕ) (t : Tree) → FitsIn (known_world s) t → (r : Res V) → outcome_of (known_world s) t ≡ Some r → NoLimit s n t → (k : ℕ) → evaluated s (k + n) t ≡ evaluated s n t
steps s agrees unbound n t f r e h zero = ap (λ m. evaluated s m t) (omega arith)
steps s agrees unbound n t f r e h (suc k) =
    let before = steps s agrees unbound n t f r e h k in
    let more : evaluated s (suc (k + n)) t ≡ evaluated s (k + n) t = stays s agrees unbound (k + n) t f r e (λ i. h (sym before ∙ i)) in
    let count : suc k + n ≡ suc (k + n) = omega arith in
    ap (λ m. evaluated s m t) count ∙ more ∙ before

pub larger_limits_keep : (s : Scope) → Agrees s → LeavesUnbound s → (n m : ℕ) (t : Tree) → FitsAnnotations (known_world s) t → IsGrounded (known_world s) t → NoLimit s n t → n ≤ m → evaluated s m t ≡ evaluated s n t
larger_limits_keep s agrees unbound n m t f g h le =
    let count : m ≡ (m - n) + n = omega (arith, le) in
    ap (λ k. evaluated s k t) count ∙ steps s agrees unbound n t (fits_in (known_world s) t f) g.0 (means_outcome (known_world s) t g.0 g.1) h (m - n)

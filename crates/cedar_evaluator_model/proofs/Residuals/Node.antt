-- What evaluation leaves stands for the expression in every completion: one level, and then by the depth.
use Rattle.std.proofs.Common.{◌≡◌, ℕ, zero, suc, true, false, List, [], ◌∷◌, refl, sym, ap, ◌∙◌, subst}
use Rattle.std.specs.Prelude.{Option, Some, None, map, codes, zip, IsSome}
use Rattle.cedar_expr_model.specs.Name.{Text}
use Rattle.cedar_expr_model.specs.Uid.{Uid}
use Rattle.cedar_expr_model.specs.Value.{entity, V, record_of, field}
use Rattle.cedar_expr_model.specs.Canonical.{set_made}
use Rattle.cedar_expr_model.specs.Tree.{CoreType, entity_core, BinaryOp, Tree, lit, var, slot, unknown, choice, both, either, unary, binary, call, get_attr, has_attr, has_path, like, is_type, set_literal, record_literal, Trees, no_trees, tree, TreeFields, no_tree_fields, tree_field, Var, principal, action, resource, context}
use Rattle.cedar_expr_model.specs.Builder.{trees, tree_fields}
use Rattle.cedar_expr_model.specs.Parts.{listed}
use Rattle.cedar_expr_model.proofs.Gathering.{EachAmong, EachInFields}
use Rattle.cedar_expr_model.specs.Made.{Made, made_prim, made_set, made_record, bare, bare_fields, written}
use Rattle.cedar_store_model.specs.Outcome.{Res, val, err, bind}
use Rattle.cedar_store_model.specs.World.{World}
use Rattle.cedar_store_model.specs.Operators.{says, applied, like_pattern, of_type, called}
use Rattle.cedar_store_model.proofs.Named.{bound_value, known_uid}
use Rattle.cedar_store_model.specs.Reads.{attribute_read, attribute_tested}
use Rattle.cedar_store_model.specs.Meaning.{Means, variable, combined, slot_value, outcome_of, outcomes_of, field_outcomes_of, path_tested}
use Rattle.cedar_store_model.specs.Knowledge.{IsWhole}
use Rattle.cedar_store_model.specs.OfLaws.Extends.{Keeps}
use Rattle.cedar_store_model.proofs.Built.{conjunction_outcome, disjunction_outcome}
use Rattle.cedar_store_model.proofs.Known.{there}
use Rattle.cedar_store_model.proofs.Meaning.{means_outcome, outcome_means}
use Rattle.cedar_evaluator_model.specs.Scope.{Scope, Entry, uid, unknown_uid, Context, closed, residual_fields, unknown_context, Left, value_left, residual, stopped, fault, limit}
use Rattle.cedar_evaluator_model.specs.OfLaws.Calls.{Agrees}
use Rattle.cedar_evaluator_model.specs.Steps.{truth_left, on_value, best, kind_of_value, kind_of_unknown, with_residual, combined_left, attribute_of, test_of, path_of, called_left, made_members}
use Rattle.cedar_evaluator_model.specs.Evaluation.{entry_left, context_left, variable_left, get_of_residual, has_of_residual, binary_left, pieces_of, node, evaluated}
use Rattle.cedar_evaluator_model.specs.OfLaws.WellMade.{IsWellMade, IsContextMadeWell, AllMadeWell}
use Rattle.cedar_evaluator_model.specs.Completion.{Fits, FitsAnnotations}
use Rattle.cedar_evaluator_model.specs.OfLaws.Completing.{EntryMeans, ContextMeans, Completes}
use Rattle.cedar_evaluator_model.specs.OfLaws.Standing.{Errs, MeansLike, StandsFor, StandsInAll}
use Rattle.cedar_evaluator_model.proofs.Named.{field_names, field_trees, fields_named, FitsIn, FitsAmong, FitsInFields, fits_in, fits_annotations, slot_left, is_of_residual}
use Rattle.cedar_evaluator_model.proofs.Given.{literal_applied, literal_like, literal_type}
use Rattle.cedar_evaluator_model.proofs.Residuals.Stands.{Alike, IsNoValue, Stands, alike_same, alike_bind, stands_bind, stands_second, stands_picks, alike_picked, written_alike, written_fits, best_alike, best_fits, alike_asked, each_conjunction, each_disjunction, stands_and, stands_or, stands_literal}
use Rattle.cedar_evaluator_model.proofs.Residuals.Kinds.{value_kind, unknown_kind, stands_with, stands_is}
use Rattle.cedar_evaluator_model.proofs.Residuals.Fields.{stands_get, stands_has}
use Rattle.cedar_evaluator_model.proofs.Residuals.Reads.{stands_mapped, path_same, path_fits, values_well, stands_attribute, stands_test, stands_path, stands_combined}
use Rattle.cedar_evaluator_model.proofs.Residuals.Lists.{AllStand, no_pieces, all_more, all_from, stands_set, fields_well, stands_call}

-- variables and slots
entry_stands : (w : World) (n : Text) (e : Entry) (o : Option Uid) → EntryMeans w n e o → Stands w (known_uid o) (entry_left n e)
entry_stands w n (uid u) o h = subst (λ x. Stands w (known_uid x) (value_left (made_prim (entity u)))) (sym h) (refl, tt)
entry_stands w n (unknown_uid None) o h =
    let u = h.0 in
    subst (λ x. Stands w (known_uid x) (residual (unknown n None))) (sym h.1) (ap bound_value h.3, subst (Fits None) (sym h.3) tt)
entry_stands w n (unknown_uid (Some k)) o h =
    let u = h.0 in
    subst (λ x. Stands w (known_uid x) (residual (unknown n (Some (entity_core k))))) (sym h.1) (ap bound_value h.3, subst (Fits (Some (entity_core k))) (sym h.3) (ap entity_core (sym h.2)))

context_stands : (w : World) (c : Context) (o : Option V) → ContextMeans w c o → IsContextMadeWell w.table c → Stands w (bound_value o) (context_left c)
context_stands w (closed fs) o h g = subst (λ x. Stands w (bound_value x) (value_left (made_record fs))) (sym h) (refl, g)
context_stands w (residual_fields fs) o h g =
    let p = h.2 in
    subst (λ x. Stands w (bound_value x) (residual (record_literal fs))) (sym h.1) (means_outcome w (record_literal fs) (val h.0) (p.0 w.slots), fits_in w (record_literal fs) p.1)
context_stands w unknown_context o h g = subst (λ x. Stands w (bound_value x) (residual (unknown (codes "context") None))) (sym h.1) (ap bound_value h.2, subst (Fits None) (sym h.2) tt)

slot_stands : (w : World) (o : Option Uid) → Stands w (Some (slot_value o)) (slot_left o)
slot_stands w None = tt
slot_stands w (Some u) = (refl, tt)

variable_stands : (w : World) (s : Scope) → Completes w s → AllMadeWell s → (x : Var) → Stands w (variable w x) (variable_left s x)
variable_stands w s c g principal = entry_stands w _ s.principal w.principal c.principal
variable_stands w s c g action = entry_stands w _ s.action w.action c.action
variable_stands w s c g resource = entry_stands w _ s.resource w.resource c.resource
variable_stands w s c g context = context_stands w s.context w.context c.context (subst (λ x. IsContextMadeWell x s.context) (sym c.table) g.context)

-- two operands
module _ (w : World) (s : Scope) (complete : Completes w s) (well : AllMadeWell s) (c : BinaryOp) (o p : Option (Res V)) where
  after_value : (m : Made) (r : Left) → IsWellMade w.table m → Keeps o (Some (val (bare m))) → Stands w p r
      → Stands w (bind p (combined w c (bare m))) (on_value r (combined_left s c m) (λ b. with_residual c (kind_of_value m) (kind_of_unknown b) (written m) b))
  after_value m r g k h =
      stands_bind w p r (combined w c (bare m)) (combined_left s c m) _ h (λ n e i. stands_combined w s complete well c m n e)
      (λ b f a. stands_with w c (kind_of_value m) (kind_of_unknown b) (Some (val (bare m))) p (written m) b (written_alike w (Some (val (bare m))) m refl g) a (written_fits w m) f
      (value_kind m (Some (val (bare m))) refl) (unknown_kind w b p f a))

  after_residual : (a : Tree) (r : Left) → FitsIn w a → Alike o (outcome_of w a) → Stands w p r
      → Stands w (bind o (λ v. bind p (combined w c v)))
      (on_value r (λ n. with_residual c (kind_of_unknown a) (kind_of_value n) a (written n)) (λ b. with_residual c (kind_of_unknown a) (kind_of_unknown b) a b))
  after_residual a r f h g =
      stands_second w o p r (combined w c) _ _ g
      (λ n e k. stands_with w c (kind_of_unknown a) (kind_of_value n) o p a (written n) h (written_alike w p n k e) f (written_fits w n) (unknown_kind w a o f h) (value_kind n p k))
      (λ b e k. stands_with w c (kind_of_unknown a) (kind_of_unknown b) o p a b h k f e (unknown_kind w a o f h) (unknown_kind w b p e k))

  binary_stands : (l r : Left) → Stands w o l → Stands w p r → Stands w (bind o (λ v. bind p (combined w c v))) (binary_left s c l r)
  binary_stands l r h k = stands_bind w o l (λ v. bind p (combined w c v)) _ _ h (λ m g i. after_value m r g i k) (λ a f i. after_residual a r f i k)

-- what holds of the unknowns of expressions holds of them as fields
each_field_of : (P : Text → Option CoreType → Type 0) (as_ : List Text) (ts : List Tree) → EachAmong P (trees ts) → EachInFields P (tree_fields (zip as_ ts))
each_field_of P [] ts h = tt
each_field_of P (a ∷ as_) [] h = tt
each_field_of P (a ∷ as_) (t ∷ ts) h = (h.0, each_field_of P as_ ts h.1)

-- one level, where what is a level deeper stands
module _ (w : World) (s : Scope) (agrees : Agrees s) (complete : Completes w s) (well : AllMadeWell s) (go : Tree → Left)
    (deeper : (t : Tree) → FitsIn w t → Stands w (outcome_of w t) (go t)) where
  all_stand : (ts : Trees) → FitsAmong w ts → AllStand w (map bare) (λ us. outcomes_of w (trees us)) (outcomes_of w ts) (pieces_of go (listed ts))
  all_stand no_trees f = no_pieces w (map bare) (λ us. outcomes_of w (trees us)) refl
  all_stand (tree t ts) f =
      all_more w (map bare) (map bare) (λ us. outcomes_of w (trees us)) (λ us. outcomes_of w (trees us)) (λ v vs. v ∷ vs) (λ m ms. refl) (λ t ts. refl) (outcome_of w t) (go t) (outcomes_of w ts)
      (pieces_of go (listed ts)) (deeper t f.0) (all_stand ts f.1)

  fields_stand : (fs : TreeFields) → FitsInFields w fs
      → AllStand w (λ ms. bare_fields (fields_named (field_names fs) ms)) (λ ts. field_outcomes_of w (tree_fields (zip (field_names fs) ts))) (field_outcomes_of w fs) (pieces_of go (field_trees fs))
  fields_stand no_tree_fields f = no_pieces w (λ ms. bare_fields (fields_named [] ms)) (λ ts. field_outcomes_of w (tree_fields (zip [] ts))) refl
  fields_stand (tree_field a t fs) f =
      all_more w (λ ms. bare_fields (fields_named (field_names fs) ms)) (λ ms. bare_fields (fields_named (a ∷ field_names fs) ms)) (λ ts. field_outcomes_of w (tree_fields (zip (field_names fs) ts)))
      (λ ts. field_outcomes_of w (tree_fields (zip (a ∷ field_names fs) ts))) (λ v vs. field a v vs)
      (λ m ms. refl) (λ t ts. refl) (outcome_of w t) (go t) (field_outcomes_of w fs) (pieces_of go (field_trees fs)) (deeper t f.0) (fields_stand fs f.1)

  node_stands : (t : Tree) → FitsIn w t → Stands w (outcome_of w t) (node s go t)
  node_stands (lit p) f = (refl, tt)
  node_stands (var x) f = variable_stands w s complete well x
  node_stands (slot x) f = subst (λ o. Stands w (Some (slot_value o)) (slot_left (s.slots x))) (sym (complete.slots x)) (slot_stands w (s.slots x))
  node_stands (unknown n a) f = stands_mapped w n a (s.values n) (values_well w s complete well n) (complete.unknowns n) f
  node_stands (choice t a b) f =
      let l = deeper a f.1 in
      let r = deeper b f.2 in
      stands_bind w (outcome_of w t) (go t) _ _ _ (deeper t f.0) (λ m g k. stands_picks w (outcome_of w a) (outcome_of w b) (go a) (go b) l r m)
      (λ x e h. (
        alike_bind (outcome_of w t) (outcome_of w x) _ _ h
            (alike_picked (outcome_of w a) (outcome_of w (best a (go a))) (outcome_of w b) (outcome_of w (best b (go b))) (best_alike w a (go a) l) (best_alike w b (go b) r)),
        (e, best_fits w a (go a) l f.1, best_fits w b (go b) r f.2),
      ))
  node_stands (both a b) f =
      let r = deeper b f.1 in
      stands_bind w (outcome_of w a) (go a) _ _ _ (deeper a f.0) (λ m g k. stands_picks w _ (Some (says false)) _ (truth_left false) (stands_and w (outcome_of w b) (go b) r) (refl, tt) m)
      (λ x e h. (
        subst (Alike (outcome_of w (both a b))) (sym (conjunction_outcome w x (best b (go b))))
            (alike_bind (outcome_of w a) (outcome_of w x) _ _ h
            (alike_picked _ _ (Some (says false)) (Some (says false)) (alike_asked (outcome_of w b) (outcome_of w (best b (go b))) (best_alike w b (go b) r)) refl)),
        each_conjunction _ x (best b (go b)) e (best_fits w b (go b) r f.1),
      ))
  node_stands (either a b) f =
      let r = deeper b f.1 in
      stands_bind w (outcome_of w a) (go a) _ _ _ (deeper a f.0) (λ m g k. stands_picks w (Some (says true)) _ (truth_left true) _ (refl, tt) (stands_or w (outcome_of w b) (go b) r) m)
      (λ x e h. (
        subst (Alike (outcome_of w (either a b))) (sym (disjunction_outcome w x (best b (go b))))
            (alike_bind (outcome_of w a) (outcome_of w x) _ _ h
            (alike_picked (Some (says true)) (Some (says true)) _ _ refl (alike_asked (outcome_of w b) (outcome_of w (best b (go b))) (best_alike w b (go b) r)))),
        each_disjunction _ x (best b (go b)) e (best_fits w b (go b) r f.1),
      ))
  node_stands (unary o a) f =
      stands_bind w (outcome_of w a) (go a) (λ v. Some (applied o v)) _ _ (deeper a f) (λ m g k. stands_literal w (applied o (bare m)) (literal_applied o (bare m)))
      (λ x e h. (alike_bind (outcome_of w a) (outcome_of w x) (λ v. Some (applied o v)) (λ v. Some (applied o v)) h (λ v. alike_same (Some (applied o v))), e))
  node_stands (binary c a b) f = binary_stands w s complete well c (outcome_of w a) (outcome_of w b) (go a) (go b) (deeper a f.0) (deeper b f.1)
  node_stands (call g ts) f =
      all_from w (map bare) (λ us. outcomes_of w (trees us)) (called w.table w.unknowns g) (called_left s g) (λ us. call g (trees us)) (outcomes_of w ts) (pieces_of go (listed ts)) (all_stand ts f)
      (λ ms h. stands_call w s agrees complete well g ms)
      (λ us h e. (alike_bind (outcomes_of w ts) (outcomes_of w (trees us)) (called w.table w.unknowns g) (called w.table w.unknowns g) h (λ vs. alike_same (called w.table w.unknowns g vs)), e))
  node_stands (get_attr t a) f =
      stands_bind w (outcome_of w t) (go t) (attribute_read w a) (attribute_of s a) (get_of_residual go a) (deeper t f) (λ m g k. stands_attribute w s complete well a m g)
      (λ x e h. stands_get w go deeper a x (outcome_of w t) e h)
  node_stands (has_attr t a) f =
      stands_bind w (outcome_of w t) (go t) (attribute_tested w a) (test_of s a) (has_of_residual a) (deeper t f) (λ m g k. stands_test w s complete well a m)
      (λ x e h. stands_has w a x (outcome_of w t) e h)
  node_stands (has_path t a bs) f =
      stands_bind w (outcome_of w t) (go t) (path_tested w a bs) (path_of s a bs) _ (deeper t f) (λ m g k. stands_path w s complete well a bs m g)
      (λ x e h. (
        subst (Alike (outcome_of w (has_path t a bs))) (sym (path_same w x a bs))
            (alike_bind (outcome_of w t) (outcome_of w x) (path_tested w a bs) (path_tested w a bs) h (λ v. alike_same (path_tested w a bs v))),
        path_fits _ x a bs e,
      ))
  node_stands (like t p) f =
      stands_bind w (outcome_of w t) (go t) (λ v. Some (like_pattern p v)) _ _ (deeper t f) (λ m g k. stands_literal w (like_pattern p (bare m)) (literal_like p (bare m)))
      (λ x e h. (alike_bind (outcome_of w t) (outcome_of w x) (λ v. Some (like_pattern p v)) (λ v. Some (like_pattern p v)) h (λ v. alike_same (Some (like_pattern p v))), e))
  node_stands (is_type t n) f =
      stands_bind w (outcome_of w t) (go t) (λ v. Some (of_type n v)) _ (is_of_residual n) (deeper t f) (λ m g k. stands_literal w (of_type n (bare m)) (literal_type n (bare m)))
      (λ x e h. stands_is w n x (outcome_of w t) e h)
  node_stands (set_literal ts) f =
      all_from w (map bare) (λ us. outcomes_of w (trees us)) (λ vs. Some (val (set_made vs))) (λ ms. value_left (made_set (made_members ms))) (λ us. set_literal (trees us)) (outcomes_of w ts)
      (pieces_of go (listed ts)) (all_stand ts f) (stands_set w)
      (λ us h e. (alike_bind (outcomes_of w ts) (outcomes_of w (trees us)) (λ vs. Some (val (set_made vs))) (λ vs. Some (val (set_made vs))) h (λ vs. refl), e))
  node_stands (record_literal fs) f =
      all_from w (λ ms. bare_fields (fields_named (field_names fs) ms)) (λ ts. field_outcomes_of w (tree_fields (zip (field_names fs) ts))) (λ vs. Some (val (record_of vs)))
      (λ ms. value_left (made_record (fields_named (field_names fs) ms))) (λ ts. record_literal (tree_fields (zip (field_names fs) ts))) (field_outcomes_of w fs) (pieces_of go (field_trees fs))
      (fields_stand fs f)
      (λ ms h. (refl, fields_well w.table (field_names fs) ms h))
      (λ us h e. (
        alike_bind (field_outcomes_of w fs) (field_outcomes_of w (tree_fields (zip (field_names fs) us))) (λ vs. Some (val (record_of vs))) (λ vs. Some (val (record_of vs))) h
            (λ vs. refl),
        each_field_of (λ n a. Fits a (w.unknowns n)) (field_names fs) us e,
      ))

-- What is left of an expression whose unknowns fit stands beside its outcome, and in a residual the unknowns fit too.
pub evaluated_stands : (w : World) (s : Scope) → Agrees s → Completes w s → AllMadeWell s → (n : ℕ) (t : Tree) → FitsIn w t → Stands w (outcome_of w t) (evaluated s n t)
evaluated_stands w s agrees complete well zero t f = tt
evaluated_stands w s agrees complete well (suc n) t f = node_stands w s agrees complete well (evaluated s n) (evaluated_stands w s agrees complete well n) t f

-- in a world where everything is known there is an outcome
errs_there : (w : World) (t : Tree) (o : Option (Res V)) → outcome_of w t ≡ o → IsSome o → IsNoValue o → Errs w t
errs_there w t None e h k = cc
errs_there w t (Some (val v)) e h k = absurd k
errs_there w t (Some (err f)) e h k = (f, outcome_means w t (err f) e)

value_there : (w : World) (t : Tree) (v : V) (o : Option (Res V)) → outcome_of w t ≡ o → IsSome o → Keeps o (Some (val v)) → Means w t (val v)
value_there w t v None e h k = cc
value_there w t v (Some r) e h k = outcome_means w t (val v) (e ∙ sym k)

means_like : (w : World) (r : Tree) (o : Res V) → Alike (Some o) (outcome_of w r) → MeansLike w r o
means_like w r (val v) h = outcome_means w r (val v) h
means_like w r (err f) h = (h.0, outcome_means w r (err h.0) h.1)

pub stands_for : (w : World) → IsWhole w → (t : Tree) (l : Left) → Stands w (outcome_of w t) l → StandsFor w t l
stands_for w whole t (value_left m) h = value_there w t (bare m) (outcome_of w t) refl (there w whole t) h.0
stands_for w whole t (residual r) h = λ o m. means_like w r o (subst (λ x. Alike x (outcome_of w r)) (means_outcome w t o m) h.0)
stands_for w whole t (stopped (fault f)) h = errs_there w t (outcome_of w t) refl (there w whole t) h
stands_for w whole t (stopped limit) h = tt

pub residuals_stand : (s : Scope) → Agrees s → AllMadeWell s → (n : ℕ) (t : Tree) → StandsInAll s t (evaluated s n t)
residuals_stand s agrees well n t w complete fits = stands_for w complete.whole t (evaluated s n t) (evaluated_stands w s agrees complete well n t (fits_in w t fits))

pub residuals_fit : (s : Scope) → Agrees s → AllMadeWell s → (n : ℕ) (t r : Tree) → evaluated s n t ≡ residual r → (w : World) → Completes w s → FitsAnnotations w t → FitsAnnotations w r
residuals_fit s agrees well n t r e w complete fits =
    fits_annotations w r (subst (Stands w (outcome_of w t)) e (evaluated_stands w s agrees complete well n t (fits_in w t fits))).1

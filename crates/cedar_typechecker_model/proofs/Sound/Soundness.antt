-- An expression that has a type in Strict means a value of it, or errs as expected, and its facts hold where it is true.
use Rattle.std.proofs.Common.{◌≡◌, inl, inr, true, List, [], ◌∷◌, ◌++◌, Some, refl, sym, ap, ◌∙◌, subst}
use Rattle.std.specs.Prelude.{Contains, ◌-ℤ◌, ◌+ℤ◌, ◌*ℤ◌, not, IsSome}
use Rattle.std.specs.Ordering.{is_lt, is_le}
use Rattle.std.proofs.lemmas.List.Elements.{Contains-append_left, Contains-append_right}
use Rattle.cedar_expr_model.specs.Name.{Text}
use Rattle.cedar_expr_model.specs.Uid.{Uid}
use Rattle.cedar_expr_model.specs.Value.{V, prim, record_of, no_fields, field, truth_value}
use Rattle.cedar_expr_model.specs.Canonical.{set_made, is_subset, is_disjoint}
use Rattle.cedar_expr_model.specs.Parts.{subexpressions, subexpressions_among, subexpressions_in_fields}
use Rattle.cedar_expr_model.specs.Table.{Table}
use Rattle.cedar_expr_model.specs.Tree.{SlotId, BinaryOp, equal, less, less_or_equal, plus, difference, times, remainder, is_in, contains, contains_all, contains_any, get_tag, has_tag, Tree, lit, var, slot, unknown, choice, both, either, unary, binary, call, get_attr, has_attr, has_path, like, is_type, set_literal, record_literal, Trees, no_trees, tree, TreeFields, no_tree_fields, tree_field}
use Rattle.cedar_expr_model.proofs.Lists.{contains_head, contains_tail}
use Rattle.cedar_store_model.specs.Outcome.{val, bind}
use Rattle.cedar_store_model.specs.World.{World}
use Rattle.cedar_store_model.specs.Operators.{in_range, remains, applied, ordered, like_pattern, of_type, called}
use Rattle.cedar_store_model.specs.Reads.{attribute_read, attribute_tested}
use Rattle.cedar_store_model.proofs.Named.{tag_read, tag_tested}
use Rattle.cedar_store_model.specs.Meaning.{Means, variable, slot_value, combined, truth_asked, outcome_of, outcomes_of, field_outcomes_of, path_tested}
use Rattle.cedar_store_model.specs.Looks.{CombinedLooks, Looks, AnyLooks, AnyFieldLooks}
use Rattle.cedar_store_model.proofs.Meaning.{means_outcome, outcome_means}
use Rattle.cedar_schema_model.specs.Types.{Ty, Attributes, strict}
use Rattle.cedar_schema_model.specs.Schema.{Schema}
use Rattle.cedar_schema_model.specs.Environment.{Environment}
use Rattle.cedar_schema_model.specs.HasType.{HasType}
use Rattle.cedar_schema_model.proofs.Types.Lookups.{inside}
use Rattle.cedar_typechecker_model.specs.Facts.{Facts, no_facts, union, attribute_part, tag_part}
use Rattle.cedar_typechecker_model.specs.Rules.{var_type, slot_type, unary_type, binary_type, like_type, is_type_type, has_type, get_type, has_tag_type, get_tag_type, set_literal_type, record_literal_type, call_type, literal_type}
use Rattle.cedar_typechecker_model.specs.Typing.{plain, binary_judged, Gives, Types, EachTyped, FieldsTyped}
use Rattle.cedar_typechecker_model.specs.OfLaws.Simple.{is_simple, are_simple}
use Rattle.cedar_typechecker_model.specs.Verdicts.{strictly}
use Rattle.cedar_typechecker_model.specs.Soundness.{Hold, ConformsAt, Suits}
use Rattle.cedar_typechecker_model.proofs.Bare.{facts_are_of_bool}
use Rattle.cedar_typechecker_model.proofs.Sound.Typed.{types_are_simple, each_typed_simple}
use Rattle.cedar_typechecker_model.proofs.Sound.Operators.{unary_good, order_good, range_good, remains_good, number_good, member_good, sets_good, like_good, is_good, equal_good}
use Rattle.cedar_typechecker_model.proofs.Sound.Attributes.{Fine, fine_as, get_fine, has_fine}
use Rattle.cedar_typechecker_model.proofs.Sound.Tags.{tag_fine, has_tag_fine}
use Rattle.cedar_typechecker_model.proofs.Sound.Membership.{in_fine}
use Rattle.cedar_typechecker_model.proofs.Sound.Facts.{hold_union, Good, good_plain, good_test, good_bind}
use Rattle.cedar_typechecker_model.proofs.Sound.Connectives.{asked_truth, and_good, or_good, choice_good}
use Rattle.cedar_typechecker_model.proofs.Sound.Steps.{path_good}
use Rattle.cedar_typechecker_model.proofs.Sound.Lists.{Have, HaveFields, FineAs, fine_next, fine_is, is_fine, set_good, record_good, call_fine}
use Rattle.cedar_typechecker_model.proofs.Sound.Written.{literal_fine, variable_fine, bound_fine, writes_uid, writes_action, writes_actions}

-- each slot that stands among these is bound
pub record SlotsIn (w : World) (ts : List Tree) : Type 0 where
  pub bound : (i : SlotId) → Contains ts (slot i) → IsSome (w.slots i)

pub behind : (w : World) (t : Tree) (ts : List Tree) → SlotsIn w (t ∷ ts) → SlotsIn w ts
behind w t ts h = record { bound = λ i k. h.bound i (contains_tail t ts (slot i) k) }

pub on_left : (w : World) (ts us : List Tree) → SlotsIn w (ts ++ us) → SlotsIn w ts
on_left w ts us h = record { bound = λ i k. h.bound i (Contains-append_left ts us (slot i) k) }

pub on_right : (w : World) (ts us : List Tree) → SlotsIn w (ts ++ us) → SlotsIn w us
on_right w ts us h = record { bound = λ i k. h.bound i (Contains-append_right ts us (slot i) k) }

-- a fact that holds, at the values of its parts
tested_at : (w : World) (e : Tree) (a : Text) (v : V) → outcome_of w e ≡ Some (val v) → Means w (has_attr e a) (val (truth_value true)) → attribute_tested w a v ≡ Some (val (truth_value true))
tested_at w e a v q h = sym (ap (λ o. bind o (attribute_tested w a)) q) ∙ means_outcome w (has_attr e a) (val (truth_value true)) h

tag_at : (w : World) (a b : Tree) (v v' : V) → outcome_of w a ≡ Some (val v) → outcome_of w b ≡ Some (val v') → outcome_of w (binary has_tag a b) ≡ tag_tested w v v'
tag_at w a b v v' q r = λ i. bind (q i) (λ y. bind (r i) (tag_tested w y))

module _ (s : Schema) (x : Table) (e : Environment) (w : World) (suits : Suits s x e w) where
  context_simple : are_simple e.context ≡ true
  context_simple = let a = suits.environment in subst (λ c. are_simple c ≡ true) (sym a.3) (suits.schema.contexts a.0 a.1)

  pub simple_type : (known : Facts) (t : Tree) (ty : Ty) (out : Facts) → Types (strictly s x e) known t ty out → is_simple ty ≡ true
  simple_type known t ty out d = types_are_simple s x e suits.schema context_simple known t ty out d

  -- an operator of two operands, at values of their types
  binary_fine : (o : BinaryOp) (a b : Tree) (t u ty : Ty) (v v' : V) → outcome_of w a ≡ Some (val v) → outcome_of w b ≡ Some (val v') → HasType v t → HasType v' u → ((y : Uid) → CombinedLooks o v v' y → ConformsAt s w y)
      → binary_type (strictly s x e) o a b t u ≡ Some ty → Fine ty (combined w o v v')
  binary_fine equal a b t u ty v v' p q h k c r = equal_good (strictly s x e) a b t u ty v v' refl (writes_uid s x e w suits a v p) (writes_uid s x e w suits b v' q) h k r
  binary_fine less a b t u ty v v' p q h k c r = subst (λ z. Fine ty (Some (ordered z is_lt v v'))) (sym suits.table) (order_good (strictly s x e) is_lt t u ty v v' r h k)
  binary_fine less_or_equal a b t u ty v v' p q h k c r = subst (λ z. Fine ty (Some (ordered z is_le v v'))) (sym suits.table) (order_good (strictly s x e) is_le t u ty v v' r h k)
  binary_fine plus a b t u ty v v' p q h k c r = number_good (λ m n. in_range (m +ℤ n)) (λ m n. range_good (m +ℤ n)) t u ty v v' r h k
  binary_fine difference a b t u ty v v' p q h k c r = number_good (λ m n. in_range (m -ℤ n)) (λ m n. range_good (m -ℤ n)) t u ty v v' r h k
  binary_fine times a b t u ty v v' p q h k c r = number_good (λ m n. in_range (m *ℤ n)) (λ m n. range_good (m *ℤ n)) t u ty v v' r h k
  binary_fine remainder a b t u ty v v' p q h k c r = number_good remains remains_good t u ty v v' r h k
  binary_fine is_in a b t u ty v v' p q h k c r =
      in_fine s w suits.actions (strictly s x e) refl a b t u ty v v' (writes_action s x e w suits a v p) (writes_actions s x e w suits b v' q) h k r c
  binary_fine contains a b t u ty v v' p q h k c r = member_good (strictly s x e) t u ty v v' r h
  binary_fine contains_all a b t u ty v v' p q h k c r = sets_good (strictly s x e) (λ vs ws. is_subset ws vs) t u ty v v' r h k
  binary_fine contains_any a b t u ty v v' p q h k c r = sets_good (strictly s x e) (λ vs ws. not (is_disjoint vs ws)) t u ty v v' r h k
  binary_fine get_tag a b t u ty v v' p q h k c r = cc
  binary_fine has_tag a b t u ty v v' p q h k c r = cc

  combined_good : (known : Facts) → Hold w known → (o : BinaryOp) (a b : Tree) (t u : Ty) (v v' : V) → outcome_of w a ≡ Some (val v) → outcome_of w b ≡ Some (val v') → is_simple t ≡ true → HasType v t → HasType v' u
      → ((y : Uid) → CombinedLooks o v v' y → ConformsAt s w y) → (ty : Ty) (out : Facts) → Gives (binary_judged (strictly s x e) known o a b t u) ty out → Good w ty out (combined w o v v')
  combined_good known hold get_tag a b t u v v' p q z h k c ty out d =
      good_plain w (get_tag_type (strictly s x e) known a b t u) (tag_read w v v')
      (λ r i. tag_fine s suits.schema w (strictly s x e) refl (known a (tag_part b)) t u r v v' z h k i (λ y m l n. c y (m, (l, n)))
      (λ y. sym (tag_at w a b v v' p q) ∙ means_outcome w (binary has_tag a b) (val (truth_value true)) (hold a (tag_part b) y))) ty out d
  combined_good known hold has_tag a b t u v v' p q z h k c ty out d =
      good_test w a (tag_part b) (has_tag_type (strictly s x e) t u) (tag_tested w v v')
      (λ r i. has_tag_fine s suits.schema w (strictly s x e) refl t u r v v' z h k i (λ y m l n. c y (m, (l, n))))
      (λ y. outcome_means w (binary has_tag a b) (val (truth_value true)) (tag_at w a b v v' p q ∙ y)) ty out d
  combined_good known hold o a b t u v v' p q z h k c ty out d =
      good_plain w (binary_type (strictly s x e) o a b t u) (combined w o v v') (λ r i. binary_fine o a b t u r v v' p q h k c i) ty out d

  mutual
    pub sound : (known : Facts) → Hold w known → (t : Tree) → SlotsIn w (subexpressions t) → ((u : Uid) → Looks w t u → ConformsAt s w u) → (ty : Ty) (out : Facts) → Types (strictly s x e) known t ty out → Good w ty out (outcome_of w t)
    sound known hold (lit p) sl c ty out d = good_plain w (literal_type (strictly s x e) p) (Some (val (prim p))) (literal_fine (strictly s x e) p) ty out d
    sound known hold (var y) sl c ty out d = good_plain w (Some (var_type (strictly s x e) y)) (variable w y) (λ t q. fine_as _ t (variable w y) (inside q) (variable_fine s x e w suits y)) ty out d
    sound known hold (slot i) sl c ty out d =
        good_plain w (Some (slot_type (strictly s x e) i)) (Some (slot_value (w.slots i))) (λ t q. fine_as _ t (Some (slot_value (w.slots i))) (inside q) (bound_fine s x e w suits i (sl.bound i (contains_head (slot i) [])))) ty out d
    sound known hold (unknown n a) sl c ty out d = absurd d
    sound known hold (choice t a b) sl c ty out d =
        let sr = behind w _ _ sl in
        let sr2 = on_right w (subexpressions t) _ sr in
        let first = sound known hold t (on_left w (subexpressions t) _ sr) (λ u l. c u (inl l)) d.0 d.1 d.2 in
        choice_good w (strictly s x e) refl (λ f. Types (strictly s x e) (union known f) a) (Types (strictly s x e) known b) (λ f u g h. simple_type (union known f) a u g h) (λ u g h. simple_type known b u g h) d.1
        (outcome_of w t) (outcome_of w a) (outcome_of w b) d.0 first
        (λ q u g h. sound (union known d.1) (hold_union w known d.1 hold (first.holds q)) a (on_left w (subexpressions a) _ sr2) (λ p l. c p (inr (inl (outcome_means w t _ q, l)))) u g h)
        (λ q u g h. sound known hold b (on_right w (subexpressions a) _ sr2) (λ p l. c p (inr (inr (outcome_means w t _ q, l)))) u g h)
        ty out d.3
    sound known hold (both a b) sl c ty out d =
        let sr = behind w _ _ sl in
        let first = sound known hold a (on_left w (subexpressions a) _ sr) (λ u l. c u (inl l)) d.0 d.1 d.2 in
        and_good w (λ f. Types (strictly s x e) (union known f) b) d.1 (outcome_of w a) (bind (outcome_of w b) (λ v. Some (truth_asked v))) d.0 first
        (λ q u g h. asked_truth w u g (outcome_of w b) (sound (union known d.1) (hold_union w known d.1 hold (first.holds q)) b (on_right w (subexpressions a) _ sr) (λ p l. c p (inr (outcome_means w a _ q, l))) u g h)) ty out d.3
    sound known hold (either a b) sl c ty out d =
        let sr = behind w _ _ sl in
        or_good w (Types (strictly s x e) known b) (λ u g h q. facts_are_of_bool (strictly s x e) known b u g h (λ k. cc)) d.1 (outcome_of w a) (bind (outcome_of w b) (λ v. Some (truth_asked v))) d.0
        (sound known hold a (on_left w (subexpressions a) _ sr) (λ u l. c u (inl l)) d.0 d.1 d.2)
        (λ q u g h. asked_truth w u g (outcome_of w b) (sound known hold b (on_right w (subexpressions a) _ sr) (λ p l. c p (inr (outcome_means w a _ q, l))) u g h)) ty out d.3
    sound known hold (unary o a) sl c ty out d =
        good_bind w d.0 (outcome_of w a) (λ v. Some (applied o v)) ty out (sound known hold a (behind w _ _ sl) c d.0 d.1 d.2).fine
        (λ v q h. good_plain w (unary_type o d.0) (Some (applied o v)) (λ r i. unary_good o d.0 r v i h) ty out d.3)
    sound known hold (binary o a b) sl c ty out d =
        let sr = behind w _ _ sl in
        let r = d.3 in
        good_bind w d.0 (outcome_of w a) (λ v. bind (outcome_of w b) (combined w o v)) ty out (sound known hold a (on_left w (subexpressions a) _ sr) (λ u l. c u (inl l)) d.0 d.1 d.2).fine
        (λ v p h. good_bind w r.0 (outcome_of w b) (combined w o v) ty out (sound known hold b (on_right w (subexpressions a) _ sr) (λ u l. c u (inr (v, outcome_means w a _ p, inl l))) r.0 r.1 r.2).fine
        (λ v' q k. combined_good known hold o a b d.0 r.0 v v' p q (simple_type known a d.0 d.1 d.2) h k (λ y l. c y (inr (v, outcome_means w a _ p, inr (v', outcome_means w b _ q, l)))) ty out r.3))
    sound known hold (call n ts) sl c ty out d =
        good_plain w (call_type (strictly s x e) n ts d.0) (bind (outcomes_of w ts) (called w.table w.unknowns n))
        (λ r i. is_fine r _ (fine_next (λ vs. Have vs d.0) (λ v. HasType v r) (outcomes_of w ts) (called w.table w.unknowns n) (sound_each known hold ts (behind w _ _ sl) c d.0 d.1)
        (λ vs q h. fine_is r _ (subst (λ z. Fine r (called z w.unknowns n vs)) (sym suits.table) (call_fine (strictly s x e) suits.fair n w.unknowns ts d.0 vs h r i))))) ty out d.2
    sound known hold (get_attr t a) sl c ty out d =
        good_bind w d.0 (outcome_of w t) (attribute_read w a) ty out (sound known hold t (behind w _ _ sl) (λ u l. c u (inl l)) d.0 d.1 d.2).fine
        (λ v q h. good_plain w (get_type (strictly s x e) known t d.0 a) (attribute_read w a v)
        (λ r i. get_fine s suits.schema w a (known t (attribute_part a)) d.0 r v (simple_type known t d.0 d.1 d.2) h i (λ u l. c u (inr (v, outcome_means w t _ q, l))) (λ k. tested_at w t a v q (hold t (attribute_part a) k))) ty out d.3)
    sound known hold (has_attr t a) sl c ty out d =
        good_bind w d.0 (outcome_of w t) (attribute_tested w a) ty out (sound known hold t (behind w _ _ sl) (λ u l. c u (inl l)) d.0 d.1 d.2).fine
        (λ v q h. good_test w t (attribute_part a) (has_type (strictly s x e) d.0 a) (attribute_tested w a v)
        (λ r i. has_fine s suits.schema w a (strictly s x e) refl d.0 r v (simple_type known t d.0 d.1 d.2) h i (λ u l. c u (inr (v, outcome_means w t _ q, l))))
        (λ k. outcome_means w (has_attr t a) (val (truth_value true)) (ap (λ o. bind o (attribute_tested w a)) q ∙ k)) ty out d.3)
    sound known hold (has_path t a bs) sl c ty out d =
        good_bind w d.0 (outcome_of w t) (path_tested w a bs) ty out (sound known hold t (behind w _ _ sl) (λ u l. c u (inl l)) d.0 d.1 d.2).fine
        (λ v q h. path_good s suits.schema w (strictly s x e) refl bs a t d.0 v (simple_type known t d.0 d.1 d.2) h q (λ u l. c u (inr (v, outcome_means w t _ q, l))) ty out d.3)
    sound known hold (like t p) sl c ty out d =
        good_bind w d.0 (outcome_of w t) (λ v. Some (like_pattern p v)) ty out (sound known hold t (behind w _ _ sl) c d.0 d.1 d.2).fine
        (λ v q h. good_plain w (like_type d.0) (Some (like_pattern p v)) (λ r i. like_good p d.0 r v i h) ty out d.3)
    sound known hold (is_type t n) sl c ty out d =
        good_bind w d.0 (outcome_of w t) (λ v. Some (of_type n v)) ty out (sound known hold t (behind w _ _ sl) c d.0 d.1 d.2).fine
        (λ v q h. good_plain w (is_type_type n d.0) (Some (of_type n v)) (λ r i. is_good n d.0 r v i h) ty out d.3)
    sound known hold (set_literal ts) sl c ty out d =
        good_plain w (set_literal_type strict d.0) (bind (outcomes_of w ts) (λ vs. Some (val (set_made vs))))
        (λ r i. is_fine r _ (fine_next (λ vs. Have vs d.0) (λ v. HasType v r) (outcomes_of w ts) (λ vs. Some (val (set_made vs))) (sound_each known hold ts (behind w _ _ sl) c d.0 d.1)
        (λ vs q h. set_good d.0 vs r (each_typed_simple s x e suits.schema context_simple known ts d.0 d.1) h i))) ty out d.2
    sound known hold (record_literal fs) sl c ty out d =
        good_plain w (record_literal_type d.0) (bind (field_outcomes_of w fs) (λ vs. Some (val (record_of vs))))
        (λ r i. is_fine r _ (fine_next (λ vs. HaveFields vs d.0) (λ v. HasType v r) (field_outcomes_of w fs) (λ vs. Some (val (record_of vs))) (sound_fields known hold fs (behind w _ _ sl) c d.0 d.1)
        (λ vs q h. record_good d.0 vs r (simple_type known (record_literal fs) r no_facts (d.0, d.1, subst (λ o. Gives (plain o) r no_facts) (sym i) (refl, refl))) h i))) ty out d.2

    pub sound_each : (known : Facts) → Hold w known → (ts : Trees) → SlotsIn w (subexpressions_among ts) → ((u : Uid) → AnyLooks w ts u → ConformsAt s w u) → (us : List Ty) → EachTyped (strictly s x e) known ts us → FineAs (λ vs. Have vs us) (outcomes_of w ts)
    sound_each known hold no_trees sl c us d = subst (Have []) (sym d) tt
    sound_each known hold (tree t ts) sl c us d =
        fine_next (λ v. HasType v d.0) (λ vs. Have vs us) (outcome_of w t) (λ v. bind (outcomes_of w ts) (λ vs. Some (val (v ∷ vs))))
        (fine_is d.0 _ (sound known hold t (on_left w (subexpressions t) _ sl) (λ u l. c u (inl l)) d.0 d.1 d.2).fine)
        (λ v q h. fine_next (λ vs. Have vs d.3) (λ vs. Have vs us) (outcomes_of w ts) (λ vs. Some (val (v ∷ vs))) (sound_each known hold ts (on_right w (subexpressions t) _ sl) (λ u l. c u (inr (v, outcome_means w t _ q, l))) d.3 d.4)
        (λ vs r k. subst (Have (v ∷ vs)) (sym d.5) (h, k)))

    pub sound_fields : (known : Facts) → Hold w known → (fs : TreeFields) → SlotsIn w (subexpressions_in_fields fs) → ((u : Uid) → AnyFieldLooks w fs u → ConformsAt s w u) → (as_ : Attributes) → FieldsTyped (strictly s x e) known fs as_
        → FineAs (λ vs. HaveFields vs as_) (field_outcomes_of w fs)
    sound_fields known hold no_tree_fields sl c as_ d = subst (HaveFields no_fields) (sym d) tt
    sound_fields known hold (tree_field a t fs) sl c as_ d =
        fine_next (λ v. HasType v d.0) (λ vs. HaveFields vs as_) (outcome_of w t) (λ v. bind (field_outcomes_of w fs) (λ vs. Some (val (field a v vs))))
        (fine_is d.0 _ (sound known hold t (on_left w (subexpressions t) _ sl) (λ u l. c u (inl l)) d.0 d.1 d.2).fine)
        (λ v q h. fine_next (λ vs. HaveFields vs d.3) (λ vs. HaveFields vs as_) (field_outcomes_of w fs) (λ vs. Some (val (field a v vs))) (sound_fields known hold fs (on_right w (subexpressions t) _ sl) (λ u l. c u (inr (v, outcome_means w t _ q, l))) d.3 d.4)
        (λ vs r k. subst (HaveFields (field a v vs)) (sym d.5) (refl, h, k)))

-- Without violations at a level each look-up is near, or a declared action.
use Rattle.std.proofs.Common.{◌≡◌, ◌≤◌, ◌+◌, inl, inr, ⊎_elim, ℕ, arith, true, false, List, [], ◌∷◌, Some, refl, sym, ap, ◌∙◌, subst}
use Rattle.std.specs.Prelude.{if◌then◌else◌}
use Rattle.std.specs.Str.{bytes_eq}
use Rattle.cedar_expr_model.specs.Name.{Text}
use Rattle.cedar_expr_model.specs.Uid.{Uid}
use Rattle.cedar_expr_model.specs.Parts.{subexpressions, subexpressions_among, subexpressions_in_fields}
use Rattle.cedar_expr_model.specs.Table.{Table, signature_of}
use Rattle.cedar_expr_model.specs.Tree.{get_tag, has_tag, Tree, lit, var, slot, unknown, choice, both, either, unary, binary, call, get_attr, has_attr, has_path, like, is_type, set_literal, record_literal, Trees, no_trees, tree, TreeFields, no_tree_fields, tree_field}
use Rattle.cedar_expr_model.specs.Value.{prim}
use Rattle.cedar_store_model.specs.World.{World}
use Rattle.cedar_store_model.specs.Meaning.{outcome_of}
use Rattle.cedar_store_model.specs.Looks.{Looks, AnyLooks, AnyFieldLooks, looks_up}
use Rattle.cedar_store_model.proofs.Meaning.{means_outcome}
use Rattle.cedar_schema_model.specs.Types.{Ty, Attributes, no_attributes, attribute, Declared, attribute_named}
use Rattle.cedar_schema_model.specs.Schema.{Schema, declares_action}
use Rattle.cedar_schema_model.specs.Environment.{Environment}
use Rattle.cedar_schema_model.specs.Lookup.{lookup_attribute}
use Rattle.cedar_schema_model.proofs.Types.Lookups.{inside, test_cases}
use Rattle.cedar_typechecker_model.specs.Facts.{Facts, union, attribute_part, tag_part}
use Rattle.cedar_typechecker_model.specs.Levels.{joined, further, stepped, is_entity, branches, after_test, target_after_test, entity_steps, fields_before, path_violations, on_entity, violations, violations_among, violations_in_fields, target, target_in_fields, after, unless_false, unless_true}
use Rattle.cedar_typechecker_model.specs.Soundness.{Hold, ConformsAt, Suits}
use Rattle.cedar_typechecker_model.specs.Typing.{Types, EachTyped, FieldsTyped}
use Rattle.cedar_typechecker_model.specs.Verdicts.{strictly}
use Rattle.cedar_typechecker_model.proofs.Sound.Counted.{none_of_both, judged_as, type_is, behind_and, behind_or, behind_test, target_branches, not_false, not_true, field_leads, before_leads}
use Rattle.cedar_typechecker_model.proofs.Sound.Facts.{hold_union}
use Rattle.cedar_typechecker_model.proofs.Sound.Leading.{At, leads, named_leads, entity_leads}
use Rattle.cedar_typechecker_model.proofs.Sound.Reached.{Nearness, Reached}
use Rattle.cedar_typechecker_model.proofs.Sound.Soundness.{SlotsIn, behind, on_left, on_right}
use Rattle.cedar_typechecker_model.proofs.Sound.Straying.{plain_strays, bool_strays, and_bool, or_bool, tested_bool, path_bool, unary_strays, binary_strays, like_strays, is_strays, set_strays, call_strays, get_tag_leads, get_tag_entity}
use Rattle.cedar_typechecker_model.proofs.Sound.Targets.{TargetReached, FieldsReached, same_value, good, simple, literal_at, variable_at, attribute_target, field_target, tag_target, attribute_looks, left_leads, path_cases, choice_target, record_of_lookup, declared_attribute, record_is, record_target, operands_looks, path_looks, first_field, later_field}
use Rattle.cedar_typechecker_model.proofs.Named.{greater}

module _ (s : Schema) (x : Table) (e : Environment) (w : World) (suits : Suits s x e w) (Near : ℕ → Uid → Type 0) (near : Nearness w Near) (n : ℕ) (c : (u : Uid) → Near n u → declares_action s u ≡ false → ConformsAt s w u) where
  mutual
    pub looks_reached : (known : Facts) → Hold w known → (t : Tree) → SlotsIn w (subexpressions t) → (ty : Ty) (out : Facts) → Types (strictly s x e) known t ty out → violations n (strictly s x e) known t ≡ [] → (u : Uid) → Looks w t u → Reached s Near n u
    looks_reached known hold (lit p) sl ty out d h u l = absurd l
    looks_reached known hold (var y) sl ty out d h u l = absurd l
    looks_reached known hold (slot i) sl ty out d h u l = absurd l
    looks_reached known hold (unknown m a) sl ty out d h u l = absurd l
    looks_reached known hold (choice t a b) sl ty out d h u l =
        let sr = behind w _ _ sl in
        let sr2 = on_right w (subexpressions t) _ sr in
        let k = none_of_both (violations n (strictly s x e) known t) _ h in
        let lt = looks_reached known hold t (on_left w (subexpressions t) _ sr) d.0 d.1 d.2 k.0 in
        let g = good s x e w suits Near near n c known hold t (on_left w (subexpressions t) _ sr) d.0 d.1 d.2 lt in
        let br = behind_test (strictly s x e) (λ f. Types (strictly s x e) (union known f) a) (Types (strictly s x e) known b) (λ f. violations n (strictly s x e) (union known f) a) (violations n (strictly s x e) known b) d.0 d.1 ty out d.3
        (subst (λ o. after_test o (λ f. violations n (strictly s x e) (union known f) a) (violations n (strictly s x e) known b) ≡ []) (judged_as (strictly s x e) known t d.0 d.1 d.2) k.1) in
        ⊎_elim (λ j. lt u j)
        (λ j. ⊎_elim
        (λ m. let o = means_outcome w t _ m.0 in let r = br.on_true (not_false w d.0 d.1 (outcome_of w t) g o) in looks_reached (union known d.1) (hold_union w known d.1 hold (g.holds o)) a (on_left w (subexpressions a) _ sr2) r.0 r.1 r.2 r.3 u m.1)
        (λ m. let o = means_outcome w t _ m.0 in let r = br.on_false (not_true w d.0 d.1 (outcome_of w t) g o) in looks_reached known hold b (on_right w (subexpressions a) _ sr2) r.0 r.1 r.2 r.3 u m.1)
        j) l
    looks_reached known hold (both a b) sl ty out d h u l =
        let sr = behind w _ _ sl in
        let k = none_of_both (violations n (strictly s x e) known a) _ h in
        let la = looks_reached known hold a (on_left w (subexpressions a) _ sr) d.0 d.1 d.2 k.0 in
        let g = good s x e w suits Near near n c known hold a (on_left w (subexpressions a) _ sr) d.0 d.1 d.2 la in
        ⊎_elim (λ j. la u j)
        (λ m. let o = means_outcome w a _ m.0 in
        let r = behind_and (λ f. Types (strictly s x e) (union known f) b) (λ f. violations n (strictly s x e) (union known f) b) d.0 d.1 ty out d.3
        (subst (λ z. after unless_false z (λ f. violations n (strictly s x e) (union known f) b) ≡ []) (judged_as (strictly s x e) known a d.0 d.1 d.2) k.1) (not_false w d.0 d.1 (outcome_of w a) g o) in
        looks_reached (union known d.1) (hold_union w known d.1 hold (g.holds o)) b (on_right w (subexpressions a) _ sr) r.0 r.1 r.2 r.3 u m.1) l
    looks_reached known hold (either a b) sl ty out d h u l =
        let sr = behind w _ _ sl in
        let k = none_of_both (violations n (strictly s x e) known a) _ h in
        let la = looks_reached known hold a (on_left w (subexpressions a) _ sr) d.0 d.1 d.2 k.0 in
        let g = good s x e w suits Near near n c known hold a (on_left w (subexpressions a) _ sr) d.0 d.1 d.2 la in
        ⊎_elim (λ j. la u j)
        (λ m. let r = behind_or (Types (strictly s x e) known b) (violations n (strictly s x e) known b) d.0 d.1 ty out d.3
        (subst (λ z. after unless_true z (λ f. violations n (strictly s x e) known b) ≡ []) (judged_as (strictly s x e) known a d.0 d.1 d.2) k.1) (not_true w d.0 d.1 (outcome_of w a) g (means_outcome w a _ m.0)) in
        looks_reached known hold b (on_right w (subexpressions a) _ sr) r.0 r.1 r.2 r.3 u m.1) l
    looks_reached known hold (unary o a) sl ty out d h u l = looks_reached known hold a (behind w _ _ sl) d.0 d.1 d.2 h u l
    looks_reached known hold (binary o a b) sl ty out d h u l =
        let sr = behind w _ _ sl in
        let r = d.3 in
        let k = none_of_both (if looks_up o then stepped n (binary o a b) (further 1 (target n (strictly s x e) known [] a)) else violations n (strictly s x e) known a) _ h in
        let right = looks_reached known hold b (on_right w (subexpressions a) _ sr) r.0 r.1 r.2 k.1 in
        let la = λ (q : looks_up o ≡ false). looks_reached known hold a (on_left w (subexpressions a) _ sr) d.0 d.1 d.2
        (subst (λ z. (if z then stepped n (binary o a b) (further 1 (target n (strictly s x e) known [] a)) else violations n (strictly s x e) known a) ≡ []) q k.0) in
        let ta = λ (q : looks_up o ≡ true) (i : (target n (strictly s x e) known [] a).found ≡ []) (j : (target n (strictly s x e) known [] a).steps ≤ n).
        target_reached known hold a (on_left w (subexpressions a) _ sr) d.0 d.1 d.2 [] (left_leads s x e w suits Near near n c known o a b d.0 r.0 ty out q r.3) i j in
        operands_looks s x e w suits Near near n c o a b (target n (strictly s x e) known [] a) (binary o a b) (violations n (strictly s x e) known a) k.0 ta la right u l
    looks_reached known hold (call f ts) sl ty out d h u l = looks_each known hold ts (behind w _ _ sl) d.0 d.1 h u l
    looks_reached known hold (get_attr t a) sl ty out d h u l =
        attribute_looks s x e w suits Near near n c t (get_attr t a) known d.0 d.1 d.2 h (λ i j m. target_reached known hold t (behind w _ _ sl) d.0 d.1 d.2 [] i j m) (λ i. looks_reached known hold t (behind w _ _ sl) d.0 d.1 d.2 i) (λ i. good s x e w suits Near near n c known hold t (behind w _ _ sl) d.0 d.1 d.2 i) u l
    looks_reached known hold (has_attr t a) sl ty out d h u l =
        attribute_looks s x e w suits Near near n c t (has_attr t a) known d.0 d.1 d.2 h (λ i j m. target_reached known hold t (behind w _ _ sl) d.0 d.1 d.2 [] i j m) (λ i. looks_reached known hold t (behind w _ _ sl) d.0 d.1 d.2 i) (λ i. good s x e w suits Near near n c known hold t (behind w _ _ sl) d.0 d.1 d.2 i) u l
    looks_reached known hold (has_path t a bs) sl ty out d h u l =
        let i = subst (λ o. path_violations n (has_path t a bs) (entity_steps (strictly s x e) a bs o) (target n (strictly s x e) known (fields_before (strictly s x e) a bs o) t) (violations n (strictly s x e) known t) ≡ []) (type_is (strictly s x e) known t d.0 d.1 d.2) h in
        ⊎_elim
        (λ k. (let lt = looks_reached known hold t (behind w _ _ sl) d.0 d.1 d.2 k.1 in
        path_looks s x e w suits Near near n c t a bs known d.0 d.1 d.2 ty out d.3 0 lt (good s x e w suits Near near n c known hold t (behind w _ _ sl) d.0 d.1 d.2 lt) (λ v q. inl k.0) u l))
        (λ k. (let z = k.3 in
        let r = target_reached known hold t (behind w _ _ sl) d.0 d.1 d.2 (fields_before (strictly s x e) a bs (Some d.0)) (before_leads (strictly s x e) bs a d.0 k.0 k.1) k.2 (omega (arith, z)) in
        path_looks s x e w suits Near near n c t a bs known d.0 d.1 d.2 ty out d.3 (target n (strictly s x e) known (fields_before (strictly s x e) a bs (Some d.0)) t).steps (λ y m. r.looks y m) (good s x e w suits Near near n c known hold t (behind w _ _ sl) d.0 d.1 d.2 (λ y m. r.looks y m)) (λ v q. inr (r.at v q, z)) u l))
        (path_cases s x e w suits Near near n c (has_path t a bs) (entity_steps (strictly s x e) a bs (Some d.0)) (target n (strictly s x e) known (fields_before (strictly s x e) a bs (Some d.0)) t) (violations n (strictly s x e) known t) i)
    looks_reached known hold (like t p) sl ty out d h u l = looks_reached known hold t (behind w _ _ sl) d.0 d.1 d.2 h u l
    looks_reached known hold (is_type t m) sl ty out d h u l = looks_reached known hold t (behind w _ _ sl) d.0 d.1 d.2 h u l
    looks_reached known hold (set_literal ts) sl ty out d h u l = looks_each known hold ts (behind w _ _ sl) d.0 d.1 h u l
    looks_reached known hold (record_literal fs) sl ty out d h u l = looks_fields known hold fs (behind w _ _ sl) d.0 d.1 h u l

    looks_each : (known : Facts) → Hold w known → (ts : Trees) → SlotsIn w (subexpressions_among ts) → (us : List Ty) → EachTyped (strictly s x e) known ts us → violations_among n (strictly s x e) known ts ≡ [] → (u : Uid) → AnyLooks w ts u → Reached s Near n u
    looks_each known hold no_trees sl us d h u l = absurd l
    looks_each known hold (tree t ts) sl us d h u l =
        let k = none_of_both (violations n (strictly s x e) known t) (violations_among n (strictly s x e) known ts) h in
        ⊎_elim (λ j. looks_reached known hold t (on_left w (subexpressions t) _ sl) d.0 d.1 d.2 k.0 u j) (λ j. looks_each known hold ts (on_right w (subexpressions t) _ sl) d.3 d.4 k.1 u j.2) l

    looks_fields : (known : Facts) → Hold w known → (fs : TreeFields) → SlotsIn w (subexpressions_in_fields fs) → (as_ : Attributes) → FieldsTyped (strictly s x e) known fs as_ → violations_in_fields n (strictly s x e) known fs ≡ [] → (u : Uid) → AnyFieldLooks w fs u → Reached s Near n u
    looks_fields known hold no_tree_fields sl as_ d h u l = absurd l
    looks_fields known hold (tree_field a t fs) sl as_ d h u l =
        let k = none_of_both (violations n (strictly s x e) known t) (violations_in_fields n (strictly s x e) known fs) h in
        ⊎_elim (λ j. looks_reached known hold t (on_left w (subexpressions t) _ sl) d.0 d.1 d.2 k.0 u j) (λ j. looks_fields known hold fs (on_right w (subexpressions t) _ sl) d.3 d.4 k.1 u j.2) l

    target_reached : (known : Facts) → Hold w known → (t : Tree) → SlotsIn w (subexpressions t) → (ty : Ty) (out : Facts) → Types (strictly s x e) known t ty out → (path : List Text) → leads ty path ≡ true
        → (target n (strictly s x e) known path t).found ≡ [] → (target n (strictly s x e) known path t).steps ≤ n → TargetReached s x e w suits Near near n c t path (target n (strictly s x e) known path t).steps
    target_reached known hold (lit y) sl ty out d path p h l =
        record {
          looks = λ u m. absurd m;
          at = λ v q u a. (let i : prim y ≡ v = same_value (prim y) v q in inr (literal_at s x e w suits Near near n c y path h u (subst (λ z. At path z u) (sym i) a)));
        }
    target_reached known hold (var y) sl ty out d path p h l = record { looks = λ u m. absurd m; at = λ v q u a. variable_at s x e w suits Near near n c y path v q u a }
    target_reached known hold (slot i) sl ty out d path p h l = cc
    target_reached known hold (unknown m a) sl ty out d path p h l = absurd d
    target_reached known hold (choice t a b) sl ty out d path p h l =
        let sr = behind w _ _ sl in
        let sr2 = on_right w (subexpressions t) _ sr in
        let fa = λ (f : Facts). target n (strictly s x e) (union known f) path a in
        let fb = target n (strictly s x e) known path b in
        let j = judged_as (strictly s x e) known t d.0 d.1 d.2 in
        let k = none_of_both (violations n (strictly s x e) known t) _ h in
        let lt = looks_reached known hold t (on_left w (subexpressions t) _ sr) d.0 d.1 d.2 k.0 in
        let g = good s x e w suits Near near n c known hold t (on_left w (subexpressions t) _ sr) d.0 d.1 d.2 lt in
        let br = target_branches (strictly s x e) refl (λ f. Types (strictly s x e) (union known f) a) (Types (strictly s x e) known b) (λ f u i o. simple s x e w suits Near near n c (union known f) a u i o) (λ u i o. simple s x e w suits Near near n c known b u i o) fa fb path d.0 d.1 ty out d.3 p
        (subst (λ o. (target_after_test o fa fb).found ≡ []) j k.1) in
        let z : (branches greater d.0 (fa d.1) fb).steps ≤ n = subst (λ o. (target_after_test o fa fb).steps ≤ n) j l in
        subst (λ o. TargetReached s x e w suits Near near n c (choice t a b) path (target_after_test o fa fb).steps) (sym j)
        (choice_target s x e w suits Near near n c t a b path (branches greater d.0 (fa d.1) fb).steps lt
        (λ o. (let r = br.on_true (not_false w d.0 d.1 (outcome_of w t) g o) in let m = r.3.1 in
        ((fa d.1).steps, target_reached (union known d.1) (hold_union w known d.1 hold (g.holds o)) a (on_left w (subexpressions a) _ sr2) r.0 r.1 r.2.0 path r.2.1 r.3.0 (omega (arith, m, z)), m)))
        (λ o. (let r = br.on_false (not_true w d.0 d.1 (outcome_of w t) g o) in let m = r.3.1 in
        (fb.steps, target_reached known hold b (on_right w (subexpressions a) _ sr2) r.0 r.1 r.2.0 path r.2.1 r.3.0 (omega (arith, m, z)), m))))
    target_reached known hold (both a b) sl ty out d path p h l = bool_strays path ty (and_bool _ d.0 d.1 ty out d.3) p
    target_reached known hold (either a b) sl ty out d path p h l = bool_strays path ty (or_bool _ d.0 d.1 ty out d.3) p
    target_reached known hold (unary o a) sl ty out d path p h l = plain_strays _ path ty out (unary_strays o d.0) d.3 p
    target_reached known hold (binary get_tag a b) sl ty out d path p h l =
        let sr = behind w _ _ sl in
        let r = d.3 in
        let k = none_of_both (violations n (strictly s x e) known b) (target n (strictly s x e) known [] a).found h in
        let i = get_tag_leads (strictly s x e) known a b d.0 r.0 ty out r.3 in
        let ta = target_reached known hold a (on_left w (subexpressions a) _ sr) d.0 d.1 d.2 [] i k.1 (omega (arith, l)) in
        tag_target s x e w suits Near near n c a b path (target n (strictly s x e) known [] a).steps d.0 d.1 (get_tag_entity (strictly s x e) known a b d.0 r.0 ty out r.3) (good s x e w suits Near near n c known hold a (on_left w (subexpressions a) _ sr) d.0 d.1 d.2 (λ u m. ta.looks u m)) ta
        (looks_reached known hold b (on_right w (subexpressions a) _ sr) r.0 r.1 r.2 k.0) l
    target_reached known hold (binary has_tag a b) sl ty out d path p h l = let r = d.3 in bool_strays path ty (tested_bool a (tag_part b) _ ty out r.3) p
    target_reached known hold (binary o a b) sl ty out d path p h l = let r = d.3 in plain_strays _ path ty out (binary_strays (strictly s x e) o a b d.0 r.0 refl) r.3 p
    target_reached known hold (call f ts) sl ty out d path p h l = plain_strays _ path ty out (call_strays (strictly s x e) ts d.0 (signature_of x f)) d.2 p
    target_reached known hold (get_attr t a) sl ty out d path p h l =
        let q : on_entity (strictly s x e) known t ≡ is_entity (Some d.0) = ap is_entity (type_is (strictly s x e) known t d.0 d.1 d.2) in
        let on = further 1 (target n (strictly s x e) known [] t) in
        let off = target n (strictly s x e) known (a ∷ path) t in
        test_cases (is_entity (Some d.0))
        (λ k. let i : (target n (strictly s x e) known [] t).found ≡ [] = subst (λ z. (if z then on else off).found ≡ []) (q ∙ k) h in
        let j : (target n (strictly s x e) known [] t).steps + 1 ≤ n = subst (λ z. (if z then on else off).steps ≤ n) (q ∙ k) l in
        let r = target_reached known hold t (behind w _ _ sl) d.0 d.1 d.2 [] (entity_leads d.0 k) i (omega (arith, j)) in
        subst (λ z. TargetReached s x e w suits Near near n c (get_attr t a) path (if z then on else off).steps) (sym (q ∙ k))
        (attribute_target s x e w suits Near near n c t a path (target n (strictly s x e) known [] t).steps d.0 d.1 k (good s x e w suits Near near n c known hold t (behind w _ _ sl) d.0 d.1 d.2 (λ u m. r.looks u m)) r j))
        (λ k. let i : off.found ≡ [] = subst (λ z. (if z then on else off).found ≡ []) (q ∙ k) h in
        let j : off.steps ≤ n = subst (λ z. (if z then on else off).steps ≤ n) (q ∙ k) l in
        let m = declared_attribute (known t (attribute_part a)) (lookup_attribute s d.0 a) ty out d.3 in
        let r = target_reached known hold t (behind w _ _ sl) d.0 d.1 d.2 (a ∷ path) (field_leads (strictly s x e) d.0 a path m.0 k m.1 (subst (λ z. leads z path ≡ true) (sym m.2) p)) i j in
        subst (λ z. TargetReached s x e w suits Near near n c (get_attr t a) path (if z then on else off).steps) (sym (q ∙ k))
        (field_target s x e w suits Near near n c t a path off.steps d.0 d.1 k (λ v o. record_of_lookup s x e w suits Near near n c d.0 a m.0 v k m.1 o) (good s x e w suits Near near n c known hold t (behind w _ _ sl) d.0 d.1 d.2 (λ u o. r.looks u o)) r))
    target_reached known hold (has_attr t a) sl ty out d path p h l = bool_strays path ty (tested_bool t (attribute_part a) _ ty out d.3) p
    target_reached known hold (has_path t a bs) sl ty out d path p h l = bool_strays path ty (path_bool (strictly s x e) a bs t d.0 ty out d.3) p
    target_reached known hold (like t m) sl ty out d path p h l = plain_strays _ path ty out (like_strays d.0) d.3 p
    target_reached known hold (is_type t m) sl ty out d path p h l = plain_strays _ path ty out (is_strays m d.0) d.3 p
    target_reached known hold (set_literal ts) sl ty out d path p h l = plain_strays _ path ty out (set_strays d.0) d.2 p
    target_reached known hold (record_literal fs) sl ty out d [] p h l = (let q = subst (λ z. leads z [] ≡ true) (record_is d.0 ty out d.2) p in cc)
    target_reached known hold (record_literal fs) sl ty out d (a ∷ path) p h l =
        let k = named_leads (attribute_named a d.0) path (subst (λ z. leads z (a ∷ path) ≡ true) (record_is d.0 ty out d.2) p) in
        record_target s x e w suits Near near n c fs a path _ (fields_reached known hold fs (behind w _ _ sl) d.0 d.1 a path k.0 k.1 k.2 h l)

    fields_reached : (known : Facts) → Hold w known → (fs : TreeFields) → SlotsIn w (subexpressions_in_fields fs) → (as_ : Attributes) → FieldsTyped (strictly s x e) known fs as_ → (a : Text) (path : List Text) (k : Declared) → attribute_named a as_ ≡ Some k → leads k.type path ≡ true
        → (target_in_fields n (strictly s x e) known (a ∷ path) fs).found ≡ [] → (target_in_fields n (strictly s x e) known (a ∷ path) fs).steps ≤ n → FieldsReached s x e w suits Near near n c fs a path (target_in_fields n (strictly s x e) known (a ∷ path) fs).steps
    fields_reached known hold no_tree_fields sl as_ d a path k q p h l = (let z : attribute_named a no_attributes ≡ Some k = subst (λ y. attribute_named a y ≡ Some k) d q in cc)
    fields_reached known hold (tree_field b t fs) sl as_ d a path k q p h l =
        let z : attribute_named a (attribute b d.0 true d.3) ≡ Some k = subst (λ y. attribute_named a y ≡ Some k) d.5 q in
        let yes = joined (violations_in_fields n (strictly s x e) known fs) (target n (strictly s x e) known path t) in
        let no = joined (violations n (strictly s x e) known t) (target_in_fields n (strictly s x e) known (a ∷ path) fs) in
        test_cases (bytes_eq a b)
        (λ m. let i = none_of_both (violations_in_fields n (strictly s x e) known fs) _ (subst (λ y. (if y then yes else no).found ≡ []) m h) in
        let j : (target n (strictly s x e) known path t).steps ≤ n = subst (λ y. (if y then yes else no).steps ≤ n) m l in
        let o : d.0 ≡ k.type = ap (λ (y : Declared). y.type) (inside (subst (λ y. (if y then Some (record { type = d.0; is_required = true }) else attribute_named a d.3) ≡ Some k) m z)) in
        let r = target_reached known hold t (on_left w (subexpressions t) _ sl) d.0 d.1 d.2 path (subst (λ y. leads y path ≡ true) (sym o) p) i.1 j in
        subst (λ y. FieldsReached s x e w suits Near near n c (tree_field b t fs) a path (if y then yes else no).steps) (sym m)
        (first_field s x e w suits Near near n c b t fs a path (target n (strictly s x e) known path t).steps m r (looks_fields known hold fs (on_right w (subexpressions t) _ sl) d.3 d.4 i.0)))
        (λ m. let i = none_of_both (violations n (strictly s x e) known t) _ (subst (λ y. (if y then yes else no).found ≡ []) m h) in
        let j : (target_in_fields n (strictly s x e) known (a ∷ path) fs).steps ≤ n = subst (λ y. (if y then yes else no).steps ≤ n) m l in
        let o : attribute_named a d.3 ≡ Some k = subst (λ y. (if y then Some (record { type = d.0; is_required = true }) else attribute_named a d.3) ≡ Some k) m z in
        let r = fields_reached known hold fs (on_right w (subexpressions t) _ sl) d.3 d.4 a path k o p i.1 j in
        subst (λ y. FieldsReached s x e w suits Near near n c (tree_field b t fs) a path (if y then yes else no).steps) (sym m)
        (later_field s x e w suits Near near n c b t fs a path (target_in_fields n (strictly s x e) known (a ∷ path) fs).steps m r (looks_reached known hold t (on_left w (subexpressions t) _ sl) d.0 d.1 d.2 i.0)))

-- Facts by their order: two of them are the same where it finds no difference.
use Rattle.std.proofs.Common.{◌≡◌, ◌&&◌, ◌||◌, Bool, true, false, List, [], ◌∷◌, refl, sym, ap, ◌∙◌, Decides}
use Rattle.std.proofs.lemmas.Bool.Decides.{Decides-and, Decides-like}
use Rattle.std.proofs.lemmas.Slice.Eq.{bytes_eq-Decides}
use Rattle.std.specs.Rc.{rc_str_bytes}
use Rattle.std.specs.Ordering.{eq_by_cmp}
use Rattle.std.specs.List.{list_any}
use Rattle.cedar_expr_model.specs.Tree.{Tree}
use Rattle.cedar_expr_model.proofs.ShapeOrder.{trees_decide}
use Rattle.cedar_expr_shapes.specs.Shapes.{shape_of}
use Rattle.cedar_typechecker_model.specs.Facts.{Part, attribute_part, tag_part, part_eq, fact, union, intersection}
use Rattle.cedar_typechecker_environments.specs.Facts.{capability_of, is_of, facts_among}
use Rattle.cedar_typechecker_environments.specs.declared.facts.Capability.{Capability}
use Rattle.cedar_typechecker_environments.specs.declared.facts.Capability.TheVariants.{Attribute, Tag}
use Rattle.cedar_typechecker_environments.specs.contracts.facts.CapabilityPartialEq.TheImpl as equality
use Rattle.cedar_typechecker_environments.specs.contracts.facts.CapabilityOrd.TheImpl as order
use Rattle.cedar_typechecker_environments.specs.contracts.facts.CapabilityOrd.TheImpl.Laws as laws
use Rattle.cedar_typechecker_environments.proofs.Members.{combined}

pub capabilities_decide : (a b : Capability) → Decides ((equality.ghosts).eq a b) (capability_of a ≡ capability_of b)
capabilities_decide (Attribute e a) (Attribute f b) = Decides-like _ (λ p i. (p.0 i, attribute_part (p.1 i))) (λ q. (ap (λ x. x.0) q, let r = ap (λ x. x.1) q in cc)) (Decides-and _ _ (trees_decide (shape_of e) (shape_of f)) (bytes_eq-Decides (rc_str_bytes a) (rc_str_bytes b)))
capabilities_decide (Tag e t) (Tag f u) = Decides-like _ (λ p i. (p.0 i, tag_part (p.1 i))) (λ q. (ap (λ x. x.0) q, let r = ap (λ x. x.1) q in cc)) (Decides-and _ _ (trees_decide (shape_of e) (shape_of f)) (trees_decide (shape_of t) (shape_of u)))
capabilities_decide (Attribute e a) (Tag f u) = (λ h. absurd (cc), λ h. let r = ap (λ x. x.1) h in absurd (cc))
capabilities_decide (Tag e t) (Attribute f b) = (λ h. absurd (cc), λ h. let r = ap (λ x. x.1) h in absurd (cc))

parts_decide : (p q : Part) → Decides (part_eq p q) (p ≡ q)
parts_decide (attribute_part a) (attribute_part b) = Decides-like _ (λ e. ap attribute_part e) (λ e. cc) (bytes_eq-Decides a b)
parts_decide (tag_part t) (tag_part u) = Decides-like _ (λ e. ap tag_part e) (λ e. cc) (trees_decide t u)
parts_decide (attribute_part a) (tag_part u) = (λ h. absurd (cc), λ h. absurd (cc))
parts_decide (tag_part t) (attribute_part b) = (λ h. absurd (cc), λ h. absurd (cc))

fact_decides : (e : Tree) (p : Part) (k : Capability) → Decides (is_of e p k) (capability_of k ≡ (e, p))
fact_decides e p k = Decides-like _ (λ q i. (q.0 i, q.1 i)) (λ q. (ap (λ x. x.0) q, ap (λ x. x.1) q)) (Decides-and _ _ (trees_decide (capability_of k).0 e) (parts_decide (capability_of k).1 p))

alike : (a b : Bool) → (a ≡ true → b ≡ true) → (b ≡ true → a ≡ true) → a ≡ b
alike true b f g = sym (f refl)
alike false true f g = g refl
alike false false f g = refl

abbrev pub same : Capability → Capability → Bool
same a b = eq_by_cmp (order.ghosts).cmp a b

same_decides : (a b : Capability) → Decides (same a b) (capability_of a ≡ capability_of b)
same_decides a b =
    let d = capabilities_decide a b in
    let m = laws.matches_eq-law a b in
    (λ h. d.0 (m ∙ h), λ h. sym m ∙ d.1 h)

-- which facts are that of a member, as the order tells them
pub tells : (e : Tree) (p : Part) (q k : Capability) → is_of e p q ≡ true → is_of e p k ≡ same q k
tells e p q k h =
    let here : capability_of q ≡ (e, p) = (fact_decides e p q).0 h in
    alike (is_of e p k) (same q k)
    (λ g. (same_decides q k).1 (here ∙ sym ((fact_decides e p k).0 g)))
    (λ g. (fact_decides e p k).1 (sym ((same_decides q k).0 g) ∙ here))

pub itself : (k : Capability) → is_of (capability_of k).0 (capability_of k).1 k ≡ true
itself k = (fact_decides (capability_of k).0 (capability_of k).1 k).1 refl

-- copies are the same facts
pub copies_are_same : (a b : Capability) → capability_of b ≡ capability_of a → same a b ≡ true
copies_are_same a b e = (same_decides a b).1 (sym e)

pub together : (xs ys zs : List Capability) → ((q : Capability) → list_any (same q) zs ≡ (list_any (same q) xs || list_any (same q) ys)) → facts_among zs ≡ union (facts_among xs) (facts_among ys)
together xs ys zs made = λ i e p. combined (is_of e p) same (tells e p) (λ a b. a || b) refl xs ys zs made i

pub in_common : (xs ys zs : List Capability) → ((q : Capability) → list_any (same q) zs ≡ (list_any (same q) xs && list_any (same q) ys)) → facts_among zs ≡ intersection (facts_among xs) (facts_among ys)
in_common xs ys zs made = λ i e p. combined (is_of e p) same (tells e p) (λ a b. a && b) refl xs ys zs made i

or_false : (b : Bool) → (b || false) ≡ b
or_false true = refl
or_false false = refl

pub alone : (k : Capability) → facts_among (k ∷ []) ≡ fact (capability_of k).0 (capability_of k).1
alone k = λ i e p. or_false (is_of e p k) i

pub found : (k : Capability) (ks : List Capability) → list_any (same k) ks ≡ facts_among ks (capability_of k).0 (capability_of k).1
found k ks = ap (λ F. list_any F ks) (λ i q. sym (tells (capability_of k).0 (capability_of k).1 k q (itself k)) i)

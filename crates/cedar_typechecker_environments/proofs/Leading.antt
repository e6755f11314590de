-- Facts along a path of attributes all rise or all fall: an expression stands to all to which attributes lead from it as what is
-- no attribute's value at their root stands to such values.
use Rattle.std.proofs.Common.{◌≡◌, ◌⊎◌, inl, inr, ℕ, List, [], ◌∷◌, refl, sym, ap, subst, ◌∙◌, arith}
use Rattle.std.specs.Ordering.{nat_cmp, ordering_then, ordering_reverse}
use Rattle.std.specs.Cmp.{IsTotalOrder}
use Rattle.std.specs.List.{AllByRecursion}
use Rattle.std.specs.List.Sorted.{IsStrictlySortedBy}
use Rattle.std.specs.declared.cmp.Ordering.{Ordering}
use Rattle.std.specs.declared.cmp.Ordering.TheVariants.{Less, Equal, Greater}
use Rattle.cedar_expr_model.specs.Name.{Text}
use Rattle.cedar_expr_model.specs.Shape.{tree_cmp, tree_rank}
use Rattle.cedar_expr_model.specs.Order.{text_cmp}
use Rattle.cedar_expr_model.specs.Tree.{Tree, lit, var, slot, unknown, choice, both, either, unary, binary, call, get_attr, has_attr, has_path, like, is_type, set_literal, record_literal}
use Rattle.cedar_expr_shapes.specs.Shapes.{shape_of}
use Rattle.cedar_typechecker_environments.specs.Along.{RiseOrFall, Leads, LeadsTo, Before, AlongPath}
use Rattle.cedar_typechecker_environments.specs.declared.facts.Capability.{Capability}
use Rattle.cedar_typechecker_environments.specs.declared.facts.Capability.TheVariants.{Attribute, Tag}
use Rattle.cedar_typechecker_environments.specs.contracts.facts.CapabilityOrd.TheImpl as order
use Rattle.cedar_typechecker_environments.specs.contracts.facts.CapabilityOrd.TheImpl.Laws as laws

-- how an expression stands to those to which attributes lead from it
abbrev way : Tree → Ordering
way (get_attr t a) = way t
way (lit p) = Less
way (var x) = Less
way (slot s) = Less
way (unknown n a) = Less
way (choice t a b) = Less
way (both a b) = Less
way (either a b) = Less
way (unary o a) = Less
way (binary o a b) = Less
way (call f ts) = Less
way (has_attr t a) = Greater
way (has_path t a as_) = Greater
way (like t p) = Greater
way (is_type t n) = Greater
way (set_literal ts) = Greater
way (record_literal fs) = Greater

pub leads_on : (s t u : Tree) → Leads s t → Leads t u → Leads s u
leads_on s t (get_attr v a) h (inl e) = inr (subst (Leads s) e h)
leads_on s t (get_attr v a) h (inr k) = inr (leads_on s t v h k)
leads_on s t u h k = absurd k

way_stays : (t u : Tree) → Leads t u → way u ≡ way t
way_stays t (get_attr u a) (inl e) = ap way (sym e)
way_stays t (get_attr u a) (inr k) = way_stays t u k
way_stays t u h = absurd h

-- an answer of the order that settles it
settled : (t : Tree) (r : Ordering) → ordering_then (way t) r ≡ way t
settled (get_attr t a) r = settled t r
settled t r = refl

to_value : (t : Tree) → ((u : Tree) (b : Text) → Leads t (get_attr u b) → tree_cmp t (get_attr u b) ≡ way t) → (u : Tree) → Leads t u → tree_cmp t u ≡ way t
to_value t f (get_attr u b) h = f u b h
to_value t f u h = absurd h

-- to what an attribute leads from an attribute's value, one leads from what has that
before : (t u : Tree) (a : Text) → (get_attr t a ≡ u) ⊎ Leads (get_attr t a) u → Leads t u
before t u a (inl e) = subst (Leads t) e (inl refl)
before t u a (inr k) = leads_on t (get_attr t a) u (inl refl) k

stands : (t u : Tree) (b : Text) → Leads t (get_attr u b) → tree_cmp t (get_attr u b) ≡ way t
stands (get_attr t a) u b h = ap (λ r. ordering_then r (text_cmp a b)) (to_value t (stands t) u (before t u a h)) ∙ settled t (text_cmp a b)
stands t u b h = refl

by_expression : (t u : Tree) (r : Ordering) → Leads t u → ordering_then (tree_cmp t u) r ≡ way t
by_expression t u r h = ap (λ q. ordering_then q r) (to_value t (stands t) u h) ∙ settled t r

abbrev compared : Capability → Capability → Ordering
compared a b = (order.ghosts).cmp a b

abbrev fact_way : Capability → Ordering
fact_way (Attribute e a) = way (shape_of e)
fact_way (Tag e t) = Equal

by_way : (k l : Capability) → Before k l → compared k l ≡ fact_way k
by_way (Attribute e a) (Attribute f b) h = by_expression (shape_of e) (shape_of f) _ h
by_way (Tag e t) (Attribute f b) h = absurd h
by_way k (Tag f t) h = absurd h

one_way : (k l : Capability) → Before k l → fact_way l ≡ fact_way k
one_way (Attribute e a) (Attribute f b) h = way_stays (shape_of e) (shape_of f) h
one_way (Tag e t) (Attribute f b) h = absurd h
one_way k (Tag f t) h = absurd h

each : {K : Type 0} (P Q : K → Type 0) → ((x : K) → P x → Q x) → (xs : List K) → AllByRecursion P xs → AllByRecursion Q xs
each P Q f [] a = tt
each P Q f (x ∷ xs) a = (f x a.0, each P Q f xs a.1)

under : (k l : Capability) → compared k l ≡ Greater → compared l k ≡ Less
under k l e = laws.total-law.antisymm l k ∙ ap ordering_reverse e

rise : (ks : List Capability) → AlongPath ks → AllByRecursion (λ k. fact_way k ≡ Less) ks → IsStrictlySortedBy compared ks
unfolding IsStrictlySortedBy
rise [] p a = tt
rise (k ∷ ks) p a = (each (Before k) (λ l. compared k l ≡ Less) (λ l b. by_way k l b ∙ a.0) ks p.0, rise ks p.1 a.1)

fall : (ks : List Capability) → AlongPath ks → AllByRecursion (λ k. fact_way k ≡ Greater) ks → IsStrictlySortedBy (λ a b. compared b a) ks
unfolding IsStrictlySortedBy
fall [] p a = tt
fall (k ∷ ks) p a = (each (Before k) (λ l. compared l k ≡ Less) (λ l b. under k l (by_way k l b ∙ a.0)) ks p.0, fall ks p.1 a.1)

module _ (k : Capability) (ks : List Capability) (p : AlongPath (k ∷ ks)) where
  so_all : (w : Ordering) → fact_way k ≡ w → AllByRecursion (λ l. fact_way l ≡ w) (k ∷ ks)
  so_all w e = (e, each (Before k) (λ l. fact_way l ≡ w) (λ l b. one_way k l b ∙ e) ks p.0)

never_equal : (t : Tree) → way t ≡ Equal → ⊥
never_equal (get_attr t a) e = never_equal t e
never_equal t e = absurd (cc)

pub along_rises_or_falls : (ks : List Capability) → AlongPath ks → RiseOrFall compared ks
unfolding IsStrictlySortedBy
along_rises_or_falls [] p = inl tt
along_rises_or_falls (Attribute e a ∷ ks) p = go (way (shape_of e)) refl
  where
    go : (w : Ordering) → way (shape_of e) ≡ w → RiseOrFall compared (Attribute e a ∷ ks)
    go Less h = inl (rise (Attribute e a ∷ ks) p (so_all (Attribute e a) ks p Less h))
    go Greater h = inr (fall (Attribute e a ∷ ks) p (so_all (Attribute e a) ks p Greater h))
    go Equal h = absurd (never_equal (shape_of e) h)
along_rises_or_falls (Tag e t ∷ []) p = inl (tt, tt)
along_rises_or_falls (Tag e t ∷ (Attribute f b ∷ ks)) p = absurd p.0.0
along_rises_or_falls (Tag e t ∷ (Tag f u ∷ ks)) p = absurd p.0.0

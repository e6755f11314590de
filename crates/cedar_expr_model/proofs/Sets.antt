-- The set that is made of values: it rises, and it has those members and no other.
use Rattle.std.proofs.Common.{◌≡◌, true, List, [], ◌∷◌, Contains, refl, sym, ap, ◌∙◌, subst, ◌⊎◌, inl, inr, ⊎_elim, Decides}
use Rattle.std.specs.Prelude.{◌↔◌}
use Rattle.std.specs.List.{list_all}
use Rattle.std.specs.Ordering.{match_ordering}
use Rattle.std.specs.declared.cmp.Ordering.{Ordering}
use Rattle.std.specs.declared.cmp.Ordering.TheVariants.{Less, Equal, Greater}
use Rattle.cedar_expr_model.specs.Value.{V, Vs, no_values, value, set_of, values_list}
use Rattle.cedar_expr_model.specs.Order.{value_cmp}
use Rattle.cedar_expr_model.specs.Canonical.{are_rising, is_canonical, are_canonical, inserted, members_made, set_made, is_member}
use Rattle.cedar_expr_model.specs.SamenessLaws.{Among}
use Rattle.cedar_expr_model.proofs.Lists.{both_hold, hold_both, contains_head, contains_tail, contains_cases, contains_none}
use Rattle.cedar_expr_model.proofs.ValueOrder.{value_exact}
use Rattle.cedar_expr_model.proofs.Rising.{is_below, rising_parts, rising_more, is_less, less_is, turned, member_Decides, same_rising}

-- with one more it still rises
below_inserted : (u v : V) (ws : Vs) → value_cmp u v ≡ Less → is_below u ws ≡ true → is_below u (inserted v ws) ≡ true
below_inserted u v no_values e b = is_less (value_cmp u v) e
below_inserted u v (value w ws) e b = go (value_cmp v w)
  where
    go : (r : Ordering) → is_below u (match_ordering r (value v (value w ws)) (value w ws) (value w (inserted v ws))) ≡ true
    go Less = is_less (value_cmp u v) e
    go Equal = b
    go Greater = b

rises_case : (v w : V) (ws : Vs) (r : Ordering) → value_cmp v w ≡ r → is_below w ws ≡ true → are_rising ws ≡ true → are_rising (inserted v ws) ≡ true → are_rising (match_ordering r (value v (value w ws)) (value w ws) (value w (inserted v ws))) ≡ true
rises_case v w ws Less e b r h = rising_more v (value w ws) (is_less (value_cmp v w) e) (rising_more w ws b r)
rises_case v w ws Equal e b r h = rising_more w ws b r
rises_case v w ws Greater e b r h = rising_more w (inserted v ws) (below_inserted w v ws (turned v w e) b) h

pub inserted_rises : (v : V) (ws : Vs) → are_rising ws ≡ true → are_rising (inserted v ws) ≡ true
inserted_rises v no_values r = refl
inserted_rises v (value w ws) r =
    let p = rising_parts w ws r in
    rises_case v w ws (value_cmp v w) refl p.0 p.1 (inserted_rises v ws p.1)

pub made_rises : (vs : List V) → are_rising (members_made vs) ≡ true
made_rises [] = refl
made_rises (v ∷ vs) = inserted_rises v (members_made vs) (made_rises vs)

-- what stands in it
holds_new : (v : V) (ws : Vs) → Among v (inserted v ws)
holds_new v no_values = inl refl
holds_new v (value w ws) = go (value_cmp v w) refl (holds_new v ws)
  where
    go : (r : Ordering) → value_cmp v w ≡ r → Among v (inserted v ws) → Among v (match_ordering r (value v (value w ws)) (value w ws) (value w (inserted v ws)))
    go Less e h = inl refl
    go Equal e h = inl (value_exact v w e)
    go Greater e h = inr h

holds_old : (u v : V) (ws : Vs) → Among u ws → Among u (inserted v ws)
holds_old u v no_values h = inr h
holds_old u v (value w ws) h = go (value_cmp v w) h (holds_old u v ws)
  where
    go : (r : Ordering) → Among u (value w ws) → (Among u ws → Among u (inserted v ws)) → Among u (match_ordering r (value v (value w ws)) (value w ws) (value w (inserted v ws)))
    go Less h f = inr h
    go Equal h f = h
    go Greater (inl e) f = inl e
    go Greater (inr a) f = inr (f a)

holds_only : (u v : V) (ws : Vs) → Among u (inserted v ws) → (u ≡ v) ⊎ Among u ws
holds_only u v no_values h = h
holds_only u v (value w ws) h = go (value_cmp v w) h (holds_only u v ws)
  where
    go : (r : Ordering) → Among u (match_ordering r (value v (value w ws)) (value w ws) (value w (inserted v ws))) → (Among u (inserted v ws) → (u ≡ v) ⊎ Among u ws) → (u ≡ v) ⊎ Among u (value w ws)
    go Less h f = h
    go Equal h f = inr h
    go Greater (inl e) f = inr (inl e)
    go Greater (inr a) f = ⊎_elim (λ e. inl e) (λ b. inr (inr b)) (f a)

pub made_from : (v : V) (vs : List V) → Among v (members_made vs) → Contains vs v
made_from v [] h = absurd h
made_from v (w ∷ vs) h = ⊎_elim (λ e. subst (Contains (w ∷ vs)) (sym e) (contains_head w vs)) (λ a. contains_tail w vs v (made_from v vs a)) (holds_only v w (members_made vs) h)

pub made_has : (v : V) (vs : List V) → Contains vs v → Among v (members_made vs)
made_has v [] h = absurd (contains_none v h)
made_has v (w ∷ vs) h =
    contains_cases (Among v (members_made (w ∷ vs))) w vs v h
    (λ e. subst (λ k. Among k (members_made (w ∷ vs))) e (holds_new w (members_made vs)))
    (λ k. holds_old v w (members_made vs) (made_has v vs k))

pub made_Decides : (v : V) (vs : List V) → Decides (is_member v (members_made vs)) (Contains vs v)
made_Decides v vs =
    let d = member_Decides v (members_made vs) (made_rises vs) in
    (λ h. made_from v vs (d.0 h), λ h. d.1 (made_has v vs h))

-- Two lists with the same members make the same set.
pub made_same : (vs ws : List V) → ((u : V) → Contains vs u ↔ Contains ws u) → set_made vs ≡ set_made ws
made_same vs ws h =
    ap set_of (same_rising (members_made vs) (members_made ws) (made_rises vs) (made_rises ws)
    (λ u a. made_has u ws ((h u).0 (made_from u vs a)))
    (λ u a. made_has u vs ((h u).1 (made_from u ws a))))

-- a rising list is what is made of its members
inserted_first : (v : V) (ws : Vs) → is_below v ws ≡ true → inserted v ws ≡ value v ws
inserted_first v no_values b = refl
inserted_first v (value w ws) b = let e = less_is (value_cmp v w) b in rw e refl

pub made_of_rising : (vs : Vs) → are_rising vs ≡ true → members_made (values_list vs) ≡ vs
made_of_rising no_values r = refl
made_of_rising (value v vs) r =
    let p = rising_parts v vs r in
    ap (inserted v) (made_of_rising vs p.1) ∙ inserted_first v vs p.0

-- the members of a canonical set are canonical
pub canonical_member : (vs : Vs) → are_canonical vs ≡ true → (u : V) → Among u vs → is_canonical u ≡ true
canonical_member no_values h u a = absurd a
canonical_member (value v vs) h u (inl e) = ap is_canonical e ∙ (both_hold (is_canonical v) (are_canonical vs) h).0
canonical_member (value v vs) h u (inr a) = canonical_member vs (both_hold (is_canonical v) (are_canonical vs) h).1 u a

members_canonical : (vs : Vs) → ((u : V) → Among u vs → is_canonical u ≡ true) → are_canonical vs ≡ true
members_canonical no_values f = refl
members_canonical (value v vs) f = hold_both _ _ (f v (inl refl)) (members_canonical vs (λ u a. f u (inr a)))

list_member : (vs : List V) → list_all is_canonical vs ≡ true → (u : V) → Contains vs u → is_canonical u ≡ true
list_member [] h u a = absurd (contains_none u a)
list_member (v ∷ vs) h u a =
    let p = both_hold (is_canonical v) (list_all is_canonical vs) h in
    contains_cases (is_canonical u ≡ true) v vs u a (λ e. ap is_canonical (sym e) ∙ p.0) (list_member vs p.1 u)

pub made_canonical : (vs : List V) → list_all is_canonical vs ≡ true → is_canonical (set_made vs) ≡ true
made_canonical vs h = hold_both _ _ (made_rises vs) (members_canonical (members_made vs) (λ u a. list_member vs h u (made_from u vs a)))

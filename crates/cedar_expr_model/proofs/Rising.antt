-- Rising lists of values: what stands in them, and that two with the same members are one.
use Rattle.std.proofs.Common.{◌≡◌, Bool, true, false, refl, sym, ap, ◌∙◌, ◌⊎◌, inl, inr, ⊎_elim}
use Rattle.std.specs.Bool.{Decides}
use Rattle.std.specs.Ordering.{match_ordering, is_lt}
use Rattle.std.specs.declared.cmp.Ordering.{Ordering}
use Rattle.std.specs.declared.cmp.Ordering.TheVariants.{Less, Equal, Greater}
use Rattle.cedar_expr_model.specs.Value.{V, Vs, no_values, value}
use Rattle.cedar_expr_model.specs.Order.{value_cmp}
use Rattle.cedar_expr_model.specs.Canonical.{are_rising, is_member}
use Rattle.cedar_expr_model.specs.SamenessLaws.{Among}
use Rattle.cedar_expr_model.proofs.Lists.{both_hold, hold_both}
use Rattle.cedar_expr_model.proofs.ValueOrder.{value_linear, value_exact, value_itself}

-- A rising list by its first value and the others: the value stands before the first of them, and they rise.
abbrev pub is_below : V → Vs → Bool
is_below v no_values = true
is_below v (value w ws) = is_lt (value_cmp v w)

pub rising_parts : (v : V) (vs : Vs) → are_rising (value v vs) ≡ true → (is_below v vs ≡ true) × (are_rising vs ≡ true)
rising_parts v no_values r = (refl, refl)
rising_parts v (value w ws) r = both_hold (is_lt (value_cmp v w)) (are_rising (value w ws)) r

pub rising_more : (v : V) (vs : Vs) → is_below v vs ≡ true → are_rising vs ≡ true → are_rising (value v vs) ≡ true
rising_more v no_values b r = refl
rising_more v (value w ws) b r = hold_both (is_lt (value_cmp v w)) (are_rising (value w ws)) b r

-- what an answer of the order says, as the tests say it
pub less_is : (r : Ordering) → is_lt r ≡ true → r ≡ Less
less_is Less e = refl
less_is Equal e = cc
less_is Greater e = cc

pub is_less : (r : Ordering) → r ≡ Less → is_lt r ≡ true
is_less r e = ap is_lt e

pub never_below_itself : (v : V) → value_cmp v v ≡ Less → ⊥
never_below_itself v e = let q = value_itself v in cc

pub below_next : (v w u : V) → value_cmp v w ≡ Less → value_cmp w u ≡ Less → value_cmp v u ≡ Less
below_next = value_linear.total.trans

pub turned : (v w : V) → value_cmp v w ≡ Greater → value_cmp w v ≡ Less
turned v w e = let q = value_linear.total.antisymm w v in rw (q, e) refl

-- what stands before the first of a rising list stands before each
pub below_each : (v : V) (ws : Vs) → is_below v ws ≡ true → are_rising ws ≡ true → (u : V) → Among u ws → value_cmp v u ≡ Less
below_each v no_values b r u a = absurd a
below_each v (value w ws) b r u (inl e) = ap (value_cmp v) e ∙ less_is (value_cmp v w) b
below_each v (value w ws) b r u (inr a) =
    let p = rising_parts w ws r in
    below_next v w u (less_is (value_cmp v w) b) (below_each w ws p.0 p.1 u a)

-- the test of a member decides what stands in a rising list
member_case : (v w : V) (ws : Vs) (r : Ordering) → value_cmp v w ≡ r → is_below w ws ≡ true → are_rising ws ≡ true → Decides (is_member v ws) (Among v ws) → Decides (match_ordering r false true (is_member v ws)) ((v ≡ w) ⊎ Among v ws)
member_case v w ws Less e b r d = (λ h. cc, λ h. ⊎_elim (λ q. absurd (never_below_itself v (ap (value_cmp v) q ∙ e))) (λ a. absurd (never_below_itself v (below_next v w v e (below_each w ws b r v a)))) h)
member_case v w ws Equal e b r d = (λ h. inl (value_exact v w e), λ h. refl)
member_case v w ws Greater e b r d = (λ h. inr (d.0 h), λ h. ⊎_elim (λ q. absurd (never_below_itself v (ap (λ k. value_cmp k v) q ∙ turned v w e))) d.1 h)

pub member_Decides : (v : V) (ws : Vs) → are_rising ws ≡ true → Decides (is_member v ws) (Among v ws)
member_Decides v no_values r = (λ h. cc, λ h. absurd h)
member_Decides v (value w ws) r =
    let p = rising_parts w ws r in
    member_case v w ws (value_cmp v w) refl p.0 p.1 (member_Decides v ws p.1)

-- rising lists with the same members are one
head_is : (v w : V) (vs ws : Vs) → is_below v vs ≡ true → are_rising vs ≡ true → is_below w ws ≡ true → are_rising ws ≡ true → Among v (value w ws) → Among w (value v vs) → v ≡ w
head_is v w vs ws b r c s (inl e) k = e
head_is v w vs ws b r c s (inr a) (inl e) = sym e
head_is v w vs ws b r c s (inr a) (inr d) = absurd (never_below_itself v (below_next v w v (below_each v vs b r w d) (below_each w ws c s v a)))

later : (v w u : V) (vs ws : Vs) → v ≡ w → is_below v vs ≡ true → are_rising vs ≡ true → Among u vs → Among u (value w ws) → Among u ws
later v w u vs ws e b r a (inl q) = absurd (never_below_itself v (ap (value_cmp v) (e ∙ sym q) ∙ below_each v vs b r u a))
later v w u vs ws e b r a (inr k) = k

pub same_rising : (vs ws : Vs) → are_rising vs ≡ true → are_rising ws ≡ true → ((u : V) → Among u vs → Among u ws) → ((u : V) → Among u ws → Among u vs) → vs ≡ ws
same_rising no_values no_values r s f g = refl
same_rising no_values (value w ws) r s f g = absurd (g w (inl refl))
same_rising (value v vs) no_values r s f g = absurd (f v (inl refl))
same_rising (value v vs) (value w ws) r s f g =
    let p = rising_parts v vs r in
    let q = rising_parts w ws s in
    let e = head_is v w vs ws p.0 p.1 q.0 q.1 (f v (inl refl)) (g w (inl refl)) in
    let rest = same_rising vs ws p.1 q.1 (λ u a. later v w u vs ws e p.0 p.1 a (f u (inr a))) (λ u a. later w v u ws vs (sym e) q.0 q.1 a (g u (inr a))) in
    λ i. value (e i) (rest i)

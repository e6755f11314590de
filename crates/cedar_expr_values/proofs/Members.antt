-- The members of a code set are those of the model's: what is asked of rising members, and the set that is made.
use Rattle.std.proofs.Common.{◌≡◌, suc, Bool, true, false, not, ◌&&◌, List, [], ◌∷◌, map, length, Result, Ok, Err, IfOk, refl, sym, ap, ◌∙◌}
use Rattle.std.specs.Ordering.{match_ordering}
use Rattle.std.specs.List.{AllByRecursion}
use Rattle.std.specs.List.Sorted.{IsStrictlySortedBy}
use Rattle.std.specs.declared.cmp.Ordering.{Ordering}
use Rattle.std.specs.declared.cmp.Ordering.TheVariants.{Less, Equal, Greater}
use Rattle.cedar_expr_model.specs.Value.{Vs, prim, values_list}
use Rattle.cedar_expr_model.specs.Order.{value_cmp}
use Rattle.cedar_expr_model.specs.Canonical.{are_rising, are_canonical, members_made, is_member, is_subset, is_disjoint}
use Rattle.cedar_expr_model.specs.Made as model
use Rattle.cedar_expr_model.specs.Made.{Made, made_prim, Mades}
use Rattle.cedar_expr_model.proofs.Lists.{both_hold}
use Rattle.cedar_expr_model.proofs.Rising.{is_below, rising_parts, less_is, below_next}
use Rattle.cedar_expr_model.proofs.Sets.{made_rises}
use Rattle.cedar_expr_leaves.specs.declared.literal.Literal.{Literal}
use Rattle.cedar_expr_leaves.specs.Literals.{literal_of}
use Rattle.cedar_expr_values.specs.Extension.{Extension}
use Rattle.cedar_expr_values.specs.Rising.{placed, in_rising, is_among, all_among, none_among}
use Rattle.cedar_expr_values.specs.Kept.{KeptSet}
use Rattle.cedar_expr_values.specs.Members.{bare_members}
use Rattle.cedar_expr_values.specs.Values.{made, bare, mades, bares, made_list, made_cmp, members_as_made}
use Rattle.cedar_expr_values.specs.declared.value.Value.{Value}
use Rattle.cedar_expr_values.specs.declared.value.Set.{Set}

module _ {X : Type 0} (seen : X → Extension) where
  -- the values of a list as members
  abbrev pub listed : List (Value X) → Vs
  listed vs = model.bares (made_list (map (made seen) vs))

  pub length_is : (vs : List (Value X)) → length vs ≡ length (values_list (listed vs))
  length_is [] = refl
  length_is (v ∷ vs) = ap (λ n. suc n) (length_is vs)

  module _ (R : Value X → Value X → Ordering) (agree : (v w : Value X) → R v w ≡ value_cmp (bare seen v) (bare seen w)) where
    member_is : (v : Value X) (ws : List (Value X)) → is_among R v ws ≡ is_member (bare seen v) (listed ws)
    member_is v [] = refl
    member_is v (w ∷ ws) = ap (λ r. match_ordering r false true (is_among R v ws)) (agree v w) ∙ ap (match_ordering (value_cmp (bare seen v) (bare seen w)) false true) (member_is v ws)

    pub subset_is : (vs ws : List (Value X)) → all_among R vs ws ≡ is_subset (listed vs) (listed ws)
    subset_is [] ws = refl
    subset_is (v ∷ vs) ws = ap (λ t. t && all_among R vs ws) (member_is v ws) ∙ ap (λ t. is_member (bare seen v) (listed ws) && t) (subset_is vs ws)

    disjoint_is : (vs ws : List (Value X)) → none_among R vs ws ≡ is_disjoint (listed vs) (listed ws)
    disjoint_is [] ws = refl
    disjoint_is (v ∷ vs) ws = ap (λ t. not t && none_among R vs ws) (member_is v ws) ∙ ap (λ t. not (is_member (bare seen v) (listed ws)) && t) (disjoint_is vs ws)

    -- rising members rise by the order of the code
    all_below : (v : Value X) (ws : List (Value X)) → is_below (bare seen v) (listed ws) ≡ true → are_rising (listed ws) ≡ true → AllByRecursion (λ w. R v w ≡ Less) ws
    all_below v [] b r = tt
    all_below v (w ∷ ws) b r =
        let p = rising_parts (bare seen w) (listed ws) r in
        let e = less_is (value_cmp (bare seen v) (bare seen w)) b in
        (agree v w ∙ e, all_below v ws (above v w ws e p.0) p.1)
      where
        above : (u w : Value X) (ws : List (Value X)) → value_cmp (bare seen u) (bare seen w) ≡ Less → is_below (bare seen w) (listed ws) ≡ true → is_below (bare seen u) (listed ws) ≡ true
        above u w [] e b = refl
        above u w (x ∷ ws) e b = let f = below_next (bare seen u) (bare seen w) (bare seen x) e (less_is (value_cmp (bare seen w) (bare seen x)) b) in rw f refl

    pub rises : (ws : List (Value X)) → are_rising (listed ws) ≡ true → IsStrictlySortedBy R ws
    unfolding IsStrictlySortedBy
    rises [] r = tt
    rises (w ∷ ws) r =
        let p = rising_parts (bare seen w) (listed ws) r in
        (all_below w ws p.0 p.1, rises ws p.1)

    -- what is asked of the members of a set, where its answer is that for the list of them
    pub contains_is : (v : Value X) (ms : Mades) (ws : List (Value X)) (r : Bool) → ms ≡ made_list (map (made seen) ws) → (IsStrictlySortedBy R ws → r ≡ is_among R v ws)
        → are_rising (model.bares ms) ≡ true → r ≡ is_member (bare seen v) (model.bares ms)
    contains_is v ms ws r e f h = f (rises ws (sym (ap (λ ns. are_rising (model.bares ns)) e) ∙ h)) ∙ member_is v ws ∙ ap (λ ns. is_member (bare seen v) (model.bares ns)) (sym e)

    pub is_subset_is : (ms ns : Mades) (vs ws : List (Value X)) (r : Bool) → ms ≡ made_list (map (made seen) vs) → ns ≡ made_list (map (made seen) ws)
        → (IsStrictlySortedBy R vs → r ≡ all_among R vs ws) → are_rising (model.bares ms) ≡ true → r ≡ is_subset (model.bares ms) (model.bares ns)
    is_subset_is ms ns vs ws r d e f h =
        f (rises vs (sym (ap (λ ls. are_rising (model.bares ls)) d) ∙ h)) ∙ subset_is vs ws ∙ ap (λ ls. is_subset (model.bares ls) (listed ws)) (sym d)
        ∙ ap (λ ls. is_subset (model.bares ms) (model.bares ls)) (sym e)

    pub is_disjoint_is : (ms ns : Mades) (vs ws : List (Value X)) (r : Bool) → ms ≡ made_list (map (made seen) vs) → ns ≡ made_list (map (made seen) ws)
        → (IsStrictlySortedBy R vs → r ≡ none_among R vs ws) → are_rising (model.bares ms) ≡ true → r ≡ is_disjoint (model.bares ms) (model.bares ns)
    is_disjoint_is ms ns vs ws r d e f h =
        f (rises vs (sym (ap (λ ls. are_rising (model.bares ls)) d) ∙ h)) ∙ disjoint_is vs ws ∙ ap (λ ls. is_disjoint (model.bares ls) (listed ws)) (sym d)
        ∙ ap (λ ls. is_disjoint (model.bares ms) (model.bares ls)) (sym e)

    -- the set that is made, as it was made
    as_placed : (v : Value X) (ws : List (Value X)) → map (made seen) (placed R v ws) ≡ placed made_cmp (made seen v) (map (made seen) ws)
    as_placed v [] = refl
    as_placed v (w ∷ ws) = ap (λ r. map (made seen) (match_ordering r (v ∷ w ∷ ws) (v ∷ ws) (w ∷ placed R v ws))) (agree v w) ∙ go (value_cmp (bare seen v) (bare seen w)) (as_placed v ws)
      where
        go : (r : Ordering) → map (made seen) (placed R v ws) ≡ placed made_cmp (made seen v) (map (made seen) ws)
            → map (made seen) (match_ordering r (v ∷ w ∷ ws) (v ∷ ws) (w ∷ placed R v ws))
            ≡ match_ordering r (made seen v ∷ made seen w ∷ map (made seen) ws) (made seen v ∷ map (made seen) ws) (made seen w ∷ placed made_cmp (made seen v) (map (made seen) ws))
        go Less h = refl
        go Equal h = refl
        go Greater h = ap (λ ms. made seen w ∷ ms) h

    as_made : (vs : List (Value X)) → map (made seen) (in_rising R vs) ≡ in_rising made_cmp (map (made seen) vs)
    as_made [] = refl
    as_made (v ∷ vs) = as_placed v (in_rising R vs) ∙ ap (placed made_cmp (made seen v)) (as_made vs)

    -- what is made of the values in rising order rises
    pub new_rises : (vs ws : List (Value X)) → ws ≡ in_rising R vs → are_rising (model.bares (made_list (map (made seen) ws))) ≡ true
    new_rises vs ws e =
        ap (λ us. are_rising (model.bares (made_list us))) (ap (map (made seen)) e ∙ as_made vs) ∙ ap are_rising (bare_members (made seen) vs) ∙ made_rises (map (bare seen) vs)

    -- what is made of the values in rising order is the set of the values as they were made
    pub new_as_made : {E : Type 0} (vs ws : List (Value X)) (r : Result (Set X) E) → ws ≡ in_rising R vs → IfOk r (λ s. mades seen s ≡ made_list (map (made seen) ws))
        → IfOk r (λ s. mades seen s ≡ members_as_made (map (made seen) vs))
    new_as_made vs ws (Ok s) e f = f ∙ ap (λ us. made_list (map (made seen) us)) e ∙ ap made_list (as_made vs)
    new_as_made vs ws (Err x) e f = f

-- the members of a set rise: its type says so
pub kept_rises : (s : KeptSet) → are_rising (model.bares s.0) ≡ true
kept_rises s = (both_hold (are_rising (model.bares s.0)) (are_canonical (model.bares s.0)) s.1).0

module _ {X E : Type 0} (seen : X → Extension) where
  pub new_members : (vs : List (Value X)) (r : Result (Set X) E) → IfOk r (λ s. mades seen s ≡ members_as_made (map (made seen) vs)) → IfOk r (λ s. bares seen s ≡ members_made (map (bare seen) vs))
  new_members vs (Ok s) f = ap model.bares f ∙ bare_members (made seen) vs
  new_members vs (Err x) f = f

  -- the set of values that are literals
  pub literal_members : (ls : List Literal) (vs : List (Value X)) (r : Result (Set X) E) → map (made seen) vs ≡ map (λ l. made_prim (literal_of l)) ls
      → IfOk r (λ s. mades seen s ≡ members_as_made (map (made seen) vs)) → IfOk r (λ s. mades seen s ≡ members_as_made (map (λ l. made_prim (literal_of l)) ls))
  literal_members ls vs (Ok s) e f = f ∙ ap members_as_made e
  literal_members ls vs (Err x) e f = f

  pub literals_are : (ls : List Literal) (r : Result (Set X) E) → IfOk r (λ s. mades seen s ≡ members_as_made (map (λ l. made_prim (literal_of l)) ls))
      → IfOk r (λ s. bares seen s ≡ members_made (map (λ l. prim (literal_of l)) ls))
  literals_are ls (Ok s) f = ap model.bares f ∙ bare_members (λ l. made_prim (literal_of l)) ls
  literals_are ls (Err x) f = f

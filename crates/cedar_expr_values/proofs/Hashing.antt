-- What is asked of the hashed literals of a set is what is asked of its members.
use Rattle.std.proofs.Common.{◌≡◌, ◌+◌, ◌<◌, ℕ, Bool, true, false, cond, ◌||◌, List, [], ◌∷◌, take, length, get_or, refl, sym, ap, ◌∙◌}
use Rattle.std.specs.HashSet.{HashSet, contains}
use Rattle.std.specs.Ordering.{match_ordering, is_eq, ordering_reverse}
use Rattle.std.specs.List.{list_any}
use Rattle.std.proofs.lemmas.List.Folds.{list_any_more}
use Rattle.std.proofs.Math.Bool.{or_comm}
use Rattle.std.specs.declared.cmp.Ordering.{Ordering}
use Rattle.std.specs.declared.cmp.Ordering.TheVariants.{Less, Equal, Greater}
use Rattle.cedar_expr_model.specs.Value.{V, Vs, prim, no_values, value, values_list}
use Rattle.cedar_expr_model.specs.Order.{value_cmp, value_eq}
use Rattle.cedar_expr_model.specs.Canonical.{are_rising, is_member}
use Rattle.cedar_expr_model.proofs.Rising.{is_below, rising_parts, less_is, is_less, below_next}
use Rattle.cedar_expr_model.proofs.ValueOrder.{value_linear}
use Rattle.cedar_expr_leaves.specs.contracts.literal.LiteralPartialEq.TheImpl as equality
use Rattle.cedar_expr_leaves.specs.declared.literal.Literal.{Literal}
use Rattle.cedar_expr_leaves.specs.Literals.{literal_of}
use Rattle.cedar_expr_leaves.proofs.Literals.{literals_eq_is}
use Rattle.cedar_expr_values.specs.Extension.{Extension}
use Rattle.cedar_expr_values.specs.Hashed.{is_literal, all_literals, is_one, HoldsThose, HoldsLiterals}
use Rattle.cedar_expr_values.specs.Values.{bare, bare_kind}
use Rattle.cedar_expr_values.specs.declared.value.Value.{Value}
use Rattle.cedar_expr_values.specs.declared.value.ValueKind.{ValueKind}
use Rattle.cedar_expr_values.specs.declared.value.ValueKind.TheVariants.{Lit, Set as SetKind, Record as RecordKind, ExtensionValue}
use Rattle.cedar_expr_values.proofs.Members.{listed}

module _ (v : V) where
  above : (w : V) (ws : Vs) → value_cmp v w ≡ Less → is_below w ws ≡ true → is_below v ws ≡ true
  above w no_values e b = refl
  above w (value x ws) e b = is_less (value_cmp v x) (below_next v w x e (less_is (value_cmp w x) b))

  none_above : (ws : Vs) → is_below v ws ≡ true → are_rising ws ≡ true → list_any (value_eq v) (values_list ws) ≡ false
  none_above no_values b r = refl
  none_above (value w ws) b r =
      let p = rising_parts w ws r in
      let e = less_is (value_cmp v w) b in
      ap (λ o. is_eq o || list_any (value_eq v) (values_list ws)) e ∙ none_above ws (above w ws e p.0) p.1

  -- a member of a rising list is one of them
  any_is_member : (ws : Vs) → are_rising ws ≡ true → list_any (value_eq v) (values_list ws) ≡ is_member v ws
  any_is_member no_values r = refl
  any_is_member (value w ws) r = let p = rising_parts w ws r in go (value_cmp v w) refl p.0 p.1 (any_is_member ws p.1)
    where
      go : (o : Ordering) → value_cmp v w ≡ o → is_below w ws ≡ true → are_rising ws ≡ true → list_any (value_eq v) (values_list ws) ≡ is_member v ws
          → (is_eq o || list_any (value_eq v) (values_list ws)) ≡ match_ordering o false true (is_member v ws)
      go Less e b r h = none_above ws (above w ws e b) r
      go Equal e b r h = refl
      go Greater e b r h = h

-- what is no literal is no member of a list of literals
pub no_member : (v : V) (ws : Vs) → is_literal v ≡ false → all_literals ws ≡ true → is_member v ws ≡ false
no_member v no_values h a = refl
no_member v (value (prim p) ws) h a = go v h (no_member v ws h a)
  where
    go : (v : V) → is_literal v ≡ false → is_member v ws ≡ false → match_ordering (value_cmp v (prim p)) false true (is_member v ws) ≡ false
    go (prim q) h e = cc
    go v h e = e
no_member v (value w ws) h a = cc

-- in either order
alike : (v w : V) → value_eq v w ≡ value_eq w v
alike v w = go (value_cmp v w) (value_cmp w v) (value_linear.total.antisymm w v)
  where
    go : (r s : Ordering) → s ≡ ordering_reverse r → is_eq r ≡ is_eq s
    go Less s e = ap is_eq (sym e)
    go Equal s e = ap is_eq (sym e)
    go Greater s e = ap is_eq (sym e)

or_is : (a b : Bool) → cond a true b ≡ (a || b)
or_is true b = refl
or_is false b = refl

module _ {X : Type 0} (seen : X → Extension) where
  one_is : (vs : List (Value X)) (p : Literal) → is_one seen vs p ≡ list_any (value_eq (prim (literal_of p))) (values_list (listed seen vs))
  one_is [] p = refl
  one_is (v ∷ vs) p = ap (λ t. value_eq (prim (literal_of p)) (bare seen v) || t) (one_is vs p)

  -- what is not of the kind of literals is none
  pub no_literal : (k : ValueKind X) → ((l : Literal) → k ≡ Lit l → ⊥) → is_literal (bare_kind seen k) ≡ false
  no_literal (Lit l) f = absurd (f l refl)
  no_literal (SetKind s) f = refl
  no_literal (RecordKind r) f = refl
  no_literal (ExtensionValue x) f = refl

  -- whether a literal is hashed is whether it is a member
  pub hashed_is : {S : Type 0} (h : HashSet Literal S) (vs : List (Value X)) → HoldsThose seen h vs → are_rising (listed seen vs) ≡ true → HoldsLiterals h (listed seen vs)
  hashed_is h vs t r p = t p ∙ one_is vs p ∙ any_is_member (prim (literal_of p)) (listed seen vs) r

  -- one more that is put in
  pub one_put : {S : Type 0} (old new : HashSet Literal S) (k l : Literal) (v : Value X) (vs : List (Value X)) (i : ℕ) (d : Value X) → v.kind ≡ Lit l → literal_of k ≡ literal_of l
      → ((q : Literal) → contains (equality.ghosts).eq new q ≡ cond ((equality.ghosts).eq k q) true (contains (equality.ghosts).eq old q))
      → i < length vs → v ≡ get_or vs i d → HoldsThose seen old (take i vs) → HoldsThose seen new (take (i + 1) vs)
  one_put old new k l v vs i d is copy put h at inv p =
      put p
      ∙ ap (λ b. cond b true (contains (equality.ghosts).eq old p))
      (literals_eq_is k p ∙ alike (prim (literal_of k)) (prim (literal_of p)) ∙ ap (λ q. value_eq (prim (literal_of p)) (prim q)) copy ∙ sym (ap (λ c. value_eq (prim (literal_of p)) (bare_kind seen c)) is)
      ∙ ap (λ w. value_eq (prim (literal_of p)) (bare seen w)) at)
      ∙ or_is (value_eq (prim (literal_of p)) (bare seen (get_or vs i d))) (contains (equality.ghosts).eq old p)
      ∙ ap (λ t. value_eq (prim (literal_of p)) (bare seen (get_or vs i d)) || t) (inv p)
      ∙ or_comm (value_eq (prim (literal_of p)) (bare seen (get_or vs i d))) (is_one seen (take i vs) p)
      ∙ sym (list_any_more (λ w. value_eq (prim (literal_of p)) (bare seen w)) vs i d h)

-- What the laws of the code's values say.
-- Rule: values and equality (docs/RULES.md).
use Rattle.std.specs.Prelude.{◌≡◌, ℕ, Bool, true, List}
use Rattle.std.specs.declared.cmp.Ordering.{Ordering}
use Rattle.cedar_expr_model.specs.Value.{V}
use Rattle.cedar_expr_model.specs.Order.{value_cmp, value_eq}
use Rattle.cedar_expr_model.specs.Canonical.{is_member, is_canonical}
use Rattle.cedar_expr_values.specs.Extension.{Extension}
use Rattle.cedar_expr_values.specs.Values.{bare, bares}
use Rattle.cedar_expr_values.specs.declared.value.Value.{Value}
use Rattle.cedar_expr_values.specs.declared.value.Set.{Set}

module _ {X : Type 0} (seen : X → Extension) where
  -- an order of values is that of what they are alone
  abbrev pub OrderedAsBare : (Value X → Value X → Ordering) → Type 0
  OrderedAsBare cmp = (v w : Value X) → cmp v w ≡ value_cmp (bare seen v) (bare seen w)

  -- so is an equality
  abbrev pub EqualAsBare : (Value X → Value X → Bool) → Type 0
  EqualAsBare eq = (v w : Value X) → eq v w ≡ value_eq (bare seen v) (bare seen w)

  -- values that are the same alone feed a hasher alike
  abbrev pub HashedAsBare : (Value X → List (List ℕ)) → Type 0
  HashedAsBare input = (v w : Value X) → bare seen v ≡ bare seen w → input v ≡ input w

  -- extension values of one type and key feed a hasher alike
  abbrev pub HashedAsSeen : (X → List (List ℕ)) → Type 0
  HashedAsSeen input = (x y : X) → (seen x).kind ≡ (seen y).kind → (seen x).key ≡ (seen y).key → input x ≡ input y

  -- sets are the same where they have the same members
  abbrev pub SetsAreTheirMembers : Type 0
  SetsAreTheirMembers =
      (s t : Set X) → ((v : V) → is_member v (bares seen s) ≡ is_member v (bares seen t)) → bares seen s ≡ bares seen t

  -- each value is canonical
  abbrev pub ValuesAreCanonical : Type 0
  ValuesAreCanonical = (v : Value X) → is_canonical (bare seen v) ≡ true

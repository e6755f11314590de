-- The literals of a set, hashed beside its members.
-- Rule: values and equality (docs/RULES.md).
use Rattle.std.specs.Prelude.{◌≡◌, Bool, true, false, ◌&&◌, List, map, Option, Some, None}
use Rattle.std.specs.HashSet.{HashSet, contains}
use Rattle.std.specs.List.{list_any}
use Rattle.cedar_expr_model.specs.Value.{V, prim, set_of, record_of, extension, Vs, no_values, value}
use Rattle.cedar_expr_model.specs.Order.{value_eq}
use Rattle.cedar_expr_model.specs.Canonical.{is_member}
use Rattle.cedar_expr_model.specs.Made as model
use Rattle.cedar_expr_leaves.specs.contracts.literal.LiteralPartialEq.TheImpl as equality
use Rattle.cedar_expr_leaves.specs.declared.literal.Literal.{Literal}
use Rattle.cedar_expr_leaves.specs.Literals.{literal_of}
use Rattle.cedar_expr_values.specs.Extension.{Extension}
use Rattle.cedar_expr_values.specs.Values.{made, bare, made_list}
use Rattle.cedar_expr_values.specs.declared.value.Value.{Value}

-- whether it is a literal, and whether each of these is one
abbrev pub is_literal : V → Bool
is_literal (prim p) = true
is_literal (set_of vs) = false
is_literal (record_of fs) = false
is_literal (extension n k) = false

abbrev pub all_literals : Vs → Bool
all_literals no_values = true
all_literals (value v vs) = is_literal v && all_literals vs

-- whether the literal was put in
abbrev pub has_literal : {S : Type 0} → HashSet Literal S → Literal → Bool
has_literal h p = contains (equality.ghosts).eq h p

-- what was put in are the literals that are members
abbrev pub HoldsLiterals : {S : Type 0} → HashSet Literal S → Vs → Type 0
HoldsLiterals h vs = (p : Literal) → has_literal h p ≡ is_member (prim (literal_of p)) vs

module _ {X : Type 0} (seen : X → Extension) where
  -- whether the literal is one of these values
  abbrev pub is_one : List (Value X) → Literal → Bool
  is_one vs p = list_any (λ v. value_eq (prim (literal_of p)) (bare seen v)) vs

  -- what was put in are the literals among these values
  abbrev pub HoldsThose : {S : Type 0} → HashSet Literal S → List (Value X) → Type 0
  HoldsThose h vs = (p : Literal) → has_literal h p ≡ is_one vs p

  -- What is hashed is right: the literals that these values are, where each is one, and else nothing.
  abbrev pub HashedRight : {S : Type 0} → List (Value X) → Option (HashSet Literal S) → Type 0
  HashedRight vs None = all_literals (model.bares (made_list (map (made seen) vs))) ≡ false
  HashedRight vs (Some h) = (all_literals (model.bares (made_list (map (made seen) vs))) ≡ true) × HoldsThose h vs

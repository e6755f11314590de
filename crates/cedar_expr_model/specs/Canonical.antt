-- Canonical values: the members of a set rise, so none is repeated, and the names of a record rise. The sets that are made
-- of any members are canonical.
-- Rule: values and equality (docs/RULES.md).
use Rattle.std.specs.Prelude.{◌&&◌, List, [], ◌∷◌, Bool, true, false, not}
use Rattle.std.specs.Ordering.{match_ordering, is_lt}
use Rattle.cedar_expr_model.specs.Name.{Text}
use Rattle.cedar_expr_model.specs.Value.{V, prim, set_of, record_of, extension, Vs, no_values, value, Fields, no_fields, field, values_list}
use Rattle.cedar_expr_model.specs.Order.{value_cmp, text_cmp}
use Rattle.cedar_expr_model.specs.Lists.{rises}
use Rattle.std.specs.List.{list_all}

-- each member stands before the next, so none is repeated
abbrev pub are_rising : Vs → Bool
are_rising vs = rises value_cmp (values_list vs)

-- the name stands before the first of these
abbrev pub is_before : Text → Fields → Bool
is_before a no_fields = true
is_before a (field b w gs) = is_lt (text_cmp a b)

-- Canonical: the members of each set rise, and the names of each record.
abbrev mutual
  pub is_canonical : V → Bool
  is_canonical (prim p) = true
  is_canonical (set_of vs) = are_rising vs && are_canonical vs
  is_canonical (record_of fs) = have_canonical fs
  is_canonical (extension n k) = true

  pub are_canonical : Vs → Bool
  are_canonical no_values = true
  are_canonical (value v vs) = is_canonical v && are_canonical vs

  pub have_canonical : Fields → Bool
  have_canonical no_fields = true
  have_canonical (field a v fs) = is_canonical v && (is_before a fs && have_canonical fs)

-- the values with one more, in its place
abbrev pub inserted : V → Vs → Vs
inserted v no_values = value v no_values
inserted v (value w ws) = match_ordering (value_cmp v w) (value v (value w ws)) (value w ws) (value w (inserted v ws))

-- the set of these members
abbrev pub members_made : List V → Vs
members_made [] = no_values
members_made (v ∷ vs) = inserted v (members_made vs)

-- the set of these members as a value
abbrev pub set_made : List V → V
set_made vs = set_of (members_made vs)

-- whether the value is a member
abbrev pub is_member : V → Vs → Bool
is_member v no_values = false
is_member v (value w ws) = match_ordering (value_cmp v w) false true (is_member v ws)

-- each is a member of the other list
abbrev pub is_subset : Vs → Vs → Bool
is_subset vs ws = list_all (λ v. is_member v ws) (values_list vs)

-- none is a member of the other list
abbrev pub is_disjoint : Vs → Vs → Bool
is_disjoint vs ws = list_all (λ v. not (is_member v ws)) (values_list vs)

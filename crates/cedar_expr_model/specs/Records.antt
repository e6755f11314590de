-- Records made of pairs: the fields in the order of their names.
-- Rule: repeated names; expressions; values and equality (docs/RULES.md).
use Rattle.std.specs.Prelude.{List, [], ◌∷◌, map, Bool}
use Rattle.std.specs.Ordering.{match_ordering}
use Rattle.cedar_expr_model.specs.Name.{Text}
use Rattle.cedar_expr_model.specs.Value.{V, record_of, Fields, no_fields, field}
use Rattle.cedar_expr_model.specs.Tree.{Tree, record_literal}
use Rattle.cedar_expr_model.specs.Order.{text_cmp}
use Rattle.cedar_expr_model.specs.Builder.{tree_fields}
use Rattle.cedar_expr_model.specs.Lists.{rises}

-- the pairs with one more in its place, unless one of its name is there
abbrev pub pair_placed : {A : Type 0} → Text → A → List (Text × A) → List (Text × A)
pair_placed a x [] = (a, x) ∷ []
pair_placed a x (p ∷ ps) = match_ordering (text_cmp a p.0) ((a, x) ∷ p ∷ ps) (p ∷ ps) (p ∷ pair_placed a x ps)

-- the pairs in the order of their names; of a repeated name the last stands
abbrev pub in_order : {A : Type 0} → List (Text × A) → List (Text × A)
in_order [] = []
in_order (p ∷ ps) = pair_placed p.0 p.1 (in_order ps)

-- the names rise, so none is repeated
abbrev pub names_rise : {A : Type 0} → List (Text × A) → Bool
names_rise ps = rises text_cmp (map (λ p. p.0) ps)

-- these values as the fields of a record
abbrev pub fields : List (Text × V) → Fields
fields [] = no_fields
fields (p ∷ ps) = field p.0 p.1 (fields ps)

-- the record of these values, and the expression of a record of these expressions
abbrev pub record_made : List (Text × V) → V
record_made ps = record_of (fields (in_order ps))

abbrev pub record_tree : List (Text × Tree) → Tree
record_tree ps = record_literal (tree_fields (in_order ps))

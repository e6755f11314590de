-- Facts along a path of attributes, and keys that all rise or all fall.
use Rattle.std.specs.Prelude.{◌≡◌, ⊤, List, [], ◌∷◌, Bool, false}
use Rattle.std.proofs.Common.{◌⊎◌}
use Rattle.std.specs.Ordering.{is_gt}
use Rattle.std.specs.List.{AllByRecursion}
use Rattle.std.specs.List.Sorted.{IsStrictlySortedBy}
use Rattle.std.specs.declared.cmp.Ordering.{Ordering}
use Rattle.cedar_expr_model.specs.Tree.{Tree, get_attr}
use Rattle.cedar_expr_shapes.specs.Shapes.{shape_of}
use Rattle.cedar_typechecker_environments.specs.declared.facts.Capability.{Capability}
use Rattle.cedar_typechecker_environments.specs.declared.facts.Capability.TheVariants.{Attribute, Tag}

-- each key is below all that follow it, or each is above them
abbrev pub RiseOrFall : {K : Type 0} → (K → K → Ordering) → List K → Type 0
RiseOrFall R ks = IsStrictlySortedBy R ks ⊎ IsStrictlySortedBy (λ a b. R b a) ks

-- whether the first key is above the second
abbrev pub first_falls : {K : Type 0} → (K → K → Ordering) → List K → Bool
first_falls R [] = false
first_falls R (x ∷ []) = false
first_falls R (x ∷ (y ∷ ys)) = is_gt (R x y)

-- one attribute or more lead from the first expression to the second
abbrev pub Leads : Tree → Tree → Type 0
Leads t (get_attr u a) = (t ≡ u) ⊎ Leads t u
Leads t u = ⊥

-- the fact is of an attribute, of an expression from which attributes lead to this one
abbrev pub LeadsTo : Tree → Capability → Type 0
LeadsTo u (Attribute e a) = Leads (shape_of e) u
LeadsTo u (Tag e t) = ⊥

-- attributes lead from the expression of the one fact to that of the other
abbrev pub Before : Capability → Capability → Type 0
Before k (Attribute e a) = LeadsTo (shape_of e) k
Before k (Tag e t) = ⊥

-- facts of attributes along a path: each of an expression further on than those before
abbrev pub AlongPath : List Capability → Type 0
AlongPath [] = ⊤
AlongPath (k ∷ ks) = AllByRecursion (Before k) ks × AlongPath ks

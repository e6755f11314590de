-- What is gathered of actions one after the other: their types, and the pairs of these.
use Rattle.std.proofs.Common.{◌≡◌, ◌||◌, Bool, true, false, cond, List, [], ◌∷◌, ◌++◌, map, refl, sym, ap, ◌∙◌}
use Rattle.std.specs.BTreeMap.{is_at}
use Rattle.std.specs.List.{list_any, flat_map}
use Rattle.cedar_expr_model.specs.Name.{Name, name_eq}
use Rattle.cedar_expr_model.specs.Uid.{Uid}
use Rattle.cedar_expr_names.specs.Views.{type_name_of}
use Rattle.cedar_expr_names.specs.declared.entity.EntityType.{EntityType}
use Rattle.cedar_schema_model.specs.Kept.{KeptAction}
use Rattle.cedar_typechecker_model.specs.Asked.{KindPair, pairs_of, is_pair, kind_is_below}
use Rattle.cedar_typechecker.specs.Pairs.{types_by}
use Rattle.cedar_typechecker.proofs.Putting.{same_at, one_more as either_way}

or_none : (b : Bool) → (b || false) ≡ b
or_none true = refl
or_none false = refl

-- x moves behind what stands before it
moved : (a x b : Bool) → (a || (x || b)) ≡ ((x || a) || b)
moved true true b = refl
moved true false b = refl
moved false true b = refl
moved false false b = refl

-- one that holds of the next of them, or held before
pub one_more : {X : Type 0} (p : X → Bool) (rest later : List X) (x : X) → rest ≡ x ∷ later → (old new : Bool) → new ≡ (p x || old) → (whole : Bool) → (list_any p rest || old) ≡ whole → (list_any p later || new) ≡ whole
one_more p rest later x is old new e whole h =
    ap (λ b. list_any p later || b) e ∙ moved (list_any p later) (p x) old ∙ ap (λ xs. list_any p xs || old) (sym is) ∙ h

pub none_left : {X : Type 0} (p : X → Bool) (rest : List X) → rest ≡ [] → (new whole : Bool) → (list_any p rest || new) ≡ whole → new ≡ whole
none_left p rest is new whole h = ap (λ xs. list_any p xs || new) (sym is) ∙ h

-- pairs of actions, each by itself
any_joined : {X : Type 0} (p : X → Bool) (xs ys : List X) → list_any p (xs ++ ys) ≡ (list_any p xs || list_any p ys)
any_joined p [] ys = refl
any_joined p (x ∷ xs) ys = ap (λ b. p x || b) (any_joined p xs ys) ∙ regroup (p x) (list_any p xs) (list_any p ys)
  where
    regroup : (a b c : Bool) → (a || (b || c)) ≡ ((a || b) || c)
    regroup true b c = refl
    regroup false b c = refl

pub pairs_each : (as_ : List KeptAction) (m n : Name) → kind_is_below as_ m n ≡ list_any (λ a. list_any (is_pair m n) (pairs_of a)) as_
pairs_each [] m n = refl
pairs_each (a ∷ as_) m n = any_joined (is_pair m n) (pairs_of a) (flat_map pairs_of as_) ∙ ap (λ b. list_any (is_pair m n) (pairs_of a) || b) (pairs_each as_ m n)

pub nothing_yet : (b c : Bool) → c ≡ false → (b || c) ≡ b
nothing_yet b c e = ap (λ d. b || d) e ∙ or_none b

-- the pairs of an action with these
abbrev pub pairs_under : KeptAction → List Uid → List KindPair
pairs_under a us = map (λ u. record { below = u.kind; above = a.uid.kind }) us

-- a type that is put among others
pub type_put : (ty q : EntityType) (n : Name) → type_name_of ty ≡ n → (new old : Bool) → new ≡ cond (is_at (types_by ty) q) true old → new ≡ (name_eq (type_name_of q) n || old)
type_put ty q n e new old h = h ∙ either_way (is_at (types_by ty) q) old ∙ ap (λ b. b || old) (same_at ty q ∙ ap (name_eq (type_name_of q)) e)

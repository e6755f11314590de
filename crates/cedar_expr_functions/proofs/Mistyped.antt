-- The first argument of a wrong type, argument by argument.
use Rattle.std.proofs.Common.{◌≡◌, ◌&&◌, List, [], ◌∷◌, map, Bool, true, false, Option, Some, None, is_none, cond, refl, sym, ap, ◌∙◌, subst}
use Rattle.cedar_expr_model.specs.Value.{V}
use Rattle.cedar_expr_model.specs.Tree.{CoreType}
use Rattle.cedar_expr_model.specs.Order.{core_eq}
use Rattle.cedar_expr_model.specs.Substitution.{core_type_of}
use Rattle.cedar_expr_model.specs.Table.{are_of_types}
use Rattle.cedar_expr_functions.specs.Signatures.{after_one, first_mistyped}

-- none is left where there are no more arguments
pub none_left : (as_ : List CoreType) → first_mistyped as_ [] ≡ None
none_left [] = refl
none_left (a ∷ as_) = refl

-- an argument of its type is passed over
pub passed : (a : CoreType) (as_ bs : List CoreType) (v : V) (vs : List V) → bs ≡ a ∷ as_ → core_eq a (core_type_of v) ≡ true → first_mistyped bs (v ∷ vs) ≡ first_mistyped (after_one bs) vs
passed a as_ bs v vs e h =
    ap (λ cs. first_mistyped cs (v ∷ vs)) e ∙ ap (λ b. cond b (first_mistyped (after_one (a ∷ as_)) vs) (Some (a, core_type_of v))) h ∙ ap (λ cs. first_mistyped (after_one cs) vs) (sym e)

is_none_at : {A : Type 0} (b : Bool) (o : Option A) (x : A) (r : Bool) → r ≡ is_none o → (b && r) ≡ is_none (cond b o (Some x))
is_none_at true o x r h = h
is_none_at false o x r h = refl

-- The arguments are of their types where none is the first that isn't.
pub of_types : (as_ : List CoreType) (vs : List V) → are_of_types as_ vs ≡ is_none (first_mistyped as_ vs)
of_types [] vs = refl
of_types (a ∷ as_) [] = refl
of_types (a ∷ []) (v ∷ vs) = is_none_at (core_eq a (core_type_of v)) (first_mistyped (a ∷ []) vs) (a, core_type_of v) (are_of_types (a ∷ []) vs) (of_types (a ∷ []) vs)
of_types (a ∷ b ∷ bs) (v ∷ vs) = is_none_at (core_eq a (core_type_of v)) (first_mistyped (b ∷ bs) vs) (a, core_type_of v) (are_of_types (b ∷ bs) vs) (of_types (b ∷ bs) vs)

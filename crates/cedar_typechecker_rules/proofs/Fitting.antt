-- Arguments and the types of parameters, argument by argument.
use Rattle.std.proofs.Common.{◌≡◌, ◌&&◌, Bool, true, false, List, [], ◌∷◌, refl, sym, ap, ◌∙◌}
use Rattle.cedar_schema_model.specs.Types.{Ty, strict}
use Rattle.cedar_schema_model.specs.Subtype.{is_subtype}
use Rattle.cedar_typechecker_model.specs.Rules.{arguments_fit}
use Rattle.cedar_typechecker_rules.specs.Arguments.{after_one}

none_due : (ts : List Ty) → arguments_fit [] ts ≡ true
none_due ts = refl

none_left : (ps : List Ty) → arguments_fit ps [] ≡ true
none_left [] = refl
none_left (p ∷ []) = refl
none_left (p ∷ q ∷ ps) = refl

one_fits : (p : Ty) (ps : List Ty) (t : Ty) (ts : List Ty) → arguments_fit (p ∷ ps) (t ∷ ts) ≡ (is_subtype strict t p && arguments_fit (after_one (p ∷ ps)) ts)
one_fits p [] t ts = refl
one_fits p (q ∷ ps) t ts = refl

-- an argument that fits is passed over, and one that doesn't ends it
pub passed : (qs ps : List Ty) (p t : Ty) (ts : List Ty) (whole : Bool) → arguments_fit qs (t ∷ ts) ≡ whole → qs ≡ p ∷ ps → is_subtype strict t p ≡ true → arguments_fit (after_one qs) ts ≡ whole
passed qs ps p t ts whole h e b = ap (λ rs. arguments_fit (after_one rs) ts) e ∙ ap (λ c. c && arguments_fit (after_one (p ∷ ps)) ts) (sym b) ∙ sym (one_fits p ps t ts) ∙ ap (λ rs. arguments_fit rs (t ∷ ts)) (sym e) ∙ h

pub stopped : (qs ps : List Ty) (p t : Ty) (ts : List Ty) (whole : Bool) → arguments_fit qs (t ∷ ts) ≡ whole → qs ≡ p ∷ ps → is_subtype strict t p ≡ false → false ≡ whole
stopped qs ps p t ts whole h e b = ap (λ c. c && arguments_fit (after_one (p ∷ ps)) ts) (sym b) ∙ sym (one_fits p ps t ts) ∙ ap (λ rs. arguments_fit rs (t ∷ ts)) (sym e) ∙ h

pub not_due : (qs ts : List Ty) (whole : Bool) → arguments_fit qs ts ≡ whole → qs ≡ [] → true ≡ whole
not_due qs ts whole h e = ap (λ rs. arguments_fit rs ts) (sym e) ∙ h

pub at_end : (qs ts : List Ty) (whole : Bool) → arguments_fit qs ts ≡ whole → ts ≡ [] → true ≡ whole
at_end qs ts whole h e = sym (none_left qs) ∙ ap (arguments_fit qs) (sym e) ∙ h

-- The warning where a scope fits no environment.
use Rattle.std.proofs.Common.{◌≡◌, Bool, true, false, List, [], ◌∷◌, Option, sym, ap, ◌∙◌}
use Rattle.std.specs.Prelude.{if◌then◌else◌}
use Rattle.std.specs.List.{list_any}
use Rattle.cedar_expr_model.specs.Name.{Text}
use Rattle.cedar_expr_names.specs.declared.loc.Loc.{Loc}
use Rattle.cedar_store_parts.specs.Views.{WarningSeen, fits_no_action}
use Rattle.cedar_schema_model.specs.Schema.{Schema}
use Rattle.cedar_schema_model.specs.Environment.{Environment, environments}
use Rattle.cedar_typechecker_scopes.specs.Applying.{Asked, principal_fits, resource_fits, fits, would_mend, application_warnings}

pub warned : (s : Schema) (id : Text) (l : Option Loc) (a : Asked) (p r : Bool) → list_any (fits s a) (environments s) ≡ false → p ≡ would_mend (λ q. principal_fits s q a) a.principal (environments s) → r ≡ would_mend (λ q. resource_fits s q a) a.resource (environments s) → (fits_no_action id l p r ∷ []) ≡ application_warnings s id l a
warned s id l a p r none pe re =
    let w : WarningSeen = fits_no_action id l (would_mend (λ q. principal_fits s q a) a.principal (environments s)) (would_mend (λ q. resource_fits s q a) a.resource (environments s)) in
    (λ i. fits_no_action id l (pe i) (re i) ∷ []) ∙ sym (ap (λ (c : Bool). if c then [] else (w ∷ [])) none)

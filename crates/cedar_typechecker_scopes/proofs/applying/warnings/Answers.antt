use Rattle.std.proofs.Common.{◌≡◌, map, sym, ap, ◌∙◌, subst}
use Rattle.std.specs.Prelude.{IfOk}
use Rattle.std.specs.List.{list_any}
use Rattle.cedar_schema_model.specs.Environment.{environments}
use Rattle.cedar_store_parts.specs.Parts.{id_text}
use Rattle.cedar_store_parts.specs.Views.{warning_of}
use Rattle.cedar_typechecker_environments.specs.Settings.{environment_of}
use Rattle.cedar_typechecker_scopes.specs.Applying.{principal_fits, resource_fits, fits, would_mend}
use Rattle.cedar_typechecker_scopes.specs.Asking.{asked_of}
use Rattle.cedar_typechecker_scopes.proofs.Warned.{warned}
use Rattle.cedar_typechecker_scopes.proofs.applying.warnings.Goals as goal

pub returns : goal.returns
returns g c =
    let s = g.S.DeclaredAttributes.schema c.args.schema.now in
    let a = asked_of c.args.asked in
    let first = ap (map environment_of) c.as_slice.ensures.value ∙ c.in_ok-envs.ensures in
    let second = ap (map environment_of) c.as_slice-else-fits_one.ensures.value ∙ c.in_ok-envs.ensures in
    let third = ap (map environment_of) c.as_slice-else-fits_one-2.ensures.value ∙ c.in_ok-envs.ensures in
    subst (λ y. IfOk c.fits_nothing.result (λ ws. map warning_of ws.items ≡ y))
    (warned s (id_text c.args.policy_id.now) c.args.source_loc a c.would_mend-principal.result c.would_mend-resource.result
    (sym (c.fits_one.ensures ∙ ap (list_any (fits s a)) first) ∙ c.if-fits_one.false)
    (c.would_mend-principal.ensures ∙ ap (would_mend (λ q. principal_fits s q a) a.principal) second)
    (c.would_mend-resource.ensures ∙ ap (would_mend (λ q. resource_fits s q a) a.resource) third))
    c.fits_nothing.ensures

-- What the scope of a code policy asks for, as the model's.
-- Rule: the scope rules (docs/RULES.md).
use Rattle.std.specs.Prelude.{Bool, true, false}
use Rattle.cedar_store_model.specs.Policy.{Scope}
use Rattle.cedar_store_parts.specs.Parts.{scope_of, action_scope_of}
use Rattle.cedar_store_parts.specs.declared.constraint.PrincipalOrResource.{PrincipalOrResource}
use Rattle.cedar_store_parts.specs.declared.constraint.PrincipalOrResource.TheVariants.{Principal, Resource}
use Rattle.cedar_schema_model.specs.Schema.{Schema}
use Rattle.cedar_schema_model.specs.Environment.{Environment}
use Rattle.cedar_typechecker_scopes.specs.Applying as model
use Rattle.cedar_typechecker_scopes.specs.Applying.{principal_fits, resource_fits, in_for_equal}
use Rattle.cedar_typechecker_scopes.specs.declared.applying.Asked.{Asked}

abbrev pub asked_of : Asked → model.Asked
asked_of a = record { principal = scope_of a.principal.now; action = action_scope_of a.action.now; resource = scope_of a.resource.now }

-- what a part asks for, and whether an environment of an action that is asked for takes what the part asks for
abbrev pub part_asked : model.Asked → PrincipalOrResource → Scope
part_asked a Principal = a.principal
part_asked a Resource = a.resource

abbrev pub takes : Schema → model.Asked → PrincipalOrResource → Scope → Environment → Bool
takes s a Principal q e = principal_fits s q a e
takes s a Resource q e = resource_fits s q a e

abbrev pub perhaps_mended : Bool → Scope → Scope
perhaps_mended true q = in_for_equal q
perhaps_mended false q = q

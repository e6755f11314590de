-- The warnings of a template and of a policy whose scope fits no action.
-- Rule: the scope rules (docs/RULES.md).
use Rattle.std.specs.Prelude.{◌≡◌, map, Bool}
use Rattle.std.specs.declared.alloc.Global.{Global}
use Rattle.std.specs.declared.vec.Vec.{Vec}
use Rattle.cedar_schema_model.specs.Environment.{Environment}
use Rattle.cedar_schema_model.specs.Schema.{Schema}
use Rattle.cedar_store_parts.specs.Views.{warning_of}
use Rattle.cedar_store_parts.specs.declared.constraint.PrincipalOrResource.{PrincipalOrResource}
use Rattle.cedar_store_parts.specs.declared.diagnostics.ValidationWarning.{ValidationWarning}
use Rattle.cedar_store_policies.specs.Policies.{policy_of, policy_loc}
use Rattle.cedar_store_policies.specs.Templates.{template_of, template_loc}
use Rattle.cedar_store_policies.specs.declared.policy.Policy.{Policy}
use Rattle.cedar_store_policies.specs.declared.template.Template.{Template}
use Rattle.cedar_typechecker_scopes.specs.Applying as model
use Rattle.cedar_typechecker_scopes.specs.Applying.{application_warnings, asked_in, asked_linked}
use Rattle.cedar_typechecker_scopes.specs.Asking.{part_asked, takes, perhaps_mended}

abbrev pub WarnsOfTemplate : Schema → Template → Vec ValidationWarning Global → Type 0
WarnsOfTemplate s t ws = map warning_of ws.items ≡ application_warnings s (template_of t).id (template_loc t) (asked_in (template_of t))

abbrev pub WarnsOfPolicy : Schema → Policy → Vec ValidationWarning Global → Type 0
WarnsOfPolicy s p ws = map warning_of ws.items ≡ application_warnings s (policy_of p).id (policy_loc p) (asked_linked (policy_of p))

-- whether an environment of an action that is asked for takes what the part asks for, perhaps with `in` in the place of `==`
abbrev pub takes_part : Schema → model.Asked → PrincipalOrResource → Bool → Environment → Bool
takes_part s a part mended = takes s a part (perhaps_mended mended (part_asked a part))

-- Whether the scope of a policy fits a declared action with its types.
-- Rule: the scope rules (docs/RULES.md).
use Rattle.std.specs.Prelude.{◌&&◌, ◌||◌, List, [], ◌∷◌, Bool, true, not, Option, if◌then◌else◌}
use Rattle.std.specs.List.{list_any}
use Rattle.cedar_expr_model.specs.Name.{Text, Name, name_eq}
use Rattle.cedar_expr_model.specs.Uid.{Uid, uid_eq}
use Rattle.cedar_expr_names.specs.declared.loc.Loc.{Loc}
use Rattle.cedar_store_model.specs.Policy.{Policy, Target, named, own_slot, Scope, any, exactly, inside, of_kind, of_kind_inside, ActionScope, any_action, exactly_action, inside_actions}
use Rattle.cedar_store_parts.specs.Parts.{filled}
use Rattle.cedar_store_parts.specs.Views.{WarningSeen, fits_no_action}
use Rattle.cedar_schema_model.specs.Schema.{Schema}
use Rattle.cedar_schema_model.specs.Descent.{type_descends, action_descends}
use Rattle.cedar_schema_model.specs.Environment.{Environment, environments}

-- whether an entity of this type may be the target, or in it; a slot may be bound to any entity
abbrev pub may_equal : Target → Name → Bool
may_equal (named u) n = name_eq n u.kind
may_equal own_slot n = true

abbrev pub may_be_inside : Schema → Target → Name → Bool
may_be_inside s (named u) n = name_eq n u.kind || type_descends s n u.kind
may_be_inside s own_slot n = true

-- whether an entity of this type may be what a part of a scope asks for
abbrev pub may_meet : Schema → Scope → Name → Bool
may_meet s any n = true
may_meet s (exactly t) n = may_equal t n
may_meet s (inside t) n = may_be_inside s t n
may_meet s (of_kind m) n = name_eq n m
may_meet s (of_kind_inside m t) n = name_eq n m && may_be_inside s t n

-- whether the action is what the action part asks for
abbrev pub is_or_descends : Schema → Uid → Uid → Bool
is_or_descends s u v = uid_eq u v || action_descends s u v

abbrev pub action_meets : Schema → ActionScope → Uid → Bool
action_meets s any_action u = true
action_meets s (exactly_action v) u = uid_eq u v
action_meets s (inside_actions vs) u = list_any (is_or_descends s u) vs

-- what the scope of a policy asks of principal, action and resource
pub record Asked : Type 0 where
  pub principal : Scope
  pub action : ActionScope
  pub resource : Scope

-- what the scope of a policy asks for, and with what its slots are bound to in their place
abbrev pub asked_in : Policy → Asked
asked_in p = record { principal = p.principal; action = p.action; resource = p.resource }

abbrev pub asked_linked : Policy → Asked
asked_linked p = record { principal = filled p.bindings.principal p.principal; action = p.action; resource = filled p.bindings.resource p.resource }

-- whether the action, the type of the principal, or that of the resource of an environment are what is asked for
abbrev pub action_fits : Schema → Asked → Environment → Bool
action_fits s a e = action_meets s a.action e.action

abbrev pub principal_fits : Schema → Scope → Asked → Environment → Bool
principal_fits s q a e = action_fits s a e && may_meet s q e.principal

abbrev pub resource_fits : Schema → Scope → Asked → Environment → Bool
resource_fits s q a e = action_fits s a e && may_meet s q e.resource

abbrev pub fits : Schema → Asked → Environment → Bool
fits s a e = principal_fits s a.principal a e && may_meet s a.resource e.resource

-- the part with `in` in the place of `==`
abbrev pub in_for_equal : Scope → Scope
in_for_equal (exactly (named u)) = inside (named u)
in_for_equal q = q

-- no action that is asked for takes what the part asks for, and with `in` in the place of `==` one would
abbrev pub would_mend : (Scope → Environment → Bool) → Scope → List Environment → Bool
would_mend takes q es = not (list_any (takes q) es) && list_any (takes (in_for_equal q)) es

-- the warning, where the scope fits no declared action with its types
abbrev pub application_warnings : Schema → Text → Option Loc → Asked → List WarningSeen
application_warnings s id l a =
    if list_any (fits s a) (environments s) then []
    else (fits_no_action id l (would_mend (λ q. principal_fits s q a) a.principal (environments s)) (would_mend (λ q. resource_fits s q a) a.resource (environments s)) ∷ [])

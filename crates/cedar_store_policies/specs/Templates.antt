-- What a code template is as the model's policy.
-- Rule: policies and templates (docs/RULES.md).
use Rattle.std.specs.Prelude.{Option}
use Rattle.cedar_expr_names.specs.declared.loc.Loc.{Loc}
use Rattle.cedar_store_model.specs.Policy as model
use Rattle.cedar_store_policies.specs.Places.{Places}
use Rattle.cedar_store_policies.specs.TemplateParts.{made_of, body_places}
use Rattle.cedar_store_policies.specs.declared.template.Template.{Template}

-- the template, which binds no slot
abbrev pub template_of : Template → model.Policy
template_of t = made_of t.body

-- where it stands
abbrev pub template_loc : Template → Option Loc
template_loc t = t.body.loc

-- its places
abbrev pub places_of : Template → Places
places_of t = body_places t.body

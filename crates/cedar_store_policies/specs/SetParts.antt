-- What the entries of a code set of policies are as the model's set.
-- Rule: policies and templates (docs/RULES.md).
use Rattle.std.specs.Prelude.{List, map}
use Rattle.std.specs.declared.alloc.Global.{Global}
use Rattle.std.specs.declared.rc.Rc.{Rc}
use Rattle.cedar_expr_model.specs.Name.{Text}
use Rattle.cedar_store_model.specs.Policy as model
use Rattle.cedar_store_model.specs.PolicySet.{PolicySet}
use Rattle.cedar_store_parts.specs.Parts.{id_text}
use Rattle.cedar_store_policies.specs.Templates.{template_of}
use Rattle.cedar_store_policies.specs.Policies.{policy_of}
use Rattle.cedar_store_parts.specs.declared.policy_id.PolicyID.{PolicyID}
use Rattle.cedar_store_policies.specs.declared.template.Template.{Template}
use Rattle.cedar_store_policies.specs.declared.policy.Policy.{Policy}

-- the ids under which entries stand
abbrev pub keys_in : {A : Type 0} → List (PolicyID × A) → List Text
keys_in es = map (λ e. id_text e.0) es

-- the templates and the policies that stand there
abbrev pub templates_in : List (PolicyID × Rc Template Global) → List model.Policy
templates_in es = map (λ e. template_of e.1.value) es

abbrev pub policies_in : List (PolicyID × Policy) → List model.Policy
policies_in es = map (λ e. policy_of e.1) es

-- their ids
abbrev pub ids_of : List model.Policy → List Text
ids_of ps = map (λ p. p.id) ps

-- the set of these templates and policies
abbrev pub set_made : List (PolicyID × Rc Template Global) → List (PolicyID × Policy) → PolicySet
set_made ts ps = record { templates = templates_in ts; policies = policies_in ps }

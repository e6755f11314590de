use Rattle.std.proofs.Common.{map, ap, ◌∙◌}
use Rattle.std.specs.declared.alloc.Global.{Global}
use Rattle.std.specs.declared.rc.Rc.{Rc}
use Rattle.cedar_store_policies.specs.Templates.{template_of}
use Rattle.cedar_store_policies.specs.Seen.{template_seen}
use Rattle.cedar_store_policies.specs.declared.template.Template.{Template}
use Rattle.cedar_store_policies.proofs.Keyed.{map_values}
use Rattle.cedar_store_policies.proofs.policy_set.PolicySet.templates.Goals as goal

pub returns-clause-templates : goal.returns-clause-templates
returns-clause-templates c = ap (map (λ (t : Rc Template Global). template_of t.value)) c.values.ensures.rest ∙ map_values (λ (t : Rc Template Global). template_of t.value) c.args.self.now.templates.entries

pub returns-clause-seen : goal.returns-clause-seen
returns-clause-seen c = ap (map (λ (t : Rc Template Global). template_seen t.value)) c.values.ensures.rest ∙ map_values (λ (t : Rc Template Global). template_seen t.value) c.args.self.now.templates.entries

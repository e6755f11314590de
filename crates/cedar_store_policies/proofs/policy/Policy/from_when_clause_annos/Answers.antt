use Rattle.std.proofs.Common.{rules, ap, ◌∙◌}
use Rattle.cedar_store_policies.specs.Templates.{template_loc, places_of}
use Rattle.cedar_store_policies.proofs.policy.Policy.from_when_clause_annos.Goals as goal

pub returns-clause-place : goal.returns-clause-place
returns-clause-place c = c.new-3.ensures.place ∙ ap template_loc c.in_ok-template-2.ensures.ok ∙ c.in_ok-template.ensures.place

pub returns-clause-places : goal.returns-clause-places
returns-clause-places c = c.new-3.ensures.places ∙ ap places_of c.in_ok-template-2.ensures.ok ∙ search rules

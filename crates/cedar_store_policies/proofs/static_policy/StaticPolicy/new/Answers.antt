use Rattle.cedar_expr_model.specs.Parts.{slots}
use Rattle.cedar_store_model.specs.Policy.{condition}
use Rattle.cedar_store_policies.specs.Templates.{template_of}
use Rattle.cedar_store_policies.proofs.Firsts.{no_slot}
use Rattle.cedar_store_policies.proofs.static_policy.StaticPolicy.new.Goals as goal

pub invariant_of-result : goal.invariant_of-result
invariant_of-result c = record { has_no_slots = no_slot (slots (condition (template_of c.in_ok-template.template))) c.first_slot.result c.in-None.is c.first_slot.ensures.id }

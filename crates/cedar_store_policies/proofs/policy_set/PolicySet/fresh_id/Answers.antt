use Rattle.std.proofs.Common.{◌≡◌, true, rules, sym, ◌∙◌}
use Rattle.cedar_store_model.specs.PolicySet.{is_taken}
use Rattle.cedar_store_parts.specs.Parts.{id_text}
use Rattle.cedar_store_policies.specs.PolicySets.{set_of}
use Rattle.cedar_store_policies.proofs.Keyed.{taken_by_template, taken_by_policy}
use Rattle.cedar_store_policies.proofs.policy_set.PolicySet.fresh_id.Goals as goal
use Rattle.cedar_store_policies.proofs.policy_set.PolicySet.fresh_id.Goals.{then-has_key-via-then-has_key, then-has_key-via-else-has_key+then-has_key-2}

pub returns-then-has_key-clause-refused : goal.returns-then-has_key-clause-refused
returns-then-has_key-clause-refused c =
    let s = c.args.self.now in
    let taken : is_taken (id_text c.args.id.now) (set_of s) ≡ true =
    elim c.then-has_key.branch [
      | then-has_key-via-then-has_key w ↦ taken_by_template s.templates.entries s.links.entries s.templates_named s.links_named (id_text c.args.id.now) (sym c.has_key.ensures ∙ w.if-has_key.true)
      | then-has_key-via-else-has_key+then-has_key-2 w ↦ taken_by_policy s.templates.entries s.links.entries s.templates_named s.links_named (id_text c.args.id.now) (sym w.has_key-else-has_key.ensures ∙ w.if-has_key-2.true)
    ]
    in
    (taken, search rules)

use Rattle.std.proofs.Common.{Bool, refl, sym, ◌∙◌}
use Rattle.cedar_gate_model.specs.Asked.{kept_fault_at}
use Rattle.cedar_gate_model.proofs.First.{first_tag, first_ancestor, first_none}
use Rattle.cedar_schema_built.specs.Views.{schema_kept}
use Rattle.cedar_schema_model.specs.Conforming.{ConformFault, among_actions}
use Rattle.cedar_store_entities.specs.Views.{entity_uid, entity_of}
use Rattle.cedar_gate_conforming.proofs.Whole.{no_wrong_value, all_values}
use Rattle.cedar_gate_conforming.proofs.entities.check_action.Goals as goal

pub returns-then-has_tags-clause-first : goal.returns-then-has_tags-clause-first
returns-then-has_tags-clause-first c =
    let e = entity_of c.args.entity.now in
    let has : ConformFault → Bool = kept_fault_at (schema_kept c.args.schema.now) (entity_uid c.args.entity.now) e among_actions in
    first_tag has refl refl refl refl (sym c.has_attributes.ensures ∙ c.if-has_attributes.false) (no_wrong_value e.attributes) (sym c.has_tags.ensures ∙ c.if-has_tags.true)

pub returns-then-action_ancestors_are_wrong-clause-first : goal.returns-then-action_ancestors_are_wrong-clause-first
returns-then-action_ancestors_are_wrong-clause-first c =
    let e = entity_of c.args.entity.now in
    let has : ConformFault → Bool = kept_fault_at (schema_kept c.args.schema.now) (entity_uid c.args.entity.now) e among_actions in
    first_ancestor has refl refl refl refl (sym c.has_attributes.ensures ∙ c.if-has_attributes.false) (no_wrong_value e.attributes) (sym c.has_tags.ensures ∙ c.if-has_tags.false)
    (sym c.action_ancestors_are_wrong.ensures ∙ c.if-action_ancestors_are_wrong.true)

pub returns-clause-none : goal.returns-clause-none
returns-clause-none c =
    let e = entity_of c.args.entity.now in
    let has : ConformFault → Bool = kept_fault_at (schema_kept c.args.schema.now) (entity_uid c.args.entity.now) e among_actions in
    let bare = sym c.has_attributes.ensures ∙ c.if-has_attributes.false in
    let untagged = sym c.has_tags.ensures ∙ c.if-has_tags.false in
    first_none has refl refl refl refl bare (no_wrong_value e.attributes) untagged
    (sym c.action_ancestors_are_wrong.ensures ∙ c.if-action_ancestors_are_wrong.false) refl (all_values e.attributes e.tags bare untagged)

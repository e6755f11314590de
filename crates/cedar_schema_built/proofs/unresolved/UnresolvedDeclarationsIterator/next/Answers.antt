use Rattle.std.proofs.Common.{refl, sym, ◌∙◌}
use Rattle.cedar_schema_built.specs.Iterators.{unresolved_left}
use Rattle.cedar_schema_built.proofs.Elsewhere.{both_left, gives_action, none_left}
use Rattle.cedar_schema_built.proofs.unresolved.UnresolvedDeclarationsIterator.next.Goals as goal

pub loop-action-init : goal.loop-action-init
loop-action-init c = record {
  same = c.loop-entity_type.invariant ∙ (λ i. both_left ((c.in_default.ensures.steps.0 ∙ sym c.in_default.ensures.steps.1) i) c.loop-entity_type.self.actions);
  done = c.in_default.ensures.steps.1;
}

pub returns-then-is_external-2-clause-steps : goal.returns-then-is_external-2-clause-steps
returns-then-is_external-2-clause-steps c =
    gives_action (unresolved_left c.args.self.now) c.loop-action.self.types c.loop-action.self.actions c.next-in-loop-action.new.self c.in-Some-next.action.now _
    c.loop-action.invariant.same c.loop-action.invariant.done c.in-Some-next.ensures.steps (sym c.is_external-in-Some-next.ensures ∙ c.if-is_external-2.true) c.name-then-is_external-2.ensures

pub returns-clause-steps : goal.returns-clause-steps
returns-clause-steps c = (
  none_left (unresolved_left c.args.self.now) c.loop-action.self.types c.loop-action.self.actions c.loop-action.invariant.same c.loop-action.invariant.done c.in_default-next.ensures.steps.0,
  none_left _ c.loop-action.self.types c.next-in-loop-action.new.self refl c.loop-action.invariant.done c.in_default-next.ensures.steps.1,
)

use Rattle.std.proofs.Common.{ap, ◌∙◌}
use Rattle.cedar_store_entities.specs.Stores.{with_new}
use Rattle.cedar_gate_sessions.proofs.Absences.{none_kept}
use Rattle.cedar_gate_sessions.proofs.entities.first_store.Goals as goal

pub returns-clause-kept : goal.returns-clause-kept
returns-clause-kept c =
    c.in_ok-add_new.ensures.added ∙ ap (λ es. with_new es c.args.actions.items) (none_kept c.partial-store.result (c.partial-store.ensures.kept ∙ c.new.ensures.kept))

use Rattle.cedar_schema_entries.specs.Views.{action_seen}
use Rattle.cedar_schema_built.specs.Views.{schema_kept}
use Rattle.cedar_schema_sound.proofs.Closing.{action_kept}
use Rattle.cedar_schema_sound.proofs.closed_actions.is_closed.Goals as goal

pub returns-in-Some-clause-closed : goal.returns-in-Some-clause-closed
returns-in-Some-clause-closed c =
    λ e after.
    c.is_closed_over.ensures.closed e
    (after (action_seen c.in-Some.below.now) (action_kept (schema_kept c.args.schema.now) (action_seen c.args.action.now) (action_seen c.in-Some.below.now) c.in-Some.ensures) c.in-Some.ensures.fewer)

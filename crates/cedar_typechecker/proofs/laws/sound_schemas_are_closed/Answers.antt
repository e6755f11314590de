use Rattle.cedar_schema_built.specs.Views.{schema_kept}
use Rattle.cedar_typechecker.proofs.Closed.{sound_closed}
use Rattle.cedar_typechecker.proofs.Once.{kept_once}
use Rattle.cedar_typechecker.proofs.laws.sound_schemas_are_closed.Goals as goal

pub returns : goal.returns
returns c = λ x h.
    let k = schema_kept c.args.schema.now in
    sound_closed x k (kept_once k c.schemas_are_in_order.ensures.kept) ((c.sound_is_decided.ensures x k).0 h)

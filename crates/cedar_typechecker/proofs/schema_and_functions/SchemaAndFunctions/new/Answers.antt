use Rattle.std.proofs.Common.{List, subst}
use Rattle.cedar_schema_model.specs.Kept.{KeptAction}
use Rattle.cedar_schema_built.specs.Views.{schema_kept}
use Rattle.cedar_typechecker.specs.Types.{AreTypesOf}
use Rattle.cedar_typechecker_model.proofs.Seen.Tests.{closed_by_tests}
use Rattle.cedar_typechecker.proofs.Once.{kept_once}
use Rattle.cedar_typechecker.proofs.schema_and_functions.SchemaAndFunctions.new.Goals as goal

pub invariant_of-result : goal.invariant_of-result
invariant_of-result g c =
    let k = schema_kept c.args.schema.now in
    record {
      closed = closed_by_tests k c.requires;
      once = kept_once k c.schemas_are_in_order.ensures.kept;
      typed = subst (λ (as_ : List KeptAction). AreTypesOf as_ c.in_ok-action_types.action_types) c.action_ids.ensures c.in_ok-action_types.ensures;
    }

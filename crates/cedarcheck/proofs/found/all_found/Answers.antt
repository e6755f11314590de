use Rattle.cedar_gate_fragments.specs.Written.{declared_by}
use Rattle.cedar_schema_built.specs.Views.{schema_kept}
use Rattle.cedar_schema_model.specs.Resolved.{schema_of}
use Rattle.cedarcheck.proofs.found.all_found.Goals as goal

pub add_against-requires : goal.add_against-requires
add_against-requires g c = c.seen_schemas_answer_alike.ensures.closed (schema_of (declared_by c.as_slice.result.now)) (schema_kept c.in-Ok.schema) c.in-Ok.ensures.kept

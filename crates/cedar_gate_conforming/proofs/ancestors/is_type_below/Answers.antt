use Rattle.std.proofs.Common.{◌∙◌}
use Rattle.cedar_expr_names.specs.Views.{type_name_of}
use Rattle.cedar_schema_entries.specs.Views.{entity_type_seen}
use Rattle.cedar_schema_built.specs.Views.{schema_kept}
use Rattle.cedar_typechecker_model.proofs.Seen.Told.{below_found, below_none}
use Rattle.cedar_gate_conforming.proofs.ancestors.is_type_below.Goals as goal

pub returns-in-Some : goal.returns-in-Some
returns-in-Some c = c.has_descendant_entity_type.ensures ∙ below_found (schema_kept c.args.schema.now) (type_name_of c.args.ty.now) (type_name_of c.args.above.now) (entity_type_seen c.in-Some.entity_type.now) c.in-Some.ensures

pub returns-in-None : goal.returns-in-None
returns-in-None c = below_none (schema_kept c.args.schema.now) (type_name_of c.args.ty.now) (type_name_of c.args.above.now) c.in-None.ensures

use Rattle.cedar_expr_names.specs.Views.{name_of}
use Rattle.cedar_schema_fragments.proofs.Listed.{listed}
use Rattle.cedar_schema_fragments.specs.Iterators.{names_left}
use Rattle.cedar_schema_fragments.proofs.namespace_def.ValidatorNamespaceDef.all_declared_common_type_names.Goals as goal

pub returns : goal.returns
returns g c = listed name_of (names_left c.new.result) c.as_slice.result.now c.args.self.now.common_types.defs.items c.new.ensures c.as_slice.ensures.value

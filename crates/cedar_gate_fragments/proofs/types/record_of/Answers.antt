use Rattle.std.proofs.Common.{ap}
use Rattle.cedar_expr_leaves.specs.Views.{raw_name_of}
use Rattle.cedar_schema_decl.specs.Laws.{as_exprs}
use Rattle.cedar_schema_decl.specs.Trees.{in_a_row}
use Rattle.cedar_gate_fragments.proofs.Attributes.{rolled}
use Rattle.cedar_gate_fragments.proofs.types.record_of.Goals as goal

pub returns : goal.returns
returns c = ap (λ rows. as_exprs (in_a_row rows)) (rolled raw_name_of (record { attributes = c.args.attributes }))

use Rattle.std.proofs.Common.{◌≡◌, map, drop}
use Rattle.cedar_expr_names.specs.Views.{name_of}
use Rattle.cedar_schema_decl.specs.Defined.{defined_of, with_common}
use Rattle.cedar_schema_fragments.specs.Marked.{all_with, common_names}
use Rattle.cedar_schema_fragments.proofs.all_defs.with_commons.Given as goal

abbrev pub invariant-loop-common : goal.invariant-loop-common
invariant-loop-common g l = all_with with_common (map (λ e. name_of e.0) (drop l.common-index l.common-items)) (defined_of l.marked) ≡ all_with with_common (common_names l.commons) (defined_of l.fn.all_defs)

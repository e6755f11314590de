use Rattle.std.proofs.Common.{◌≡◌, map, take}
use Rattle.cedar_expr_names.specs.Namespaces.{space_of}
use Rattle.cedar_expr_leaves.specs.Views.{raw_name_of}
use Rattle.cedar_schema_decl.specs.Conditional.{conditional_of, conditional_in}
use Rattle.cedar_schema_fragments.specs.Actions.{parent_form}
use Rattle.cedar_schema_fragments.specs.Qualified.{parent_with}
use Rattle.cedar_schema_fragments.proofs.naming.parents_in.Given as goal

abbrev pub invariant-loop-parent : goal.invariant-loop-parent
invariant-loop-parent l =
    map (parent_form conditional_of) l.made.items
    ≡ map (parent_with (conditional_in (space_of l.namespace))) (map (parent_form raw_name_of) (take l.parent-index l.parents))

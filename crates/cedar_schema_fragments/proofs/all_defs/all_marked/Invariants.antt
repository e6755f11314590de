use Rattle.std.proofs.Common.{◌≡◌, drop}
use Rattle.cedar_schema_decl.specs.Defined.{defined_of, nothing_defined}
use Rattle.cedar_schema_fragments.specs.Marked.{all_with, with_fragment}
use Rattle.cedar_schema_fragments.proofs.all_defs.all_marked.Given as goal

abbrev pub invariant-loop-fragment : goal.invariant-loop-fragment
invariant-loop-fragment g l = all_with with_fragment (drop l.fragment-index l.fragments) (defined_of l.marked) ≡ all_with with_fragment l.fragments nothing_defined

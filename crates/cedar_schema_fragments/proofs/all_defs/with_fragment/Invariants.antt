use Rattle.std.proofs.Common.{◌≡◌, drop}
use Rattle.cedar_schema_decl.specs.Defined.{defined_of}
use Rattle.cedar_schema_fragments.specs.Marked.{all_with, with_namespace, with_fragment}
use Rattle.cedar_schema_fragments.proofs.all_defs.with_fragment.Given as goal

abbrev pub invariant-loop-namespace : goal.invariant-loop-namespace
invariant-loop-namespace g l = all_with with_namespace (drop l.namespace-index l.namespace-items) (defined_of l.marked) ≡ with_fragment l.fragment (defined_of l.fn.all_defs)

use Rattle.std.proofs.Common.{◌≡◌, drop}
use Rattle.std.specs.Prelude.{flat_map}
use Rattle.cedar_schema_decl.specs.Requalified.{each}
use Rattle.cedar_schema_decl.proofs.Gathered.{after}
use Rattle.cedar_schema_fragments.specs.Qualified.{namespace_qualified}
use Rattle.cedar_schema_fragments.specs.Written.{written_fragment}
use Rattle.cedar_schema_fragments.specs.WrittenDeclarations.{all_forms}
use Rattle.cedar_gate_fragments.proofs.lent_fragments.fragments_of.Given as goal

abbrev pub invariant-loop-fragment : goal.invariant-loop-fragment
invariant-loop-fragment l = each namespace_qualified (flat_map written_fragment l.fragments) ≡ after (all_forms l.made.items) (each namespace_qualified (flat_map written_fragment (drop l.fragment-index l.fragments)))

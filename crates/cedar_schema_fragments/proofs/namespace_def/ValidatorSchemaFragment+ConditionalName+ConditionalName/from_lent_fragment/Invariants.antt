use Rattle.std.proofs.Common.{map}
use Rattle.cedar_schema_decl.specs.Conditional.{conditional_of}
use Rattle.cedar_schema_decl.proofs.Gathered.{Gathers}
use Rattle.cedar_schema_fragments.specs.Namespaces.{namespace_form}
use Rattle.cedar_schema_fragments.specs.Qualified.{namespace_qualified}
use Rattle.cedar_schema_fragments.specs.Written.{written_namespace, written_fragment}
use Rattle.cedar_schema_fragments.proofs.namespace_def.ValidatorSchemaFragment+ConditionalName+ConditionalName.from_lent_fragment.Given as goal

abbrev pub invariant-loop-space : goal.invariant-loop-space
invariant-loop-space l = Gathers namespace_qualified (written_fragment l.fragment) (map (namespace_form conditional_of conditional_of) l.namespaces.items) (map (λ e. written_namespace e.0 e.1) l.space-iterator)

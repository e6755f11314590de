use Rattle.std.proofs.Common.{take}
use Rattle.cedar_schema_decl.specs.Defined.{defined_of}
use Rattle.cedar_schema_resolver.specs.Commons.{common_seen, common_kept}
use Rattle.cedar_schema_resolver.specs.Meanings.{extensions_seen}
use Rattle.cedar_schema_resolver.specs.Uses.{common_forms}
use Rattle.cedar_schema_resolver.proofs.Keeping.{AreKeptBy}
use Rattle.cedar_schema_resolver.proofs.Solving.{AreDone}
use Rattle.cedar_schema_resolver.proofs.resolve.types_in_order.Given as goal

abbrev pub invariant-loop-number : goal.invariant-loop-number
invariant-loop-number l = record {
  done : AreDone (defined_of l.all_defs) (extensions_seen l.extension_types) (common_forms l.commons) (take l.number-index l.order) (common_seen l.types);
  kept : AreKeptBy (common_forms l.commons) (take l.number-index l.order) (common_kept l.types);
}

use Rattle.std.proofs.Common.{◌≡◌}
use Rattle.cedar_schema_built.specs.Entries.{types_in, type_keys, type_names}
use Rattle.cedar_schema_built.proofs.Named.{all_types}
use Rattle.cedar_schema_built.proofs.schema.types_by_name.Given as goal

abbrev pub invariant-loop-entity_type : goal.invariant-loop-entity_type
invariant-loop-entity_type l = record {
  kept : types_in l.by_name.entries ≡ all_types l.yielded;
  named : type_keys l.by_name.entries ≡ type_names l.by_name.entries;
}

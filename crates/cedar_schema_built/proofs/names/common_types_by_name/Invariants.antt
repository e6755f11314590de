use Rattle.std.proofs.Common.{◌≡◌}
use Rattle.cedar_schema_built.specs.LocatedViews.{common_listed}
use Rattle.cedar_schema_built.specs.Listed.{commons_in}
use Rattle.cedar_schema_built.proofs.Located.{keys, named, all_seen}
use Rattle.cedar_schema_built.proofs.names.common_types_by_name.Given as goal

abbrev pub invariant-loop-common : goal.invariant-loop-common
invariant-loop-common l = record {
  kept : commons_in l.by_name.entries ≡ all_seen common_listed (λ c. c.name) l.yielded;
  named : keys common_listed (λ c. c.name) l.by_name.entries ≡ named common_listed (λ c. c.name) l.by_name.entries;
}

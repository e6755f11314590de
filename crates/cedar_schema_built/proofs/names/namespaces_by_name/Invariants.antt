use Rattle.std.proofs.Common.{◌≡◌}
use Rattle.cedar_schema_built.specs.LocatedViews.{space_listed}
use Rattle.cedar_schema_built.specs.Listed.{spaces_in}
use Rattle.cedar_schema_built.proofs.Located.{keys, named, all_seen}
use Rattle.cedar_schema_built.proofs.names.namespaces_by_name.Given as goal

abbrev pub invariant-loop-namespace : goal.invariant-loop-namespace
invariant-loop-namespace l = record {
  kept : spaces_in l.by_name.entries ≡ all_seen space_listed (λ n. n.name) l.yielded;
  named : keys space_listed (λ n. n.name) l.by_name.entries ≡ named space_listed (λ n. n.name) l.by_name.entries;
}

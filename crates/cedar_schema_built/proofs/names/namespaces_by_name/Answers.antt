use Rattle.std.proofs.Common.{◌∙◌}
use Rattle.cedar_schema_built.specs.LocatedViews.{space_listed}
use Rattle.cedar_schema_built.proofs.Located.{one_more, one_named}
use Rattle.cedar_schema_built.proofs.names.namespaces_by_name.Goals as goal

pub loop-namespace-preserved : goal.loop-namespace-preserved
loop-namespace-preserved c =
    let own = c.in_ok-name.ensures.cases.0 ∙ c.full_name.ensures in
    record {
      kept = one_more space_listed (λ n. n.name) c.loop-namespace.by_name.entries c.insert.new.self.entries c.in_ok-name.name c.in-Some.namespace c.loop-namespace.yielded own c.loop-namespace.invariant.named c.loop-namespace.invariant.kept c.in_ok-insert.ensures.entries;
      named = one_named space_listed (λ n. n.name) c.loop-namespace.by_name.entries c.insert.new.self.entries c.in_ok-name.name c.in-Some.namespace own c.loop-namespace.invariant.named c.in_ok-insert.ensures.entries;
    }

pub loop-namespace-preserved-in_ok-insert : goal.loop-namespace-preserved-in_ok-insert
loop-namespace-preserved-in_ok-insert c =
    let own = c.in_ok-name.ensures.cases.0 ∙ c.full_name.ensures in
    record {
      kept = one_more space_listed (λ n. n.name) c.loop-namespace.by_name.entries c.insert.new.self.entries c.in_ok-name.name c.in-Some.namespace c.loop-namespace.yielded own c.loop-namespace.invariant.named c.loop-namespace.invariant.kept c.in_ok-insert.ensures.entries;
      named = one_named space_listed (λ n. n.name) c.loop-namespace.by_name.entries c.insert.new.self.entries c.in_ok-name.name c.in-Some.namespace own c.loop-namespace.invariant.named c.in_ok-insert.ensures.entries;
    }

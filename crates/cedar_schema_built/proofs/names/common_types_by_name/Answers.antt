use Rattle.std.proofs.Common.{◌∙◌}
use Rattle.cedar_schema_built.specs.LocatedViews.{common_listed}
use Rattle.cedar_schema_built.proofs.Located.{one_more, one_named}
use Rattle.cedar_schema_built.proofs.names.common_types_by_name.Goals as goal

pub loop-common-preserved : goal.loop-common-preserved
loop-common-preserved c =
    let own = c.in_ok-name.ensures.cases.0 ∙ c.full_name.ensures in
    record {
      kept = one_more common_listed (λ c. c.name) c.loop-common.by_name.entries c.insert.new.self.entries c.in_ok-name.name c.in-Some.common c.loop-common.yielded own c.loop-common.invariant.named c.loop-common.invariant.kept c.in_ok-insert.ensures.entries;
      named = one_named common_listed (λ c. c.name) c.loop-common.by_name.entries c.insert.new.self.entries c.in_ok-name.name c.in-Some.common own c.loop-common.invariant.named c.in_ok-insert.ensures.entries;
    }

pub loop-common-preserved-in_ok-insert : goal.loop-common-preserved-in_ok-insert
loop-common-preserved-in_ok-insert c =
    let own = c.in_ok-name.ensures.cases.0 ∙ c.full_name.ensures in
    record {
      kept = one_more common_listed (λ c. c.name) c.loop-common.by_name.entries c.insert.new.self.entries c.in_ok-name.name c.in-Some.common c.loop-common.yielded own c.loop-common.invariant.named c.loop-common.invariant.kept c.in_ok-insert.ensures.entries;
      named = one_named common_listed (λ c. c.name) c.loop-common.by_name.entries c.insert.new.self.entries c.in_ok-name.name c.in-Some.common own c.loop-common.invariant.named c.in_ok-insert.ensures.entries;
    }

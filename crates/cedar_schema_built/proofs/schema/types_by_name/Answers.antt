use Rattle.std.proofs.Common.{◌∙◌}
use Rattle.cedar_schema_built.proofs.Named.{type_more, type_named}
use Rattle.cedar_schema_built.proofs.schema.types_by_name.Goals as goal

pub loop-entity_type-preserved : goal.loop-entity_type-preserved
loop-entity_type-preserved c =
    let own = c.in_ok-name.ensures.cases.0 ∙ c.name.ensures in
    record {
      kept = type_more c.loop-entity_type.by_name.entries c.insert.new.self.entries c.in_ok-name.name c.in-Some.entity_type c.loop-entity_type.yielded own c.loop-entity_type.invariant.named c.loop-entity_type.invariant.kept c.in_ok-insert.ensures.entries;
      named = type_named c.loop-entity_type.by_name.entries c.insert.new.self.entries c.in_ok-name.name c.in-Some.entity_type own c.loop-entity_type.invariant.named c.in_ok-insert.ensures.entries;
    }

pub loop-entity_type-preserved-in_ok-insert : goal.loop-entity_type-preserved-in_ok-insert
loop-entity_type-preserved-in_ok-insert c =
    let own = c.in_ok-name.ensures.cases.0 ∙ c.name.ensures in
    record {
      kept = type_more c.loop-entity_type.by_name.entries c.insert.new.self.entries c.in_ok-name.name c.in-Some.entity_type c.loop-entity_type.yielded own c.loop-entity_type.invariant.named c.loop-entity_type.invariant.kept c.in_ok-insert.ensures.entries;
      named = type_named c.loop-entity_type.by_name.entries c.insert.new.self.entries c.in_ok-name.name c.in-Some.entity_type own c.loop-entity_type.invariant.named c.in_ok-insert.ensures.entries;
    }

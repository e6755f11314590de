use Rattle.cedar_schema_decl.specs.Defined.{defined_of}
use Rattle.cedar_schema_resolver.proofs.Nodes.{one_node}
use Rattle.cedar_schema_resolver.proofs.references.with_references.Goals as goal

pub loop-common-preserved : goal.loop-common-preserved
loop-common-preserved c =
    one_node (defined_of c.args.all_defs.now) c.args.commons.now c.loop-common.common-index c.common-item.result c.loop-common.nodes.items c.push.new.self.items c.in_ok-name.name c.in_ok-common_type_references.field-0
    c.loop-common-test.true c.common-item.is c.loop-common.invariant c.in_ok-push.ensures.items c.in_ok-name.ensures.cases.0 c.in_ok-common_type_references.ensures

use Rattle.std.proofs.Common.{subst}
use Rattle.cedar_expr_names.specs.Views.{name_of}
use Rattle.cedar_schema_resolver.specs.Graphs.{IsOrder, TellsCycle}
use Rattle.cedar_schema_resolver.specs.declared.closure_err.CycleError.TheVariants.{Cycle}
use Rattle.cedar_schema_decl.specs.Defined.{defined_of}
use Rattle.cedar_schema_resolver.specs.Descent.{IsGraphOf}
use Rattle.cedar_schema_resolver.specs.Numbers.{AreOnce, StoodBefore, TellsRepeated, names_in, seen_nodes}
use Rattle.cedar_schema_resolver.specs.Uses.{common_forms}
use Rattle.cedar_schema_resolver.proofs.Nodes.{twice, stood_there, sorted, cycle, led_to, name_there}
use Rattle.cedar_schema_resolver.proofs.resolve.in_order_of_use.Goals as goal

pub common_at-requires : goal.common_at-requires
common_at-requires c =
    rw c.in-Err-Repeated.field-0-is
    (stood_there (defined_of c.args.all_defs.now) c.args.commons.now c.in_ok-nodes.nodes.items c.in-Err-Repeated.number c.in_ok-nodes.ensures
    (subst (λ ns. StoodBefore (names_in name_of ns) c.in-Err-Repeated.number) c.deref.ensures.value (subst (TellsRepeated (names_in name_of c.deref.result.now)) c.in-Err-Repeated.field-0-is c.in-Err-Repeated.ensures.repeated)))

pub returns-in-Err-Repeated-clause-refused : goal.returns-in-Err-Repeated-clause-refused
returns-in-Err-Repeated-clause-refused c =
    twice (defined_of c.args.all_defs.now) c.in_ok-nodes.nodes.items (common_forms c.args.commons.now) c.in_ok-nodes.ensures c.in-Err-Repeated.number (name_of c.in_ok-name-in-Err-Repeated.name)
    (subst (λ ns. StoodBefore (names_in name_of ns) c.in-Err-Repeated.number) c.deref.ensures.value (subst (TellsRepeated (names_in name_of c.deref.result.now)) c.in-Err-Repeated.field-0-is c.in-Err-Repeated.ensures.repeated))
    (name_there c.args.commons.now c.in-Err-Repeated.number c.common_at.result.now (name_of c.in_ok-name-in-Err-Repeated.name) (rw c.in-Err-Repeated.field-0-is at c.common_at.ensures) c.in_ok-name-in-Err-Repeated.ensures.cases.0)

pub returns-in-Ok-in_order-clause-sorted : goal.returns-in-Ok-in_order-clause-sorted
returns-in-Ok-in_order-clause-sorted c =
    sorted (defined_of c.args.all_defs.now) c.in_ok-nodes.nodes.items (common_forms c.args.commons.now) c.in_ok-nodes.ensures c.in-Ok.graph.items c.in-Ok-in_order.order.items
    (subst (λ ns. IsGraphOf (seen_nodes name_of ns) c.in-Ok.graph.items) c.deref.ensures.value c.in-Ok.ensures.graph)
    (subst (λ ns. AreOnce (names_in name_of ns)) c.deref.ensures.value c.in-Ok.ensures.once)
    (subst (λ g. IsOrder g c.in-Ok-in_order.order.items) c.deref-2.ensures.value c.in-Ok-in_order.ensures.order)

pub common_at-requires-in-Err-Cycle : goal.common_at-requires-in-Err-Cycle
common_at-requires-in-Err-Cycle c =
    led_to (defined_of c.args.all_defs.now) c.args.commons.now c.in_ok-nodes.nodes.items c.in-Ok.graph.items c.in-Err-Cycle.node c.in_ok-nodes.ensures
    (subst (λ ns. IsGraphOf (seen_nodes name_of ns) c.in-Ok.graph.items) c.deref.ensures.value c.in-Ok.ensures.graph)
    (subst (λ g. TellsCycle g (Cycle c.in-Err-Cycle.node)) c.deref-2.ensures.value (subst (TellsCycle c.deref-2.result.now) c.in-Err-Cycle.field-0-is c.in-Err-Cycle.ensures.cycle))

pub returns-clause-refused : goal.returns-clause-refused
returns-clause-refused c =
    cycle (defined_of c.args.all_defs.now) c.in_ok-nodes.nodes.items (common_forms c.args.commons.now) c.in_ok-nodes.ensures c.in-Ok.graph.items c.in-Err-Cycle.node (name_of c.in_ok-name-in-Err-Cycle.name)
    (subst (λ ns. IsGraphOf (seen_nodes name_of ns) c.in-Ok.graph.items) c.deref.ensures.value c.in-Ok.ensures.graph)
    (subst (λ g. TellsCycle g (Cycle c.in-Err-Cycle.node)) c.deref-2.ensures.value (subst (TellsCycle c.deref-2.result.now) c.in-Err-Cycle.field-0-is c.in-Err-Cycle.ensures.cycle))
    (name_there c.args.commons.now c.in-Err-Cycle.node c.common_at-in-Err-Cycle.result.now (name_of c.in_ok-name-in-Err-Cycle.name) c.common_at-in-Err-Cycle.ensures c.in_ok-name-in-Err-Cycle.ensures.cases.0)

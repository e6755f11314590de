use Rattle.std.specs.Prelude.{codes}
use Rattle.cedar_store_parts.specs.Parts.{id_text}
use Rattle.cedar_gate_runs.specs.Printing.{named_line}
use Rattle.cedar_gate_runs.proofs.Appending.{mapped_more}
use Rattle.cedar_gate_runs.proofs.lines.push_warnings.Goals as goal

pub loop-id-preserved : goal.loop-id-preserved
loop-id-preserved c =
    mapped_more (λ id. named_line (codes "impossible") id) id_text _ _ _ c.args.ids.now c.loop-id.id-index c.id-item.result c.loop-id-test.true c.id-item.is c.loop-id.invariant c.in_ok-push_named.ensures

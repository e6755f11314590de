use Rattle.std.proofs.Common.{arith, length-drop}
use Rattle.cedar_gate_runs.proofs.Appending.{appends_more, to_the_end}
use Rattle.cedar_gate_runs.proofs.output.write_out.Goals as goal

pub loop-turn-preserved : goal.loop-turn-preserved
loop-turn-preserved g c =
    let rest = to_the_end c.args.text.now c.loop-turn.done in
    record {
      within = omega (arith, rw rest at c.in_ok-done.ensures.within, length-drop c.loop-turn.done c.args.text.now);
      written = appends_more _ _ _ c.args.text.now c.loop-turn.done c.in_ok-done.field-0 c.loop-turn.invariant.written (rw rest at c.in_ok-done.ensures.taken);
    }

-- The steps so far.
use Rattle.std.proofs.Common.{◌≡◌, ◌++◌, List}
use Rattle.cedar_expr_model.specs.Uid.{Uid}
use Rattle.std.specs.Vec.Iter.{into_iter_items}
use Rattle.cedar_gate_model.specs.RunsAnswer.{Course}
use Rattle.cedar_gate_model.specs.Session.{State}
use Rattle.cedar_gate_runs.specs.Asking.{AskedRounds}
use Rattle.cedar_gate_runs.specs.Courses.{IsHost, HostStays, BindRepresented, DidSteps}
use Rattle.cedar_gate_runs.specs.Running.{Went}
use Rattle.cedar_gate_runs.specs.Steps.{steps_of}
use Rattle.cedar_gate_runs.specs.Transcripts.{entries_of}
use Rattle.cedar_gate_runs.proofs.stepping.take_steps.Given as goal

abbrev pub invariant-loop-step : goal.invariant-loop-step
invariant-loop-step g l = record {
  goes : l.fn.steps.items ≡ l.yielded ++ into_iter_items l.step-iterator;
  faults : g.H.Host.faults l.host ≡ g.H.Host.faults l.fn.host;
  asked : (first : List (List Uid)) → AskedRounds first (g.H.Host.asked l.fn.host) (entries_of l.fn.entries.items) → AskedRounds first (g.H.Host.asked l.host) (entries_of l.entries.items);
  host : HostStays g.H.Host.honest g.H.Host.store l.fn.host l.host;
  went : g.H.Host.honest l.host → (c : Course) (s : State) → g.E.SessionCalls.stands c s l.fn.session → IsHost g.H.Host.store c s (steps_of l.fn.steps.items) l.fn.host → BindRepresented c (steps_of l.fn.steps.items)
      → Went (g.E.SessionCalls.stands c) (DidSteps c s (steps_of l.yielded)) (entries_of l.fn.entries.items) (entries_of l.entries.items) l.session;
}

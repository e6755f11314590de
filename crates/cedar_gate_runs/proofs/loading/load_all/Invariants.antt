-- The rounds so far, of which there are no more than the level.
use Rattle.std.proofs.Common.{◌≡◌, List, []}
use Rattle.cedar_expr_model.specs.Uid.{Uid}
use Rattle.cedar_gate_model.specs.RunsAnswer.{Course, session_of}
use Rattle.cedar_gate_model.specs.Session.{State}
use Rattle.cedar_gate_runs.specs.Asking.{AskedRounds}
use Rattle.cedar_gate_runs.specs.Courses.{IsHost, HostStays}
use Rattle.cedar_gate_runs.proofs.Looped.{Loading}
use Rattle.cedar_gate_runs.specs.Transcripts.{entries_of}
use Rattle.cedar_gate_runs.proofs.loading.load_all.Given as goal

abbrev pub invariant-loop-round : goal.invariant-loop-round
invariant-loop-round g l = record {
  faults : g.H.Host.faults l.host ≡ g.H.Host.faults l.fn.host;
  asked : (first : List (List Uid)) → AskedRounds first (g.H.Host.asked l.fn.host) (entries_of l.fn.entries.items) → AskedRounds first (g.H.Host.asked l.host) (entries_of l.entries.items);
  host : HostStays g.H.Host.honest g.H.Host.store l.fn.host l.host;
  loading : g.H.Host.honest l.host → (c : Course) (s : State) → g.E.SessionCalls.stands c s l.fn.session → IsHost g.H.Host.store c s [] l.fn.host
      → Loading (g.E.SessionCalls.stands c) (session_of c) s l._round (entries_of l.fn.entries.items) (entries_of l.entries.items) l.session;
}

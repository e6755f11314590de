-- What the faults of hosts and the refusals of sessions stop a run with.
-- Rule: refusals of a session (docs/RULES.md).
use Rattle.cedar_gate_runs.specs.declared.host.HostFault.{HostFault}
use Rattle.cedar_gate_runs.specs.declared.host.HostFault.TheVariants as host
use Rattle.cedar_gate_runs.specs.declared.sessions.Refusal.{Refusal}
use Rattle.cedar_gate_runs.specs.declared.sessions.Refusal.TheVariants.{OutOfMemory, Numbered}
use Rattle.cedar_gate_runs.specs.declared.stops_with.Stop.{Stop}
use Rattle.cedar_gate_runs.specs.declared.stops_with.Stop.TheVariants.{Memory, Host, Supplying, Binding, Answering}

abbrev pub host_stop : HostFault → Stop
host_stop host.Memory = Memory
host_stop host.Device = Host

abbrev pub supply_stop : Refusal → Stop
supply_stop OutOfMemory = Memory
supply_stop (Numbered n) = Supplying n

abbrev pub bind_stop : Refusal → Stop
bind_stop OutOfMemory = Memory
bind_stop (Numbered n) = Binding n

abbrev pub answer_stop : Refusal → Stop
answer_stop OutOfMemory = Memory
answer_stop (Numbered n) = Answering n

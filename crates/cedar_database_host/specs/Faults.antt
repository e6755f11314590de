-- The faults of databases, by those of reading and of SQL.
use Rattle.std.specs.Prelude.{◌≡◌, ◌≢◌}
use Rattle.cedar_gate_expressions.specs.declared.fault.ReadFault as read
use Rattle.cedar_gate_expressions.specs.declared.fault.ReadFault.TheVariants as unread
use Rattle.sqlite.specs.declared.error.Error.{Error}
use Rattle.sqlite.specs.declared.error.Error.TheVariants.{SqliteFailure}
use Rattle.sqlite.specs.declared.error.ErrorCode.TheVariants as code
use Rattle.cedar_gate_runs.specs.declared.host.HostFault.{HostFault}
use Rattle.cedar_gate_runs.specs.declared.host.HostFault.TheVariants.{Memory, Device}
use Rattle.cedar_database_host.specs.declared.fault.DatabaseFault.{DatabaseFault}
use Rattle.cedar_database_host.specs.declared.fault.DatabaseFault.TheVariants.{OutOfMemory, Unreadable, Database}

abbrev pub of_database : Error → DatabaseFault
of_database (SqliteFailure code.OutOfMemory) = OutOfMemory
of_database e = Database e

-- It is never that a text doesn't read.
abbrev pub IsOfDatabase : Error → DatabaseFault → Type 0
IsOfDatabase e fault = (fault ≡ of_database e) × (fault ≢ Unreadable)

-- what they are to one who asks the host
abbrev pub host_fault_of : Error → HostFault
host_fault_of (SqliteFailure code.OutOfMemory) = Memory
host_fault_of e = Device

abbrev pub host_fault_of_reading : read.ReadFault → HostFault
host_fault_of_reading unread.OutOfMemory = Memory
host_fault_of_reading unread.Unreadable = Device

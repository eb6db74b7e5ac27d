-- Faults of the journal as a host has them.
use Rattle.node_journal.specs.declared.fault.JournalFault.{JournalFault}
use Rattle.node_journal.specs.declared.fault.JournalFault.TheVariants as faults
use Rattle.node_host.specs.declared.fault.HostFault.{HostFault}
use Rattle.node_host.specs.declared.fault.HostFault.TheVariants.{DiskFailed, Damaged, JournalFull, NoMemory}

abbrev pub passed : JournalFault → HostFault
passed faults.DiskFailed = DiskFailed
passed (faults.Damaged at) = Damaged at
passed faults.JournalFull = JournalFull
passed faults.NoMemory = NoMemory

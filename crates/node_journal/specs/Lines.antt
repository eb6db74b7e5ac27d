-- How faults of a journal are printed.
use Rattle.std.specs.Prelude.{ℕ, List, ◌++◌, codes, decimal}
use Rattle.node_journal.specs.declared.fault.JournalFault.{JournalFault}
use Rattle.node_journal.specs.declared.fault.JournalFault.TheVariants as faults

abbrev pub fault_text : JournalFault → List ℕ
fault_text faults.DiskFailed = codes "the disk failed"
fault_text (faults.Damaged at) = codes "the journal is damaged at byte " ++ decimal at
fault_text faults.JournalFull = codes "the journal is full"
fault_text faults.NoMemory = codes "no memory"

-- Faults of records as a connection has them: whatever a body breaks, it is bad.
use Rattle.log_records.specs.declared.faults.DecodeFault.{DecodeFault}
use Rattle.log_records.specs.declared.faults.DecodeFault.TheVariants as faults
use Rattle.link_codec.specs.declared.faults.LinkFault.{LinkFault}
use Rattle.link_codec.specs.declared.faults.LinkFault.TheVariants.{Bad, NoMemory}

abbrev pub passed : DecodeFault → LinkFault
passed faults.Cut = Bad
passed (faults.Bad at) = Bad
passed faults.BadDigest = Bad
passed faults.NoMemory = NoMemory

-- The words of a command line, why they could not be had, and what is run of them.
use Rattle.std.specs.Prelude.{◌≡◌, ◌≢◌, ℕ, ◌⊎◌, Bool, true, false, List, [], ◌∷◌, String, Some, None, codes, if◌then◌else◌, replicate}
use Rattle.std.specs.Str.{bytes_eq}
use Rattle.std.specs.IoError.{error_kind}
use Rattle.std.specs.declared.alloc.Global.{Global}
use Rattle.std.specs.declared.io.Error.{Error}
use Rattle.std.specs.declared.io.ErrorKind.TheVariants.{InvalidData}
use Rattle.helios_model.specs.Limits.{most_sites}
use Rattle.disk_store.specs.declared.fate.Keep.TheVariants.{Nothing}
use Rattle.disk_store.specs.Disk.{at_rest}
use Rattle.disk_store.specs.Memory.{MemState, empty_disk}
use Rattle.disk_store.specs.Outlook.{never}
use Rattle.outside_io.specs.Seen.{SourceSeen, SinkSeen}
use Rattle.helios_top.specs.IsRun.{IsRun}
use Rattle.helios_top.specs.Outside.{DiskSeen, Outside}
use Rattle.helios_top.specs.Words.{texts}
use Rattle.helios.specs.declared.NoWords.{NoWords}
use Rattle.helios.specs.declared.NoWords.TheVariants.{NotText, NoMemory}

-- an error of the kind `InvalidData` says that a word is no text, and any other that there was no memory
pub record IsReason (error : Error) (none : NoWords) : Type 0 where
  pub text : error_kind error ≡ InvalidData → none ≡ NotText
  pub memory : error_kind error ≢ InvalidData → none ≡ NoMemory

-- what the streams of a process tell
pub record Streams : Type 0 where
  pub input : SourceSeen
  pub output : SinkSeen

-- a run that has no words does nothing; its status is 1 where a word is no text, else 4
pub record IsWordless (error : Error) (before after : Streams) (status : ℕ) : Type 0 where
  pub text : error_kind error ≡ InvalidData → status ≡ 1
  pub memory : error_kind error ≢ InvalidData → status ≡ 4
  pub still : after ≡ before

-- the streams, and a disk and a bench beside them
abbrev pub with_disks : Streams → DiskSeen → List MemState → Outside
with_disks streams disk bench = record { input = streams.input; output = streams.output; disk = disk; bench = bench }

-- the bench that a process makes
abbrev pub fresh_bench : List MemState
fresh_bench = replicate most_sites empty_disk

-- the file of a journal, which does not tell what it holds
abbrev pub journal_file : DiskSeen
journal_file = record { state = None; past = None; outlook = None; keeps = None; faults = 0 }

-- a disk in memory without bytes and without room
abbrev pub no_disk : DiskSeen
no_disk = record { state = Some (at_rest []); past = None; outlook = Some (record { room = 0; failing = never }); keeps = Some Nothing; faults = 0 }

-- whether the words read the file of the journal: those that begin with `dump`
abbrev pub opens_journal : List (List ℕ) → Bool
opens_journal [] = false
opens_journal (first ∷ others) = bytes_eq first (codes "dump")

-- the disk that the words are for
abbrev pub disk_for : List (List ℕ) → DiskSeen
disk_for words = if opens_journal words then journal_file else no_disk

-- these words were run over a disk, which ends so, and over a bench that was made for them, which ends with these disks
pub record IsRunOver (disk : DiskSeen) (words : List (String Global)) (before after : Streams) (status : ℕ) : Type 0 where
  pub disk_left : DiskSeen
  pub bench_left : List MemState
  pub run : IsRun (texts words) (with_disks before disk fresh_bench) (with_disks after disk_left bench_left) status

-- so it was; or there was no memory for the words, for the bench or for the disk, and nothing was done
abbrev pub RunsOver : DiskSeen → List (String Global) → Streams → Streams → ℕ → Type 0
RunsOver disk words before after status = IsRunOver disk words before after status ⊎ ((status ≡ 4) × (after ≡ before))

-- so it was over the disk that the words are for; or that is the file of the journal, which could not be opened, and nothing was done
abbrev pub RunsWords : List (String Global) → Streams → Streams → ℕ → Type 0
RunsWords words before after status = RunsOver (disk_for (texts words)) words before after status
    ⊎ ((status ≡ 6) × (opens_journal (texts words) ≡ true) × (after ≡ before))

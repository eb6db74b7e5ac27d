-- Why a journal is refused, and what a dump of a journal comes to, by the bytes that the disk reads as.
use Rattle.std.specs.Prelude.{◌≡◌, ◌⊎◌, ℕ, List, [], ◌∷◌, ◌++◌, All, Result, Ok, Err, codes, decimal}
use Rattle.hex.specs.Hex.{encode_lower}
use Rattle.helios_model.specs.declared.entries.Entry.{Entry}
use Rattle.helios_model.specs.declared.records.Record.{Record}
use Rattle.helios_model.specs.Plans.{PlanData}
use Rattle.history_audit.specs.Recorded.{records_text}
use Rattle.node_host.specs.declared.fault.HostFault.{HostFault}
use Rattle.node_host.specs.declared.fault.HostFault.TheVariants as faults
use Rattle.node_host.specs.Journals.{AreAsked, HoldsBatches}
use Rattle.node_host.specs.Kept.{kept_log}
use Rattle.node_host.specs.Openings.{Stops}
use Rattle.helios_top.specs.declared.journal.JournalRefusal.{JournalRefusal}
use Rattle.helios_top.specs.declared.journal.JournalRefusal.TheVariants.{Damaged, WrongPlan, WrongSite}
use Rattle.helios_top.specs.declared.ending.Ending.{Ending}
use Rattle.helios_top.specs.declared.ending.Ending.TheVariants.{Usage, ReadFault, NoMemory, Refused, DiskFault, JournalRefused, Printed, Judged, Audited}

-- the line of a journal of another plan, with both fingerprints in hexadecimal
abbrev pub wrong_plan_line : List ℕ → List ℕ → List ℕ
wrong_plan_line kept given = codes "journal wrong-plan " ++ encode_lower kept ++ codes " " ++ encode_lower given ++ 10 ∷ []

-- the line of a journal of another site, with both numbers
abbrev pub wrong_site_line : ℕ → ℕ → List ℕ
wrong_site_line kept given = codes "journal wrong-site " ++ (decimal kept ++ (codes " " ++ (decimal given ++ 10 ∷ [])))

-- the line of each refusal: the place of the damage, both fingerprints, or both sites
abbrev pub journal_line : JournalRefusal → List ℕ
journal_line (Damaged at) = codes "journal damaged " ++ decimal at ++ 10 ∷ []
journal_line (WrongPlan kept given) = wrong_plan_line kept given
journal_line (WrongSite kept given) = wrong_site_line kept given

-- the refusal as a fault of the opening of a journal
abbrev pub fault_of : JournalRefusal → HostFault
fault_of (Damaged at) = faults.Damaged at
fault_of (WrongPlan kept given) = faults.WrongPlan kept given
fault_of (WrongSite kept given) = faults.WrongSite kept given

-- the bytes are refused as a journal of this site of this plan: they are damaged at that place, or their head names another plan, or another site
abbrev pub RefusesJournal : PlanData → ℕ → List ℕ → JournalRefusal → Type 0
RefusesJournal plan site bytes refusal = Stops plan site bytes (fault_of refusal)

-- the text of the records of the log of the node that these batches make
abbrev pub log_text : PlanData → ℕ → List (List Entry) → List ℕ
log_text plan site batches = records_text site (kept_log plan site batches)

-- the text is that of the batches for whose journal the bytes stand
pub record PrintsJournal (plan : PlanData) (site : ℕ) (bytes text : List ℕ) : Type 0 where
  pub batches : List (List Entry)
  pub holds : HoldsBatches plan site batches bytes
  pub printed : text ≡ log_text plan site batches

-- the text is that of some batches which the site may be asked
pub record PrintsLog (plan : PlanData) (site : ℕ) (text : List ℕ) : Type 0 where
  pub batches : List (List Entry)
  pub asked : All (AreAsked plan site) batches
  pub printed : text ≡ log_text plan site batches

-- the end of a dump of these bytes; a failed call and want of memory may come anywhere
abbrev pub Dumps : PlanData → ℕ → List ℕ → Ending → Type 0
Dumps plan site bytes Usage = ⊥
Dumps plan site bytes ReadFault = ⊥
Dumps plan site bytes NoMemory = Unit {0}
Dumps plan site bytes (Refused refusal) = ⊥
Dumps plan site bytes DiskFault = Unit {0}
Dumps plan site bytes (JournalRefused refusal) = RefusesJournal plan site bytes refusal
Dumps plan site bytes (Printed text) = PrintsJournal plan site bytes text
Dumps plan site bytes (Judged verdict) = ⊥
Dumps plan site bytes (Audited verdict) = ⊥

-- the bytes decide: no call failed, and memory was there
abbrev pub IsDecided : Ending → Type 0
IsDecided Usage = ⊥
IsDecided ReadFault = ⊥
IsDecided NoMemory = ⊥
IsDecided (Refused refusal) = ⊥
IsDecided DiskFault = ⊥
IsDecided (JournalRefused refusal) = Unit {0}
IsDecided (Printed text) = Unit {0}
IsDecided (Judged verdict) = ⊥
IsDecided (Audited verdict) = ⊥

-- the end that a fault of a journal comes to; no journal is too long to be read
abbrev pub IsEndOfFault : HostFault → Ending → Type 0
IsEndOfFault faults.DiskFailed ending = ending ≡ DiskFault
IsEndOfFault (faults.Damaged at) ending = ending ≡ JournalRefused (Damaged at)
IsEndOfFault faults.JournalFull ending = ending ≡ NoMemory
IsEndOfFault (faults.WrongPlan kept given) ending = ending ≡ JournalRefused (WrongPlan kept given)
IsEndOfFault (faults.WrongSite kept given) ending = ending ≡ JournalRefused (WrongSite kept given)
IsEndOfFault faults.NoMemory ending = ending ≡ NoMemory

-- the end that the records of a log, or a fault in place of them, come to; want of memory may come in place of a text
abbrev pub IsEndOfLog : ℕ → Result (List Record) HostFault → Ending → Type 0
IsEndOfLog site (Ok records) ending = (ending ≡ Printed (records_text site records)) ⊎ (ending ≡ NoMemory)
IsEndOfLog site (Err fault) ending = IsEndOfFault fault ending

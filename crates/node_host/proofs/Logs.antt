-- The records that a journal gives.
use Rattle.std.proofs.Common.{◌≡◌, ◌∙◌, ◌⊎◌, ap, refl, sym, subst, inl, inr, ℕ, ◌<◌, ◌≤◌, nat_le, true, false, List, [], ◌∷◌, length, Result, Ok, Err, IsErrOf, Option, Some, None, option_map, IfSome, arith}
use Rattle.std.specs.Option.{ForSome}
use Rattle.std.proofs.lemmas.Bool.{cases_lt}
use Rattle.std.proofs.lemmas.Bool.Decides.{nat_tests}
use Rattle.std.proofs.lemmas.List.Elements.{All-nil}
use Rattle.helios_model.specs.declared.records.Record.{Record}
use Rattle.helios_model.specs.Plans.{PlanData}
use Rattle.disk_store.specs.Disk.{DiskState, at_rest}
use Rattle.disk_store.specs.Moments.{AtEachMoment}
use Rattle.disk_store.specs.Laws.Moments.{Past}
use Rattle.node_journal.specs.Laws.{OneList}
use Rattle.node_journal.specs.Opening.{IsUnwritten, opened}
use Rattle.node_journal.specs.Positions.{Position}
use Rattle.node_journal.specs.Reading.{Finds}
use Rattle.node_journal.specs.declared.reading.Found.TheVariants.{Last}
use Rattle.node_host.specs.declared.fault.HostFault.{HostFault}
use Rattle.node_host.specs.declared.fault.HostFault.TheVariants.{DiskFailed, Damaged, JournalFull, WrongPlan, WrongSite, NoMemory}
use Rattle.node_host.specs.declared.recovery.Recovery.{Recovery}
use Rattle.node_host.specs.Fresh.{IsBegun}
use Rattle.node_host.specs.Journals.{AreAsked, HoldsBatches, IsJournal}
use Rattle.node_host.specs.Kept.{GivesLog, IsDecidedLog, IsLogOfSome, kept_log}
use Rattle.node_host.specs.Laws.{OneLog}
use Rattle.node_host.specs.Opening.{IsReadThrough, IsRecovered}
use Rattle.node_host.specs.Recovery.{recovered}
use Rattle.node_host.proofs.Beginning.{none_held}
use Rattle.node_host.proofs.Standing.{first_is}

-- no batch makes no records
no_log : (plan : PlanData) (site : ℕ) → kept_log plan site [] ≡ []
no_log plan site = ap (λ r. r.node.log) (first_is plan site)

pub log_of_none : (plan : PlanData) (site : ℕ) (records : List Record) → records ≡ [] → IsLogOfSome plan site records
log_of_none plan site records none = record { batches = []; asked = All-nil (AreAsked plan site); log = none ∙ sym (no_log plan site) }

-- the first gate of a journal that was begun is not open
pub none_kept : (plan : PlanData) (site : ℕ) (here journal : Position) (records : List Record) (state : Option DiskState) → here.gate ≡ 0 → ForSome state IsBegun
    → IfSome state (λ d. Finds d.bytes here (Ok (Last journal))) → records ≡ [] → IfSome state (λ d. GivesLog plan site d.bytes (Ok records))
none_kept plan site here journal records None zero begun found none = tt
none_kept plan site here journal records (Some d) zero begun found none = (
  [],
  record { payloads = []; stands = none_held d.bytes here.gate zero (subst (λ (n : ℕ). n < length d.bytes) (sym zero) (begun d refl).some) found.1; journal = refl },
  none ∙ sym (no_log plan site),
)

-- the batches behind a head were read
pub log_through : (plan : PlanData) (site : ℕ) (state : Option DiskState) (gate : ℕ) (recovery : Recovery) (records : List Record)
    → IfSome state (λ d. IsReadThrough plan site d.bytes gate recovery) → recovery.log ≡ Some records → IfSome state (λ d. GivesLog plan site d.bytes (Ok records))
log_through plan site None gate recovery records through is = tt
log_through plan site (Some d) gate recovery records through is = (
  through.has.batches,
  record {
    payloads = through.has.head ∷ through.has.payloads;
    stands = inr (gate, record { read = through.has.read; closed = through.closed });
    journal = through.has.journal;
  },
  subst (λ (log : Option (List Record)). IfSome log (λ rs. rs ≡ kept_log plan site through.has.batches)) is through.has.recovers.log,
)

pub log_of_some : (plan : PlanData) (site : ℕ) (recovery : Recovery) (records : List Record) → IsRecovered plan site recovery → recovery.log ≡ Some records → IsLogOfSome plan site records
log_of_some plan site recovery records read is = record {
  batches = read.batches;
  asked = read.asked;
  log = subst (λ (log : Option (List Record)). IfSome log (λ rs. rs ≡ kept_log plan site read.batches)) is read.recovers.log;
}

-- at most one byte and a closed gate give the same
short_log : OneList → (plan : PlanData) (site : ℕ) (bytes : List ℕ) (result : Result (List Record) HostFault) → length bytes ≤ 1
    → GivesLog plan site (0 ∷ []) result → GivesLog plan site bytes result
short_log one plan site bytes (Ok records) short gives =
    let holds : HoldsBatches plan site gives.0 (0 ∷ []) = gives.1 in
    let none : holds.payloads ≡ [] = one (0 ∷ []) holds.payloads [] holds.stands (inl (omega arith, refl)) in (
      gives.0,
      record { payloads = []; stands = inl (short, refl); journal = subst (λ ps. IsJournal plan site ps gives.0) none holds.journal },
      gives.2,
    )
short_log one plan site bytes (Err DiskFailed) short gives = tt
short_log one plan site bytes (Err (Damaged at)) short gives = absurd (let long : 1 < 1 = gives.0 in omega arith)
short_log one plan site bytes (Err JournalFull) short gives = gives
short_log one plan site bytes (Err (WrongPlan kept given)) short gives = absurd (let long : 1 < 1 = gives.1.long in omega arith)
short_log one plan site bytes (Err (WrongSite kept given)) short gives = absurd (let long : 1 < 1 = gives.1.long in omega arith)
short_log one plan site bytes (Err NoMemory) short gives = tt

opened_log : OneList → (plan : PlanData) (site : ℕ) (bytes : List ℕ) (result : Result (List Record) HostFault) → GivesLog plan site (opened bytes) result → GivesLog plan site bytes result
opened_log one plan site bytes result gives = elim (cases_lt 1 (length bytes)) [
  | inl long ↦ subst (λ (l : List ℕ). GivesLog plan site l result) (let test : nat_le (length bytes) 1 ≡ false = grind (arith, nat_tests) in rw test) gives
  | inr short ↦ short_log one plan site bytes result short
      (subst (λ (l : List ℕ). GivesLog plan site l result) (let test : nat_le (length bytes) 1 ≡ true = grind (arith, nat_tests) in rw test) gives)
]

-- the journal was opened, and then read by a core of this site of this plan
pub whole_log : OneList → (plan : PlanData) (site : ℕ) (plan' : PlanData) (site' : ℕ) → plan' ≡ plan → site' ≡ site → (old now : Option DiskState)
    → now ≡ option_map (λ d. at_rest (opened d.bytes)) old → (result : Result (List Record) HostFault) → IfSome now (λ d. GivesLog plan' site' d.bytes result)
    → IfSome old (λ d. GivesLog plan site d.bytes result)
whole_log one plan site plan' site' of_plan at_site old now opens result gives = by_state old
    (subst (λ (s : Option DiskState). IfSome s (λ d. GivesLog plan site d.bytes result)) opens
    (subst (λ (p : PlanData). IfSome now (λ d. GivesLog p site d.bytes result)) of_plan
    (subst (λ (s : ℕ). IfSome now (λ d. GivesLog plan' s d.bytes result)) at_site gives)))
  where
    by_state : (s : Option DiskState) → IfSome (option_map (λ d. at_rest (opened d.bytes)) s) (λ d. GivesLog plan site d.bytes result) → IfSome s (λ d. GivesLog plan site d.bytes result)
    by_state None so = tt
    by_state (Some d) so = opened_log one plan site d.bytes result so

pub decided_log : OneLog → (plan : PlanData) (site : ℕ) (state : Option DiskState) (result : Result (List Record) HostFault) → IfSome state (λ d. GivesLog plan site d.bytes result)
    → IfSome state (λ d. (given : Result (List Record) HostFault) → GivesLog plan site d.bytes given → IsDecidedLog given
    → (result ≡ given) ⊎ IsErrOf result DiskFailed ⊎ IsErrOf result NoMemory)
decided_log one plan site None result gives = tt
decided_log one plan site (Some d) result gives = λ given has decided. one plan site d.bytes result given gives has decided

-- nothing was written, and no call was made since
pub unwritten_stays : (past mid past' : Past) (old now new : Option DiskState) → new ≡ now → past' ≡ mid
    → IfSome old (λ d. 1 < length d.bytes → AtEachMoment past mid now (IsUnwritten d)) → IfSome old (λ d. 1 < length d.bytes → AtEachMoment past past' new (IsUnwritten d))
unwritten_stays past mid past' old now new same same_past moments =
    subst (λ (s : Option DiskState). IfSome old (λ d. 1 < length d.bytes → AtEachMoment past past' s (IsUnwritten d))) (sym same)
    (subst (λ (p : Past). IfSome old (λ d. 1 < length d.bytes → AtEachMoment past p now (IsUnwritten d))) (sym same_past) moments)

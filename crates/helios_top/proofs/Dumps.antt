-- What the records that a journal gives, or a fault in place of them, make of a dump.
use Rattle.std.proofs.Common.{◌≡◌, ◌≢◌, ◌⊎◌, inl, inr, ℕ, ◌<◌, ◌≤◌, ◌∙◌, ap, sym, refl, subst, List, Option, Some, None, IfSome, Result, Ok, Err, length, Bool, true, false, nat_lt, if◌then◌else◌, IsOkAnd, arith}
use Rattle.std.specs.Prelude.{option_map, IfOk, IsErrOf, is_some}
use Rattle.commit_offsets.specs.declared.refusal.PlanRefusal.{PlanRefusal}
use Rattle.commit_offsets.specs.Reading.{plan_of_text}
use Rattle.disk_store.specs.Disk.{IsAtRest, IsImage, at_rest}
use Rattle.disk_store.specs.Moments.{AtEachMoment}
use Rattle.disk_store.specs.Outlook.{never}
use Rattle.helios_model.specs.declared.entries.Entry.{Entry}
use Rattle.helios_model.specs.declared.records.Record.{Record}
use Rattle.helios_model.specs.declared.plans.Certificate.{Certificate}
use Rattle.helios_model.specs.Plans.{IsAccepted, PlanData, count_of}
use Rattle.helios_model.specs.Short.{first_short_of}
use Rattle.history_audit.specs.Recorded.{records_text}
use Rattle.node_host.specs.declared.fault.HostFault.{HostFault}
use Rattle.node_host.specs.declared.fault.HostFault.TheVariants as faults
use Rattle.node_host.specs.Journals.{KeepsBatches}
use Rattle.node_host.specs.Kept.{GivesLog, IsDecidedLog, IsLogOfSome, kept_log}
use Rattle.node_host.specs.Openings.{IsRefusal}
use Rattle.node_journal.specs.Devices.{SameRoom, StaysQuiet}
use Rattle.node_journal.specs.Opening.{IsUnwritten, opened}
use Rattle.outside_io.specs.Causes.{Rose}
use Rattle.helios_top.specs.declared.journal.JournalRefusal.{JournalRefusal}
use Rattle.helios_top.specs.declared.journal.JournalRefusal.TheVariants.{Damaged, WrongPlan, WrongSite}
use Rattle.helios_top.specs.declared.ending.Ending.{Ending}
use Rattle.helios_top.specs.declared.ending.Ending.TheVariants.{Usage, ReadFault, NoMemory, Refused, DiskFault, JournalRefused, Printed, Judged, Audited}
use Rattle.helios_top.specs.declared.ending.Refusal.TheVariants.{NoSuchSite, ShortPair}
use Rattle.helios_top.specs.declared.words.Command.TheVariants.{Dump}
use Rattle.helios_top.specs.Answers.{EndsOver}
use Rattle.helios_top.specs.Disks.{DumpLeavesOver, DumpsSite, EachMoment, IsDumped}
use Rattle.helios_top.specs.Ending.{IsOwn, RefusedOr}
use Rattle.helios_top.specs.Journals.{Dumps, IsDecided, IsEndOfLog, PrintsLog, fault_of}
use Rattle.helios_top.specs.Outside.{DiskSeen}
use Rattle.helios_top.specs.Refusals.{pair_refusal, site_refusal, site_refusal_in}
use Rattle.helios_top.specs.Runs.Dump.{IsDumpEnd}

-- what the records, or the fault, show of the disk
pub record IsKept (plan : PlanData) (site : ℕ) (held left : DiskSeen) (result : Result (List Record) HostFault) : Type 0 where
  pub ends : IfSome held.state (λ d. GivesLog plan site d.bytes result)
  pub decided : IfSome held.state (λ d. (given : Result (List Record) HostFault) → GivesLog plan site d.bytes given → IsDecidedLog given
      → (result ≡ given) ⊎ IsErrOf result faults.DiskFailed ⊎ IsErrOf result faults.NoMemory)
  pub node : IfOk result (IsLogOfSome plan site)
  pub not_full : result ≢ Err faults.JournalFull
  pub any_moment : IfSome held.state (λ d. EachMoment held left (λ t. (t ≡ d) ⊎ KeepsBatches plan site d t))
  pub any_moment_at_rest : IfSome held.state (λ d. IsAtRest d → EachMoment held left (λ t. KeepsBatches plan site d t))
  pub left_as : IsErrOf result faults.DiskFailed ⊎ (left.state ≡ option_map (λ d. at_rest (opened d.bytes)) held.state)
      ⊎ (IsErrOf result faults.NoMemory × (left.state ≡ held.state))
  pub unwritten : IfSome held.state (λ d. 1 < length d.bytes → EachMoment held left (IsUnwritten d))
  pub image : IfSome left.state (λ d. (left.state ≡ held.state) ⊎ IsImage d d.bytes)
  pub told : is_some left.state ≡ is_some held.state
  pub room : SameRoom held.outlook left.outlook
  pub keeps : left.keeps ≡ held.keeps
  pub later : held.faults ≤ left.faults
  pub steady : IsErrOf result faults.DiskFailed ⊎ (left.faults ≡ held.faults)
  pub cause : IsErrOf result faults.DiskFailed → Rose held.faults left.faults
  pub quiet : StaysQuiet held.outlook left.outlook
  pub failed : IfSome held.outlook (λ o. IsErrOf result faults.DiskFailed → (o.failing ≢ never) ⊎ (o.room ≡ 0))

-- ---- the end of a result

-- an end is a failed call exactly where the result is
failed_call : (site : ℕ) (result : Result (List Record) HostFault) (ending : Ending) → IsEndOfLog site result ending → ending ≡ DiskFault → IsErrOf result faults.DiskFailed
failed_call site (Ok records) ending (inl e) f = cc
failed_call site (Ok records) ending (inr e) f = cc
failed_call site (Err faults.DiskFailed) ending e f = refl
failed_call site (Err (faults.Damaged at)) ending e f = cc
failed_call site (Err faults.JournalFull) ending e f = cc
failed_call site (Err (faults.WrongPlan kept given)) ending e f = cc
failed_call site (Err (faults.WrongSite kept given)) ending e f = cc
failed_call site (Err faults.NoMemory) ending e f = cc

call_failed : (site : ℕ) (result : Result (List Record) HostFault) (ending : Ending) → IsEndOfLog site result ending → IsErrOf result faults.DiskFailed → ending ≡ DiskFault
call_failed site (Ok records) ending e f = cc
call_failed site (Err faults.DiskFailed) ending e f = e
call_failed site (Err (faults.Damaged at)) ending e f = cc
call_failed site (Err faults.JournalFull) ending e f = cc
call_failed site (Err (faults.WrongPlan kept given)) ending e f = cc
call_failed site (Err (faults.WrongSite kept given)) ending e f = cc
call_failed site (Err faults.NoMemory) ending e f = cc

no_memory : (site : ℕ) (result : Result (List Record) HostFault) (ending : Ending) → IsEndOfLog site result ending → IsErrOf result faults.NoMemory → ending ≡ NoMemory
no_memory site (Ok records) ending e f = cc
no_memory site (Err faults.DiskFailed) ending e f = cc
no_memory site (Err (faults.Damaged at)) ending e f = cc
no_memory site (Err faults.JournalFull) ending e f = cc
no_memory site (Err (faults.WrongPlan kept given)) ending e f = cc
no_memory site (Err (faults.WrongSite kept given)) ending e f = cc
no_memory site (Err faults.NoMemory) ending e f = e

-- ---- what the bytes say of the end

dumps : (plan : PlanData) (site : ℕ) (bytes : List ℕ) (result : Result (List Record) HostFault) (ending : Ending) → GivesLog plan site bytes result
    → IsEndOfLog site result ending → Dumps plan site bytes ending
dumps plan site bytes (Ok records) ending gives (inl e) =
    subst (Dumps plan site bytes) (sym e) (record { batches = gives.0; holds = gives.1; printed = ap (records_text site) gives.2 })
dumps plan site bytes (Ok records) ending gives (inr e) = subst (Dumps plan site bytes) (sym e) tt
dumps plan site bytes (Err faults.DiskFailed) ending gives e = subst (Dumps plan site bytes) (sym e) tt
dumps plan site bytes (Err (faults.Damaged at)) ending gives e = subst (Dumps plan site bytes) (sym e) gives
dumps plan site bytes (Err faults.JournalFull) ending gives e = subst (Dumps plan site bytes) (sym e) tt
dumps plan site bytes (Err (faults.WrongPlan kept given)) ending gives e = subst (Dumps plan site bytes) (sym e) gives
dumps plan site bytes (Err (faults.WrongSite kept given)) ending gives e = subst (Dumps plan site bytes) (sym e) gives
dumps plan site bytes (Err faults.NoMemory) ending gives e = subst (Dumps plan site bytes) (sym e) tt

refusal_is_decided : (refusal : JournalRefusal) → IsRefusal (fault_of refusal)
refusal_is_decided (Damaged at) = tt
refusal_is_decided (WrongPlan kept given) = tt
refusal_is_decided (WrongSite kept given) = tt

-- the end of the records of these batches, or of a refusal
end_of_records : (site : ℕ) (result : Result (List Record) HostFault) (ending : Ending) (records : List Record) → IsEndOfLog site result ending → result ≡ Ok records
    → (ending ≡ Printed (records_text site records)) ⊎ (ending ≡ NoMemory)
end_of_records site result ending records e is = subst (λ (r : Result (List Record) HostFault). IsEndOfLog site r ending) is e

end_of_refusal : (site : ℕ) (result : Result (List Record) HostFault) (ending : Ending) (refusal : JournalRefusal) → IsEndOfLog site result ending
    → result ≡ Err (fault_of refusal) → ending ≡ JournalRefused refusal
end_of_refusal site result ending (Damaged at) e is = subst (λ (r : Result (List Record) HostFault). IsEndOfLog site r ending) is e
end_of_refusal site result ending (WrongPlan kept given) e is = subst (λ (r : Result (List Record) HostFault). IsEndOfLog site r ending) is e
end_of_refusal site result ending (WrongSite kept given) e is = subst (λ (r : Result (List Record) HostFault). IsEndOfLog site r ending) is e

-- the bytes decide the records, or the fault
abbrev Decides : PlanData → ℕ → List ℕ → Result (List Record) HostFault → Type 0
Decides plan site bytes result = (given : Result (List Record) HostFault) → GivesLog plan site bytes given → IsDecidedLog given
    → (result ≡ given) ⊎ IsErrOf result faults.DiskFailed ⊎ IsErrOf result faults.NoMemory

decided : (plan : PlanData) (site : ℕ) (bytes : List ℕ) (result : Result (List Record) HostFault) (ending given : Ending) → IsEndOfLog site result ending
    → Decides plan site bytes result → Dumps plan site bytes given → IsDecided given → (ending ≡ given) ⊎ (ending ≡ DiskFault) ⊎ (ending ≡ NoMemory)
decided plan site bytes result ending Usage e decides h d = absurd h
decided plan site bytes result ending ReadFault e decides h d = absurd h
decided plan site bytes result ending NoMemory e decides h d = absurd d
decided plan site bytes result ending (Refused refusal) e decides h d = absurd h
decided plan site bytes result ending DiskFault e decides h d = absurd d
decided plan site bytes result ending (JournalRefused refusal) e decides h d =
    elim (decides (Err (fault_of refusal)) h (refusal_is_decided refusal)) [
      | inl same ↦ inl (end_of_refusal site result ending refusal e same)
      | inr (inl failed) ↦ inr (inl (call_failed site result ending e failed))
      | inr (inr none) ↦ inr (inr (no_memory site result ending e none))
    ]
decided plan site bytes result ending (Printed text) e decides h d =
    elim (decides (Ok (kept_log plan site h.batches)) (h.batches, h.holds, refl) tt) [
      | inl same ↦ elim (end_of_records site result ending (kept_log plan site h.batches) e same) [
        | inl printed ↦ inl (printed ∙ ap Printed (sym h.printed))
        | inr none ↦ inr (inr none)
      ]
      | inr (inl failed) ↦ inr (inl (call_failed site result ending e failed))
      | inr (inr none) ↦ inr (inr (no_memory site result ending e none))
    ]
decided plan site bytes result ending (Judged verdict) e decides h d = absurd h
decided plan site bytes result ending (Audited verdict) e decides h d = absurd h

gives : (plan : PlanData) (site : ℕ) (result : Result (List Record) HostFault) (ending : Ending) (text : List ℕ) → IfOk result (IsLogOfSome plan site)
    → IsEndOfLog site result ending → ending ≡ Printed text → PrintsLog plan site text
gives plan site (Ok records) ending text node (inl e) is =
    let own : records_text site records ≡ text = cc in record { batches = node.batches; asked = node.asked; printed = sym own ∙ ap (records_text site) node.log }
gives plan site (Ok records) ending text node (inr e) is = cc
gives plan site (Err faults.DiskFailed) ending text node e is = cc
gives plan site (Err (faults.Damaged at)) ending text node e is = cc
gives plan site (Err faults.JournalFull) ending text node e is = cc
gives plan site (Err (faults.WrongPlan kept given)) ending text node e is = cc
gives plan site (Err (faults.WrongSite kept given)) ending text node e is = cc
gives plan site (Err faults.NoMemory) ending text node e is = cc

if_state : {T : Type 0} {P Q : T → Type 0} (state : Option T) → IfSome state P → ((x : T) → P x → Q x) → IfSome state Q
if_state None h f = tt
if_state (Some x) h f = f x h

left_as : (site : ℕ) (held left : DiskSeen) (result : Result (List Record) HostFault) (ending : Ending) → IsEndOfLog site result ending
    → IsErrOf result faults.DiskFailed ⊎ (left.state ≡ option_map (λ d. at_rest (opened d.bytes)) held.state) ⊎ (IsErrOf result faults.NoMemory × (left.state ≡ held.state))
    → (ending ≡ DiskFault) ⊎ (left.state ≡ option_map (λ d. at_rest (opened d.bytes)) held.state) ⊎ ((ending ≡ NoMemory) × (left.state ≡ held.state))
left_as site held left result ending e (inl failed) = inl (call_failed site result ending e failed)
left_as site held left result ending e (inr (inl whole)) = inr (inl whole)
left_as site held left result ending e (inr (inr none)) = inr (inr (no_memory site result ending e none.0, none.1))

steady : (site : ℕ) (held left : DiskSeen) (result : Result (List Record) HostFault) (ending : Ending) → IsEndOfLog site result ending
    → IsErrOf result faults.DiskFailed ⊎ (left.faults ≡ held.faults) → ending ≢ DiskFault → left.faults ≡ held.faults
steady site held left result ending e (inl failed) other = absurd (other (call_failed site result ending e failed))
steady site held left result ending e (inr same) other = same

pub is_dumped : (plan : PlanData) (site : ℕ) (held left : DiskSeen) (result : Result (List Record) HostFault) (ending : Ending) → IsAccepted plan → site < count_of plan
    → IsKept plan site held left result → IsEndOfLog site result ending → IsDumped plan site held left ending
is_dumped plan site held left result ending accepted here h e = record {
  accepted = accepted;
  here = here;
  ends = if_state held.state h.ends (λ d g. dumps plan site d.bytes result ending g e);
  decided = if_state held.state h.decided (λ d decides given. decided plan site d.bytes result ending given e decides);
  gives = λ text. gives plan site result ending text h.node e;
  cause = λ f. h.cause (failed_call site result ending e f);
  steady = steady site held left result ending e h.steady;
  failed = if_state held.outlook h.failed (λ o none f. none (failed_call site result ending e f));
  left_as = left_as site held left result ending e h.left_as;
  unwritten = h.unwritten;
  any_moment = h.any_moment;
  any_moment_at_rest = h.any_moment_at_rest;
  image = h.image;
  told = h.told;
  room = h.room;
  quiet = h.quiet;
  keeps = h.keeps;
  later = h.later;
}

-- what the dump answers, where it does not end for want of memory
pub dump_ends : (plan : PlanData) (site : ℕ) (result : Result (List Record) HostFault) (ending : Ending) → IfOk result (IsLogOfSome plan site)
    → IsEndOfLog site result ending → IsOwn ending → IsDumpEnd plan site ending
dump_ends plan site (Ok records) ending node (inl e) own =
    subst (IsDumpEnd plan site) (sym e) (record { batches = node.batches; asked = node.asked; printed = ap (records_text site) node.log })
dump_ends plan site (Ok records) ending node (inr e) own = absurd (subst IsOwn e own)
dump_ends plan site (Err faults.DiskFailed) ending node e own = subst (IsDumpEnd plan site) (sym e) tt
dump_ends plan site (Err (faults.Damaged at)) ending node e own = subst (IsDumpEnd plan site) (sym e) tt
dump_ends plan site (Err faults.JournalFull) ending node e own = absurd (subst IsOwn e own)
dump_ends plan site (Err (faults.WrongPlan kept given)) ending node e own = subst (IsDumpEnd plan site) (sym e) tt
dump_ends plan site (Err (faults.WrongSite kept given)) ending node e own = subst (IsDumpEnd plan site) (sym e) tt
dump_ends plan site (Err faults.NoMemory) ending node e own = absurd (subst IsOwn e own)

-- ---- over the text that the plan was read from

abbrev Read : Type 0
Read = Result (PlanData × Certificate) PlanRefusal

pub over_ends : (site : ℕ) (text : List ℕ) (plan : PlanData) (certificate : Certificate) (ending : Ending) → plan_of_text text ≡ Ok (plan, certificate)
    → RefusedOr (site_refusal plan site) ending (IsDumpEnd plan site ending) → EndsOver (Dump site) text ending
over_ends site text plan certificate ending read h =
    subst (λ (said : Read). RefusedOr (site_refusal_in site said) ending (IsOkAnd said (λ r. IsDumpEnd r.0 site ending))) (sym read) h

pub over_leaves : (site : ℕ) (text : List ℕ) (plan : PlanData) (certificate : Certificate) (held left : DiskSeen) (ending : Ending) → plan_of_text text ≡ Ok (plan, certificate)
    → DumpsSite plan site held left ending → DumpLeavesOver site text held left ending
over_leaves site text plan certificate held left ending read (inl before) = inl before
over_leaves site text plan certificate held left ending read (inr dumped) =
    inr (subst (λ (said : Read). IsOkAnd said (λ r. IsDumped r.0 site held left ending)) (sym read) dumped)

-- ---- the sites of the plan

pub short_refused : (plan : PlanData) (site i j : ℕ) (Answers : Type 0) → first_short_of plan ≡ Some (i, j) → RefusedOr (site_refusal plan site) (Refused (ShortPair i j)) Answers
short_refused plan site i j Answers short = subst (λ (pair : Option (ℕ × ℕ)). RefusedOr (pair_refusal pair plan site) (Refused (ShortPair i j)) Answers) (sym short) refl

pub site_refused : (plan : PlanData) (site : ℕ) (Answers : Type 0) → first_short_of plan ≡ None → nat_lt site (count_of plan) ≡ false
    → RefusedOr (site_refusal plan site) (Refused (NoSuchSite site)) Answers
site_refused plan site Answers none beyond =
    subst (λ (pair : Option (ℕ × ℕ)). RefusedOr (pair_refusal pair plan site) (Refused (NoSuchSite site)) Answers) (sym none)
    (subst (λ (is : Bool). RefusedOr (if is then None else Some (NoSuchSite site)) (Refused (NoSuchSite site)) Answers) (sym beyond) refl)

pub site_accepted : (plan : PlanData) (site : ℕ) (ending : Ending) (Answers : Type 0) → first_short_of plan ≡ None → nat_lt site (count_of plan) ≡ true
    → IsOwn ending × Answers → RefusedOr (site_refusal plan site) ending Answers
site_accepted plan site ending Answers none here h =
    subst (λ (pair : Option (ℕ × ℕ)). RefusedOr (pair_refusal pair plan site) ending Answers) (sym none)
    (subst (λ (is : Bool). RefusedOr (if is then None else Some (NoSuchSite site)) ending Answers) (sym here) h)

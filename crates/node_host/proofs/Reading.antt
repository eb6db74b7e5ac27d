-- A journal that is read frame by frame.
use Rattle.std.proofs.Common.{◌≡◌, ◌≢◌, ◌∙◌, ap, sym, subst, inl, inr, ℕ, List, [], ◌∷◌, ◌++◌, Option, Some, None, IfSome, Result, Ok, Err, IsErrOf}
use Rattle.std.proofs.lemmas.List.Elements.{All-append, All-cons, All-nil}
use Rattle.helios_model.specs.Plans.{PlanData}
use Rattle.disk_store.specs.Disk.{DiskState}
use Rattle.node_journal.specs.Frames.{HoldsFrame, IsReadTo, LeadsNowhere}
use Rattle.node_journal.specs.Positions.{Position}
use Rattle.node_journal.specs.Reading.{Advances, Finds}
use Rattle.node_journal.specs.declared.reading.Found.TheVariants.{Frame}
use Rattle.node_journal.specs.declared.fault.JournalFault.{JournalFault}
use Rattle.node_journal.specs.declared.fault.JournalFault.TheVariants as faults
use Rattle.node_host.specs.Faults.{passed}
use Rattle.disk_store.specs.Outlook.{Outlook, never}
use Rattle.node_host.specs.declared.fault.HostFault.{HostFault}
use Rattle.node_host.specs.declared.fault.HostFault.TheVariants.{DiskFailed, Damaged, JournalFull, WrongPlan, WrongSite, NoMemory}
use Rattle.node_host.specs.declared.recovery.Recovery.{Recovery}
use Rattle.node_host.specs.Journals.{AreAsked}
use Rattle.node_host.specs.Opening.{HasRead, Interrupts, IsRecovered, RefusesBatch, RefusesHead, TakesBatch}
use Rattle.node_host.proofs.Holdings.{journal_push}

-- one frame more, which is a batch
read_next : (plan : PlanData) (site : ℕ) (bytes : List ℕ) (gate next : ℕ) (payload : List ℕ) (before after : Recovery) (has : HasRead plan site bytes gate before)
    → IsReadTo bytes next ((has.head ∷ has.payloads) ++ payload ∷ []) → TakesBatch plan site payload before after → HasRead plan site bytes next after
read_next plan site bytes gate next payload before after has read takes = record {
  head = has.head;
  payloads = has.payloads ++ payload ∷ [];
  batches = has.batches ++ takes.batch ∷ [];
  read = read;
  journal = journal_push plan site has.head has.payloads has.batches payload takes.batch has.journal takes.is_batch;
  recovers = takes.goes_on has.batches has.recovers;
}

pub recovered_more : (plan : PlanData) (site : ℕ) (plan' : PlanData) (payload : List ℕ) (before after : Recovery) → plan' ≡ plan → TakesBatch plan' site payload before after
    → IsRecovered plan site before → IsRecovered plan site after
recovered_more plan site plan' payload before after same takes' is =
    let takes : TakesBatch plan site payload before after = subst (λ (p : PlanData). TakesBatch p site payload before after) same takes' in
    record {
      batches = is.batches ++ takes.batch ∷ [];
      asked = All-append (AreAsked plan site) is.batches (takes.batch ∷ []) is.asked
          (All-cons (AreAsked plan site) takes.batch [] takes.is_batch.each (All-nil (AreAsked plan site)));
      recovers = takes.goes_on is.batches is.recovers;
    }

-- a payload that is no batch, or no head, is no fault of a limit
pub batch_not_full : (plan : PlanData) (site at : ℕ) (payload : List ℕ) (fault : HostFault) → RefusesBatch plan site at payload fault → fault ≢ JournalFull
batch_not_full plan site at payload DiskFailed why is = cc is
batch_not_full plan site at payload (Damaged place) why is = cc is
batch_not_full plan site at payload JournalFull why is = why
batch_not_full plan site at payload (WrongPlan kept given) why is = cc is
batch_not_full plan site at payload (WrongSite kept given) why is = cc is
batch_not_full plan site at payload NoMemory why is = cc is

pub head_not_full : (fingerprint : List ℕ) (site : ℕ) (payload : List ℕ) (fault : HostFault) → RefusesHead fingerprint site payload fault → fault ≢ JournalFull
head_not_full fingerprint site payload DiskFailed why is = cc is
head_not_full fingerprint site payload (Damaged place) why is = cc is
head_not_full fingerprint site payload JournalFull why is = why
head_not_full fingerprint site payload (WrongPlan kept given) why is = cc is
head_not_full fingerprint site payload (WrongSite kept given) why is = cc is
head_not_full fingerprint site payload NoMemory why is = cc is

module _ (plan : PlanData) (site : ℕ) (first : Recovery) (begun gate : ℕ) (before : Recovery) (old now : Option DiskState) (same : now ≡ old)
    (read : IfSome old (λ d. HasRead plan site d.bytes begun first → HasRead plan site d.bytes gate before)) where
  pub read_more : (plan' : PlanData) (next : ℕ) (payload : List ℕ) (after : Recovery) → plan' ≡ plan → TakesBatch plan' site payload before after
      → IfSome now (λ d. (payloads : List (List ℕ)) → IsReadTo d.bytes gate payloads → IsReadTo d.bytes next (payloads ++ payload ∷ []))
      → IfSome old (λ d. HasRead plan site d.bytes begun first → HasRead plan site d.bytes next after)
  read_more plan' next payload after is takes on = by_state old read (subst (λ (s : Option DiskState). IfSome s (λ d. (payloads : List (List ℕ)) → IsReadTo d.bytes gate payloads → IsReadTo d.bytes next (payloads ++ payload ∷ []))) same on)
    where
      by_state : (s : Option DiskState) → IfSome s (λ d. HasRead plan site d.bytes begun first → HasRead plan site d.bytes gate before)
          → IfSome s (λ d. (payloads : List (List ℕ)) → IsReadTo d.bytes gate payloads → IsReadTo d.bytes next (payloads ++ payload ∷ []))
          → IfSome s (λ d. HasRead plan site d.bytes begun first → HasRead plan site d.bytes next after)
      by_state None so_far further = tt
      by_state (Some d) so_far further = λ has.
          let here = so_far has in
          read_next plan site d.bytes gate next payload before after here (further (here.head ∷ here.payloads) here.read) (subst (λ (p : PlanData). TakesBatch p site payload before after) is takes)

  -- the payload that was read next is no batch
  pub payload_refused : (here behind : Position) (plan' : PlanData) (at : ℕ) (payload : List ℕ) (fault : HostFault) → here.gate ≡ gate → plan' ≡ plan
      → Advances here (Frame behind at payload) → RefusesBatch plan' site at payload fault
      → IfSome now (λ d. Finds d.bytes here (Ok (Frame behind at payload)))
      → IfSome old (λ d. HasRead plan site d.bytes begun first → Interrupts plan site d.bytes fault)
  payload_refused here behind plan' at payload fault start is goes refuses found =
      by_state old read (subst (λ (s : Option DiskState). IfSome s (λ d. Finds d.bytes here (Ok (Frame behind at payload)))) same found)
    where
      place : at ≡ gate
      place = goes.0 ∙ start

      by_fault : (e : HostFault) (bytes : List ℕ) → RefusesBatch plan site at payload e → HoldsFrame bytes gate payload → HasRead plan site bytes gate before → Interrupts plan site bytes e
      by_fault DiskFailed bytes why frame has = absurd why
      by_fault (Damaged there) bytes why frame has = record {
        payloads = has.head ∷ has.payloads;
        batches = has.batches;
        read = subst (λ (n : ℕ). IsReadTo bytes n (has.head ∷ has.payloads)) (sym (why.0 ∙ place)) has.read;
        journal = has.journal;
        damage = inr (payload, subst (λ (n : ℕ). HoldsFrame bytes n payload) (sym (why.0 ∙ place)) frame, why.1);
      }
      by_fault JournalFull bytes why frame has = absurd why
      by_fault (WrongPlan kept given) bytes why frame has = absurd why
      by_fault (WrongSite kept given) bytes why frame has = absurd why
      by_fault NoMemory bytes why frame has = tt

      by_state : (s : Option DiskState) → IfSome s (λ d. HasRead plan site d.bytes begun first → HasRead plan site d.bytes gate before)
          → IfSome s (λ d. Finds d.bytes here (Ok (Frame behind at payload))) → IfSome s (λ d. HasRead plan site d.bytes begun first → Interrupts plan site d.bytes fault)
      by_state None so_far finds = tt
      by_state (Some d) so_far finds = λ has.
          by_fault fault d.bytes (subst (λ (p : PlanData). RefusesBatch p site at payload fault) is refuses)
          (subst (λ (n : ℕ). HoldsFrame d.bytes n payload) start finds.2) (so_far has)

-- the next frame was not read
module _ (plan : PlanData) (site : ℕ) (first : Recovery) (begun gate : ℕ) (before : Recovery) (old now : Option DiskState) (same : now ≡ old)
    (read : IfSome old (λ d. HasRead plan site d.bytes begun first → HasRead plan site d.bytes gate before)) where
  pub frame_refused : (here : Position) (fault : JournalFault) → here.gate ≡ gate → IfSome now (λ d. Finds d.bytes here (Err fault))
      → IfSome old (λ d. HasRead plan site d.bytes begun first → Interrupts plan site d.bytes (passed fault))
  frame_refused here fault start found = by_state old read (subst (λ (s : Option DiskState). IfSome s (λ d. Finds d.bytes here (Err fault))) same found)
    where
      by_fault : (e : JournalFault) (bytes : List ℕ) → Finds bytes here (Err e) → HasRead plan site bytes gate before → Interrupts plan site bytes (passed e)
      by_fault faults.DiskFailed bytes why has = tt
      by_fault (faults.Damaged at) bytes why has = record {
        payloads = has.head ∷ has.payloads;
        batches = has.batches;
        read = subst (λ (n : ℕ). IsReadTo bytes n (has.head ∷ has.payloads)) (sym (why.0 ∙ start)) has.read;
        journal = has.journal;
        damage = inl (subst (λ (n : ℕ). LeadsNowhere bytes n) (sym why.0) why.1);
      }
      by_fault faults.JournalFull bytes why has = absurd why
      by_fault faults.NoMemory bytes why has = tt

      by_state : (s : Option DiskState) → IfSome s (λ d. HasRead plan site d.bytes begun first → HasRead plan site d.bytes gate before)
          → IfSome s (λ d. Finds d.bytes here (Err fault)) → IfSome s (λ d. HasRead plan site d.bytes begun first → Interrupts plan site d.bytes (passed fault))
      by_state None so_far finds = tt
      by_state (Some d) so_far finds = λ has. by_fault fault d.bytes finds (so_far has)

-- a fault that was passed on is the disk's where it was the disk's
pub passed_on : {T U : Type 0} (result : Result T HostFault) (read : Result U JournalFault) (given : HostFault) (fault : JournalFault) → result ≡ Err given → given ≡ passed fault
    → read ≡ Err fault → IsErrOf result DiskFailed → IsErrOf read faults.DiskFailed
passed_on result read given faults.DiskFailed is from was failed = was
passed_on result read given (faults.Damaged at) is from was failed = absurd (let clash : Err (Damaged at) ≡ Err DiskFailed = sym (is ∙ ap Err from) ∙ failed in cc)
passed_on result read given faults.JournalFull is from was failed = absurd (let clash : Err JournalFull ≡ Err DiskFailed = sym (is ∙ ap Err from) ∙ failed in cc)
passed_on result read given faults.NoMemory is from was failed = absurd (let clash : Err NoMemory ≡ Err DiskFailed = sym (is ∙ ap Err from) ∙ failed in cc)

pub failed_on : {T U : Type 0} (old now : Option Outlook) (result : Result T HostFault) (read : Result U JournalFault) → (IsErrOf result DiskFailed → IsErrOf read faults.DiskFailed)
    → IfSome old (λ o. o.failing ≡ never → now ≡ Some o) → IfSome now (λ o. IsErrOf read faults.DiskFailed → o.failing ≢ never)
    → IfSome old (λ o. IsErrOf result DiskFailed → o.failing ≢ never)
failed_on None now result read from quiet failed = tt
failed_on (Some o) now result read from quiet failed = λ is stands.
    let failed' = subst (λ (s : Option Outlook). IfSome s (λ x. IsErrOf read faults.DiskFailed → x.failing ≢ never)) (quiet stands) failed in
    failed' (from is) stands

-- while no call on the disk is to fail, its outlook stays
pub quiet_on : (old mid new : Option Outlook) → IfSome old (λ o. o.failing ≡ never → mid ≡ Some o) → IfSome mid (λ o. o.failing ≡ never → new ≡ Some o)
    → IfSome old (λ o. o.failing ≡ never → new ≡ Some o)
quiet_on None mid new one two = tt
quiet_on (Some o) mid new one two = λ stands.
    let two' : IfSome (Some o) (λ x. x.failing ≡ never → new ≡ Some x) = subst (λ (s : Option Outlook). IfSome s (λ x. x.failing ≡ never → new ≡ Some x)) (one stands) two in
    two' stands

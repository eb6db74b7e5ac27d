-- What the first gate of a journal leads to.
use Rattle.std.proofs.Common.{◌≡◌, ◌∙◌, ap, refl, sym, subst, inl, ℕ, List, [], slice_index, Ok, Err, Option, Some, None, IfSome}
use Rattle.std.specs.Option.{ForSome}
use Rattle.helios_model.specs.Plans.{PlanData}
use Rattle.disk_store.specs.Disk.{DiskState}
use Rattle.disk_store.specs.Moments.{AtEachMoment}
use Rattle.disk_store.specs.Laws.Moments.{Past, moments_start}
use Rattle.node_journal.specs.Frames.{HoldsFrame, IsReadTo, LeadsNowhere}
use Rattle.node_journal.specs.Positions.{Position}
use Rattle.node_journal.specs.Reading.{Finds, ReadsOn}
use Rattle.node_journal.specs.declared.reading.Found.TheVariants.{Frame, Last}
use Rattle.node_journal.specs.declared.fault.JournalFault.{JournalFault}
use Rattle.node_journal.specs.declared.fault.JournalFault.TheVariants as faults
use Rattle.node_host.specs.Faults.{passed}
use Rattle.node_host.specs.Fresh.{HasFirst, IsBegun}
use Rattle.node_host.specs.Journals.{KeepsBatches}
use Rattle.node_host.specs.Openings.{Stops}
use Rattle.node_host.proofs.Holdings.{payloads_keep}
use Rattle.node_host.proofs.Standing.{read_none, rest_payloads}

-- the first gate was not read, or leads nowhere
fault_stops : (plan : PlanData) (site : ℕ) (here : Position) (disk : DiskState) (fault : JournalFault) → here.gate ≡ 0 → IsBegun disk
    → Finds disk.bytes here (Err fault) → Stops plan site disk.bytes (passed fault)
fault_stops plan site here disk faults.DiskFailed zero begun why = tt
fault_stops plan site here disk (faults.Damaged at) zero begun why =
    let first : at ≡ 0 = why.0 ∙ zero in
    let nowhere : LeadsNowhere disk.bytes 0 = subst (λ (n : ℕ). LeadsNowhere disk.bytes n) zero why.1 in (
      begun.long nowhere.is_open,
      record {
        payloads = [];
        batches = [];
        read = subst (λ (n : ℕ). IsReadTo disk.bytes n []) (sym first) (read_none disk.bytes begun.some);
        journal = refl;
        damage = inl (subst (λ (n : ℕ). LeadsNowhere disk.bytes n) (sym first) nowhere);
      },
    )
fault_stops plan site here disk faults.JournalFull zero begun why = why
fault_stops plan site here disk faults.NoMemory zero begun why = tt

pub stops_unread : (plan : PlanData) (site : ℕ) (here : Position) (fault : JournalFault) (state : Option DiskState) → here.gate ≡ 0 → ForSome state IsBegun
    → IfSome state (λ d. Finds d.bytes here (Err fault)) → IfSome state (λ d. Stops plan site d.bytes (passed fault))
stops_unread plan site here fault None zero begun why = tt
stops_unread plan site here fault (Some d) zero begun why = fault_stops plan site here d fault zero (begun d refl) why

-- the gate at which a journal holds nothing is not open
pub last_is_closed : (here : Position) (journal : Position) (state : Option DiskState) (P : Type 0) → here.gate ≡ 0
    → IfSome state (λ d. Finds d.bytes here (Ok (Last journal))) → IfSome state (λ d. slice_index d.bytes 0 ≡ 1 → P)
last_is_closed here journal None P zero found = tt
last_is_closed here journal (Some d) P zero found = λ is_open. absurd (found.1 (ap (λ (n : ℕ). slice_index d.bytes n) zero ∙ is_open))

-- a disk at rest that stayed as it was
pub moments_stay : (plan : PlanData) (site : ℕ) (past past' : Past) (old new : Option DiskState) → new ≡ old → past' ≡ past → ForSome old IsBegun
    → IfSome old (λ d. AtEachMoment past past' new (λ t. KeepsBatches plan site d t))
moments_stay plan site past past' None new same same_past begun = tt
moments_stay plan site past past' (Some d) new same same_past begun =
    subst (λ (s : Option DiskState). AtEachMoment past past' s (λ t. KeepsBatches plan site d t)) (sym same)
    (subst (λ (p : Past). AtEachMoment past p (Some d) (λ t. KeepsBatches plan site d t)) (sym same_past)
    (moments_start (λ t. KeepsBatches plan site d t) past d (payloads_keep plan site d d (rest_payloads d (begun d refl).at_rest))))

-- calls behind one that changed nothing
pub moments_behind : (plan : PlanData) (site : ℕ) (past mid past' : Past) (old now new : Option DiskState) → now ≡ old → mid ≡ past
    → IfSome now (λ d. AtEachMoment mid past' new (λ t. KeepsBatches plan site d t)) → IfSome old (λ d. AtEachMoment past past' new (λ t. KeepsBatches plan site d t))
moments_behind plan site past mid past' old now new same same_past moments =
    subst (λ (s : Option DiskState). IfSome s (λ d. AtEachMoment past past' new (λ t. KeepsBatches plan site d t))) same
    (subst (λ (p : Past). IfSome now (λ d. AtEachMoment p past' new (λ t. KeepsBatches plan site d t))) same_past moments)

-- the first frame was read
pub first_read : (here next : Position) (at : ℕ) (payload : List ℕ) (old new : Option DiskState) → new ≡ old → here.gate ≡ 0 → ForSome old IsBegun
    → IfSome old (λ d. Finds d.bytes here (Ok (Frame next at payload)))
    → IfSome old (λ d. (payloads : List (List ℕ)) → IsReadTo d.bytes here.gate payloads → ReadsOn d.bytes payloads (Ok (Frame next at payload)))
    → ForSome new (HasFirst payload next.gate)
first_read here next at payload old new same zero begun found on = subst (λ (s : Option DiskState). ForSome s (HasFirst payload next.gate)) (sym same) (by_state old begun found on)
  where
    by_state : (s : Option DiskState) → ForSome s IsBegun → IfSome s (λ d. Finds d.bytes here (Ok (Frame next at payload)))
        → IfSome s (λ d. (payloads : List (List ℕ)) → IsReadTo d.bytes here.gate payloads → ReadsOn d.bytes payloads (Ok (Frame next at payload)))
        → ForSome s (HasFirst payload next.gate)
    by_state None begun finds further = λ d told. absurd (cc told)
    by_state (Some x) begun finds further = λ d told.
        let same' : x ≡ d = cc told in
        let is : IsBegun x = begun x refl in
        subst (λ (y : DiskState). HasFirst payload next.gate y) same' (record {
          at_rest = is.at_rest;
          frame = subst (λ (n : ℕ). HoldsFrame x.bytes n payload) zero finds.2;
          read = further [] (subst (λ (n : ℕ). IsReadTo x.bytes n []) (sym zero) (read_none x.bytes is.some));
        })

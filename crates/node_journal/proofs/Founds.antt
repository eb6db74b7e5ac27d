-- What a reading finds, and what was read then.
use Rattle.std.proofs.Common.{◌≡◌, ℕ, ◌+◌, ◌<◌, ◌≤◌, List, [], ◌∷◌, ◌++◌, length, take, drop, Option, Some, None, Result, Ok, Err, IfSome, IfOk, refl, sym, ◌∙◌, ap, subst, arith, append_assoc, take-append-drop}
use Rattle.std.specs.Option.{ForSome}
use Rattle.std.proofs.lemmas.List.{drop-drop, take-take}
use Rattle.disk_store.specs.Disk.{DiskState, GivesBytes}
use Rattle.node_journal.specs.Frames.{length_bytes, most_payload, HoldsFrame, IsReadTo, EndsAt}
use Rattle.node_journal.specs.Gates.{HasLength}
use Rattle.node_journal.specs.Positions.{Position}
use Rattle.node_journal.specs.Reading.{Finds, ReadsOn, LeavesReady}
use Rattle.node_journal.specs.Appending.{IsReady}
use Rattle.node_journal.specs.declared.reading.Found.{Found}
use Rattle.node_journal.specs.declared.reading.Found.TheVariants.{Frame, Last}
use Rattle.node_journal.specs.declared.fault.JournalFault.{JournalFault}
use Rattle.node_journal.proofs.Images.{read_more}

-- the length behind the gate, and the payload and the next gate within the bytes
holds_frame : (bytes : List ℕ) (gate size : ℕ) (payload : List ℕ) → HasLength bytes gate size → size ≤ most_payload → gate + 6 + size ≤ length bytes
    → payload ≡ take size (drop (gate + 5) bytes) → length payload ≡ size → HoldsFrame bytes gate payload
holds_frame bytes gate size payload has small fits is size_is =
    let next : gate + 5 + size ≡ gate + 5 + length payload = omega arith in
    let behind : drop (gate + 5) bytes ≡ payload ++ drop (gate + 5 + length payload) bytes =
    sym (take-append-drop size (drop (gate + 5) bytes)) ∙ ap (λ (l : List ℕ). l ++ drop size (drop (gate + 5) bytes)) (sym is)
    ∙ ap (λ (l : List ℕ). payload ++ l) (drop-drop size (gate + 5) bytes ∙ ap (λ (n : ℕ). drop n bytes) next) in
    record {
      frame = sym (take-append-drop 5 (drop gate bytes)) ∙ ap (λ (l : List ℕ). l ++ drop 5 (drop gate bytes)) has.spelled
          ∙ ap (λ (l : List ℕ). (1 ∷ length_bytes size) ++ l) (drop-drop 5 gate bytes ∙ behind)
          ∙ ap (λ (n : ℕ). (1 ∷ length_bytes n) ++ (payload ++ drop (gate + 5 + length payload) bytes)) (sym size_is)
          ∙ sym (append_assoc (1 ∷ length_bytes (length payload)) payload (drop (gate + 5 + length payload) bytes));
      next = omega arith;
      small = omega arith;
    }

-- so many bytes and one more were read, of a disk that may tell its contents
pub payload_whole : (state : Option DiskState) (at size count : ℕ) (into payload : List ℕ) → IfSome state (λ disk. GivesBytes disk.bytes at into count) → length into ≡ size + 1 → size < count
    → payload ≡ take size into → IfSome state (λ disk. (at + size < length disk.bytes) × (payload ≡ take size (drop at disk.bytes)))
payload_whole None at size count into payload gives sized more is = tt
payload_whole (Some disk) at size count into payload gives sized more is = (
  omega (arith, gives.counted),
  is ∙ sym (take-take size count into (omega arith)) ∙ ap (take size) gives.given ∙ take-take size count (drop at disk.bytes) (omega arith),
)

-- fewer were read
pub payload_short : (state : Option DiskState) (at size count : ℕ) (into : List ℕ) → IfSome state (λ disk. GivesBytes disk.bytes at into count) → length into ≡ size + 1 → count ≤ size
    → IfSome state (λ disk. length disk.bytes ≤ at + size)
payload_short None at size count into gives sized few = tt
payload_short (Some disk) at size count into gives sized few = omega (arith, gives.counted)

-- the frame that was read, of a disk that may tell its contents
pub frame_found : (state : Option DiskState) (gate limit size next : ℕ) (payload : List ℕ) → ForSome state (λ disk. HasLength disk.bytes gate size) → size ≤ most_payload → next ≡ gate + 5 + size
    → IfSome state (λ disk. (gate + 5 + size < length disk.bytes) × (payload ≡ take size (drop (gate + 5) disk.bytes))) → length payload ≡ size
    → IfSome state (λ disk. Finds disk.bytes (record { gate = gate; limit = limit }) (Ok (Frame (record { gate = next; limit = limit }) gate payload)))
frame_found None gate limit size next payload has small is read size_is = tt
frame_found (Some disk) gate limit size next payload has small is read size_is =
    let place : next ≡ gate + 5 + length payload = omega arith in (
      refl,
      ap (λ (n : ℕ). let p : Position = record { gate = n; limit = limit } in p) place,
      holds_frame disk.bytes gate size payload (has disk refl) small (omega (arith, read.0)) read.1 size_is,
    )

-- what was found joins what was read before
finds_on : (bytes : List ℕ) (here : Position) (result : Result Found JournalFault) → Finds bytes here result → (payloads : List (List ℕ)) → IsReadTo bytes here.gate payloads → ReadsOn bytes payloads result
finds_on bytes here (Ok (Frame reading place payload)) found payloads read =
    subst (λ (p : Position). IsReadTo bytes p.gate (payloads ++ payload ∷ [])) (sym found.1) (read_more bytes here.gate payload payloads read found.2)
finds_on bytes here (Ok (Last journal)) found payloads read =
    subst (λ (p : Position). EndsAt bytes p.gate payloads) (sym found.0) (record { read = read; closed = found.1 })
finds_on bytes here (Err fault) found payloads read = tt

pub read_on : (state : Option DiskState) (here : Position) (result : Result Found JournalFault) → IfSome state (λ disk. Finds disk.bytes here result)
    → IfSome state (λ disk. (payloads : List (List ℕ)) → IsReadTo disk.bytes here.gate payloads → ReadsOn disk.bytes payloads result)
read_on None here result found = tt
read_on (Some disk) here result found = finds_on disk.bytes here result found

-- the disk is as the next call asks
finds_ready : (disk : DiskState) (here : Position) (found : Found) → here.gate < length disk.bytes → Finds disk.bytes here (Ok found) → LeavesReady found disk
finds_ready disk here (Frame reading place payload) within found =
    subst (λ (p : Position). p.gate < length disk.bytes) (sym found.1) found.2.next
finds_ready disk here (Last journal) within found = λ rest.
    subst (λ (p : Position). IsReady disk p.gate) (sym found.0) (record { at_rest = rest; within = within; closed = found.1 })

pub ready_if : (state : Option DiskState) (here : Position) (result : Result Found JournalFault) → ForSome state (λ disk. here.gate < length disk.bytes)
    → IfSome state (λ disk. Finds disk.bytes here result) → IfOk result (λ found. ForSome state (λ disk. LeavesReady found disk))
ready_if state here (Err fault) within finds = tt
ready_if None here (Ok found) within finds = λ disk told. absurd (let clash : None ≡ Some disk = told in cc)
ready_if (Some old) here (Ok found) within finds = λ disk told.
    let same : old ≡ disk = cc in
    subst (λ (d : DiskState). LeavesReady found d) same (finds_ready old here found (within old refl) finds)

-- How calls under a stop end, and the crash behind them.
use Rattle.std.proofs.Common.{◌≡◌, ◌⊎◌, inl, inr, ℕ, ◌+◌, ◌≤◌, nat_le, nat_lt, ◌&&◌, if◌then◌else◌, Bool, true, false, List, [], ◌∷◌, length, Option, Some, None, option_map, Result, Ok, Err, IfOk, IfSome, OnErr, IsErrOf, is_ok, refl, sym, ◌∙◌, ap, subst, arith}
use Rattle.std.proofs.lemmas.Bool.Decides.{nat_tests}
use Rattle.helios_model.specs.declared.entries.Entry.{Entry}
use Rattle.helios_model.specs.Limits.{most_inputs}
use Rattle.helios_model.specs.Plans.{PlanData}
use Rattle.helios_model.specs.World.{grown, journaled}
use Rattle.disk_store.specs.Disk.{DiskState, IsAtRest, IsImage}
use Rattle.disk_store.specs.Memory.{MemState, keep_of}
use Rattle.disk_store.specs.Moments.{AtEachMoment}
use Rattle.disk_store.specs.Outlook.{Outlook}
use Rattle.disk_store.specs.declared.fate.Keep.{Keep}
use Rattle.node_journal.specs.Appending.{end_of, failed_state, is_kept, lasts}
use Rattle.log_records.specs.Entries.{batch_bytes}
use Rattle.node_host.specs.Hosts.{HaveReadings, IsHostOn, payload_of}
use Rattle.node_host.specs.Journals.{AreAsked, HoldsBatches, KeepsBatches, frame_size}
use Rattle.node_host.specs.Laws.{StoppedBatch}
use Rattle.node_host.specs.States.{HostState}
use Rattle.node_host.specs.declared.fault.HostFault.{HostFault}
use Rattle.node_host.specs.declared.fault.HostFault.TheVariants.{DiskFailed, NoMemory}
use Rattle.node_host.specs.declared.host.Batched.{Batched}
use Rattle.node_host.specs.declared.host.Opened.{Opened}
use Rattle.schedule_replay.specs.Progress.{most_volume}
use Rattle.schedule_replay.specs.Seats.{IsHolding, IsSeated}
use Rattle.schedule_replay.proofs.Quiet.{crashed, crashed_holds, roomier, roomier_seated, scripted, scripted_told, stays_unlisted, stopping, told}
use Rattle.schedule_replay.proofs.Seating.{HoldsOneOf, IsBetween, batch_crashed, opening_crashed}

-- the room that a disk tells
abbrev pub room_told : MemState → Option ℕ
room_told m = option_map (λ (o : Outlook). o.room) (told m)

-- an opening under a stop, and a crash
pub opening_stopped : (plan : PlanData) (site : ℕ) (batches : List (List Entry)) (call : ℕ) (keep : Keep) (old mid new last : MemState) → IsHolding plan site batches old → mid ≡ scripted call keep old
    → room_told new ≡ room_told mid → (IsAtRest mid.disk → AtEachMoment None None (Some new.disk) (KeepsBatches plan site mid.disk)) → last ≡ crashed new → IsImage new.disk last.disk.bytes → IsHolding plan site batches last
opening_stopped plan site batches call keep old mid new last holds is same moments left image =
    let disk : mid.disk ≡ old.disk = ap (λ (m : MemState). m.disk) is in
    let none : mid.fate.fails ≡ [] = ap (λ (m : MemState). m.fate.fails) is ∙ holds.quiet.unlisted in
    opening_crashed plan site batches mid new last (subst (λ (d : DiskState). HoldsBatches plan site batches d.bytes) (sym disk) holds.holds) (subst IsAtRest (sym disk) holds.at_rest)
    (stays_unlisted mid new none same) moments left image

-- a frame is its payload and five bytes
frame_is : (entries : List Entry) → 1 ≤ length entries → frame_size entries ≡ length (batch_bytes entries) + 5
frame_is [] some = absurd (omega arith)
frame_is (e ∷ es) some = refl

module _ (host : HostState) (batches : List (List Entry)) (entries : List Entry) (frame : ℕ) (old roomy mid : MemState) (call : ℕ) (keep : Keep)
    (seated : IsSeated host.core.plan host.core.site batches host old) (journaled_some : 1 ≤ length (journaled entries)) (sized : frame ≡ frame_size (journaled entries))
    (more : roomy ≡ roomier frame old) (script : mid ≡ scripted call keep roomy) where
  roomy_seated : IsSeated host.core.plan host.core.site batches host roomy
  roomy_seated = roomier_seated host.core.plan host.core.site batches host frame old roomy more seated

  -- the host stands over the disk that was given a script
  pub scripted_on : IsHostOn host batches mid.disk
  scripted_on = subst (IsHostOn host batches) (sym (ap (λ (m : MemState). m.disk) script)) roomy_seated.on

  unlisted : mid.fate.fails ≡ []
  unlisted = ap (λ (m : MemState). m.fate.fails) script ∙ roomy_seated.quiet.unlisted

  fits_roomy : end_of host.gate (payload_of entries) ≤ roomy.room
  fits_roomy = omega (arith, seated.on.ends.read.within, frame_is (journaled entries) journaled_some, ap (λ (m : MemState). m.room) more)

  fits : end_of host.gate (payload_of entries) ≤ mid.room
  fits = omega (arith, fits_roomy, ap (λ (m : MemState). m.room) script)

  -- what a batch left under the script, and a crash then keeps: one of two lists
  pub stop_between : (new last : MemState) → room_told new ≡ room_told mid → AtEachMoment None None (Some new.disk) (IsBetween host.core.plan host.core.site batches entries)
      → last ≡ crashed new → IsImage new.disk last.disk.bytes → HoldsOneOf host.core.plan host.core.site batches entries last
  stop_between new last same moments left image = batch_crashed host.core.plan host.core.site batches entries new last (stays_unlisted mid new unlisted same) moments left image

  have_readings : (result : Result Batched HostFault) → IsErrOf result DiskFailed → IsErrOf result NoMemory ⊎ HaveReadings (journaled entries) → HaveReadings (journaled entries)
  have_readings result fault (inl none) = absurd (let clash : Err DiskFailed ≡ Err NoMemory = sym fault ∙ none in cc)
  have_readings result fault (inr readings) = readings

  -- the one of the two by the stop, where the seal was stopped
  pub seal_stopped : StoppedBatch → (new last : MemState) (result : Result Batched HostFault) → 1 ≤ call → call ≤ 4 → length entries ≤ most_inputs → AreAsked host.core.plan host.core.site entries
      → IsErrOf result DiskFailed → IsErrOf result NoMemory ⊎ HaveReadings (journaled entries)
      → IfSome (told mid) (λ o. IsErrOf result DiskFailed → Some new.disk ≡
      (if nat_le (end_of host.gate (payload_of entries)) o.room then option_map (failed_state o.failing host.gate (payload_of entries)) (Some mid.disk) else Some mid.disk))
      → Some (keep_of new.fate.script) ≡ Some (keep_of mid.fate.script) → room_told new ≡ room_told mid → last ≡ crashed new
      → IsHolding host.core.plan host.core.site (if is_kept call keep then grown batches (journaled entries) else batches) last
  seal_stopped law new last result first few short asked fault readings failed keeps same left =
      let list : List (List Entry) = if is_kept call keep then grown batches (journaled entries) else batches in
      let stands = law mid new (record { left = call; keep = keep }) host batches entries result unlisted (ap (λ (m : MemState). m.fate.script) script) first few scripted_on short asked
      (have_readings result fault readings) journaled_some fits fault failed keeps in
      crashed_holds host.core.plan host.core.site list new last left (stays_unlisted mid new unlisted same)
      (subst (λ (m : MemState). HoldsBatches host.core.plan host.core.site list m.disk.bytes) (sym left) stands)

  abbrev Answers : Result Batched HostFault → Outlook → Type 0
  Answers result o = 1 ≤ length (journaled entries) → end_of host.gate (payload_of entries) ≤ host.limit
      → IsErrOf result NoMemory ⊎ (is_ok result ≡ (nat_le (end_of host.gate (payload_of entries)) o.room && lasts 4 o.failing))

  -- a stop within the first four calls lets no seal end well
  pub not_sealed : (batched : Batched) → 1 ≤ call → call ≤ 4 → host.gate ≤ most_volume → frame ≤ 19415766 → IfSome (told mid) (Answers (Ok batched)) → ⊥
  not_sealed batched first few low short answer =
      let answers : Answers (Ok batched) (stopping roomy.room call) = subst (λ (o : Option Outlook). IfSome o (Answers (Ok batched))) (scripted_told call keep roomy mid roomy_seated.quiet first script) answer in
      let within : end_of host.gate (payload_of entries) ≤ host.limit = omega (arith, seated.limited, frame_is (journaled entries) journaled_some) in
      let test : nat_le (end_of host.gate (payload_of entries)) roomy.room ≡ true = grind (arith, nat_tests, fits_roomy) in
      let stops : nat_lt 4 call ≡ false = grind (arith, nat_tests) in
      elim (answers journaled_some within) [
        | inl none ↦ let clash : IsErrOf (Ok batched) NoMemory = none in cc
        | inr same ↦ let clash : true ≡ false = rw (test, stops) at same in cc
      ]

-- the same seat by another plan and another place that are the same
pub same_seat : (P : PlanData → ℕ → Type 0) (plan given : PlanData) (site place : ℕ) → plan ≡ given → place ≡ site → P plan site → P given place
same_seat P plan given site place is here holds = subst (λ (p : PlanData). P p place) is (subst (P plan) (sym here) holds)

-- opened again behind a batch that was stopped
pub opened_stopped : {E : Type 0} (plan given : PlanData) (site place : ℕ) (host : HostState) (list : List (List Entry) → List (List Entry)) (old mid new : MemState) (result : Result Opened E)
    → plan ≡ given → place ≡ site
    → ((batches : List (List Entry)) → IsSeated plan site batches host old → IsHolding plan site (list batches) mid)
    → IfOk result (λ o. (batches : List (List Entry)) → IsHolding given place batches mid → IsSeated given place batches o.host new)
    → IfOk result (λ o. (batches : List (List Entry)) → IsSeated plan site batches host old → IsSeated plan site (list batches) o.host new)
opened_stopped plan given site place host list old mid new (Ok o) is here left opens = λ batches seated.
    let holds = same_seat (λ p s. IsHolding p s (list batches) mid) plan given site place is here (left batches seated) in
    same_seat (λ p s. IsSeated p s (list batches) o.host new) given plan place site (sym is) (sym here) (opens (list batches) holds)
opened_stopped plan given site place host list old mid new (Err e) is here left opens = tt

either_list : (plan : PlanData) (site : ℕ) (batches : List (List Entry)) (entries : List Entry) (m : MemState) (is : Bool) → IsHolding plan site (if is then grown batches (journaled entries) else batches) m
    → HoldsOneOf plan site batches entries m
either_list plan site batches entries m true holds = inr holds
either_list plan site batches entries m false holds = inl holds

-- not opened again behind a batch that was stopped
pub unopened_stopped : {E : Type 0} (plan given : PlanData) (site place : ℕ) (host : HostState) (entries : List Entry) (is_kept : Bool) (old mid new : MemState) (result : Result Opened E)
    → plan ≡ given → place ≡ site
    → ((batches : List (List Entry)) → IsSeated plan site batches host old → IsHolding plan site (if is_kept then grown batches (journaled entries) else batches) mid)
    → OnErr result ((batches : List (List Entry)) → IsHolding given place batches mid → IsHolding given place batches new)
    → OnErr result ((batches : List (List Entry)) → IsSeated plan site batches host old → HoldsOneOf plan site batches entries new)
unopened_stopped plan given site place host entries is_kept old mid new (Ok o) is here left kept = tt
unopened_stopped plan given site place host entries is_kept old mid new (Err e) is here left kept = λ batches seated.
    let list : List (List Entry) = if is_kept then grown batches (journaled entries) else batches in
    let holds = same_seat (λ p s. IsHolding p s list mid) plan given site place is here (left batches seated) in
    either_list plan site batches entries new is_kept (same_seat (λ p s. IsHolding p s list new) given plan place site (sym is) (sym here) (kept list holds))

-- What a crash leaves after an `append` was stopped.
use Rattle.std.proofs.Common.{◌≡◌, ◌≢◌, inl, inr, ℕ, ◌+◌, ◌-◌, ◌<◌, ◌≤◌, true, false, ◌==◌, nat_le, if◌then◌else◌, List, [], ◌∷◌, ◌++◌, length, get_or, replicate, Option, Some, option_map, IfSome, IsErrOf, refl, sym, ◌∙◌, ap, subst, arith}
use Rattle.std.proofs.lemmas.Bool.{cases_eq, cases_lt}
use Rattle.std.proofs.lemmas.Bool.Decides.{nat_tests}
use Rattle.std.proofs.lemmas.List.{length-replicate}
use Rattle.disk_store.specs.Disk.{DiskState, TornFrom, at_rest, over, after_write}
use Rattle.disk_store.specs.Crash.{kept}
use Rattle.disk_store.specs.Memory.{outlook_of, keep_of}
use Rattle.disk_store.specs.declared.fate.Script.{Script}
use Rattle.disk_store.specs.declared.fate.Keep.{Keep}
use Rattle.disk_store.specs.declared.fate.Keep.TheVariants.{All, Nothing, Byte}
use Rattle.disk_store.specs.Laws.Over.{over_within, length-over}
use Rattle.disk_store.specs.Laws.Crash.{kept_torn, fill_marked}
use Rattle.node_journal.specs.Frames.{IsSmall, frame_of, IsReadTo, StandsFor}
use Rattle.node_journal.specs.Appending.{IsReady, end_of, sealed, framed, stopped_at, failed_state, is_kept}
use Rattle.node_journal.specs.Laws.{StoppedDisk}
use Rattle.node_journal.specs.declared.fault.JournalFault.TheVariants.{DiskFailed}
use Rattle.node_journal.proofs.Images.{staged, staged_before, staged_within, staged_gate, gate_opened, sealed_ends, frame_images, ends_kept}

module _ (gate : ℕ) (payload bytes : List ℕ) (within : gate < length bytes) (payloads : List (List ℕ)) (read : IsReadTo bytes gate payloads) (closed : get_or bytes gate 0 ≢ 1) (small : IsSmall payload) where
  -- the gate stays closed while the frame is written
  frame_stopped : (keep : Keep) → StandsFor (kept keep (framed gate payload (at_rest bytes))) payloads
  frame_stopped keep = inr (
    gate,
    frame_images gate payload bytes within payloads read closed (length (frame_of payload)) (kept keep (framed gate payload (at_rest bytes)))
        (kept_torn (gate + 1) (frame_of payload) bytes keep (omega arith)),
  )

  abbrev behind : List ℕ
  behind = staged gate payload bytes within

  abbrev gated : DiskState
  gated = after_write gate (1 ∷ []) (at_rest behind)

  le : gate ≤ length behind
  le = omega (arith, staged_within gate payload bytes within)

  torn : (keep : Keep) → TornFrom gate 1 behind (kept keep gated)
  torn keep = kept_torn gate (1 ∷ []) behind keep le

  -- with an open gate the new payload counts
  with_open : (keep : Keep) → get_or (kept keep gated) gate 0 ≡ 1 → StandsFor (kept keep gated) (payloads ++ payload ∷ [])
  with_open keep is_open =
      let whole : kept keep gated ≡ sealed gate payload bytes = gate_opened gate payload bytes within (kept keep gated) (torn keep) is_open in
      subst (λ (l : List ℕ). StandsFor l (payloads ++ payload ∷ [])) (sym whole) (inr (gate + 5 + length payload, sealed_ends gate payload bytes within payloads read small))

  with_closed : (keep : Keep) → get_or (kept keep gated) gate 0 ≢ 1 → StandsFor (kept keep gated) payloads
  with_closed keep shut =
      let there : gate < length (kept keep gated) = omega (arith, (torn keep).no_shorter, staged_within gate payload bytes within) in
      inr (gate, ends_kept bytes (kept keep gated) gate payloads read ((torn keep).before ∙ staged_before gate payload bytes within) there shut)

  gate_is : get_or (over gate (1 ∷ []) behind) gate 0 ≡ 1
  gate_is =
      let first : gate - gate ≡ 0 = omega arith in
      over_within gate (1 ∷ []) behind le gate 0 (omega arith) (omega arith) ∙ ap (λ (n : ℕ). get_or (1 ∷ []) n 0) first

  size_clean : length (replicate (length behind) false) ≡ length behind
  size_clean = length-replicate (length behind) false

  gate_marked : get_or (over gate (replicate 1 true) (replicate (length behind) false)) gate false ≡ true
  gate_marked =
      let first : gate - gate ≡ 0 = omega arith in
      over_within gate (replicate 1 true) (replicate (length behind) false) (omega (arith, size_clean, le)) gate false (omega arith) (omega arith)
      ∙ ap (λ (n : ℕ). get_or (replicate 1 true) n false) first

  byte_is : (byte : ℕ) → get_or (kept (Byte byte) gated) gate 0 ≡ byte
  byte_is byte = fill_marked byte gate gated.written gated.bytes gate_marked (omega (arith, length-over gate (1 ∷ []) behind le, staged_within gate payload bytes within))

  -- a stop at the third call or at the fourth
  gate_stopped : (call : ℕ) (keep : Keep) → 3 ≤ call → StandsFor (kept keep gated) (if is_kept call keep then payloads ++ payload ∷ [] else payloads)
  gate_stopped call All late = let test : nat_le 3 call ≡ true = grind (arith, nat_tests) in rw test (with_open All gate_is)
  gate_stopped call Nothing late = with_closed Nothing (λ is_open. closed (sym (staged_gate gate payload bytes within) ∙ is_open))
  gate_stopped call (Byte byte) late =
      let test : nat_le 3 call ≡ true = grind (arith, nat_tests) in
      elim (cases_eq byte 1) [
        | inl one ↦ let same : (byte == 1) ≡ true = grind (arith, nat_tests) in rw (test, same) (with_open (Byte byte) (byte_is byte ∙ one))
        | inr other ↦ let differs : (byte == 1) ≡ false = grind (arith, nat_tests) in rw (test, differs) (with_closed (Byte byte) (λ is_open. other (sym (byte_is byte) ∙ is_open)))
      ]

  early : (call : ℕ) (keep : Keep) → call < 3 → is_kept call keep ≡ false
  early call All before = grind (arith, nat_tests)
  early call Nothing before = refl
  early call (Byte byte) before = let test : nat_le 3 call ≡ false = grind (arith, nat_tests) in rw test

  stopped : (call : ℕ) (keep : Keep) → StandsFor (kept keep (stopped_at call gate payload (at_rest bytes))) (if is_kept call keep then payloads ++ payload ∷ [] else payloads)
  stopped call keep = elim (cases_lt call 3) [
    | inl before ↦ let test : nat_le call 2 ≡ true = grind (arith, nat_tests) in rw (test, early call keep before) (frame_stopped keep)
    | inr late ↦ let test : nat_le call 2 ≡ false = grind (arith, nat_tests) in rw test (gate_stopped call keep (omega arith))
  ]

-- which of the two lists a disk stands for after a stop and a crash
pub stopped_stands : (call gate : ℕ) (keep : Keep) (payload : List ℕ) (payloads : List (List ℕ)) (disk : DiskState) → 1 ≤ call → call ≤ 4 → IsReady disk gate
    → IsReadTo disk.bytes gate payloads → IsSmall payload → StandsFor (kept keep (stopped_at call gate payload disk)) (if is_kept call keep then payloads ++ payload ∷ [] else payloads)
stopped_stands call gate keep payload payloads disk some few ready read small =
    subst (λ (d : DiskState). StandsFor (kept keep (stopped_at call gate payload d)) (if is_kept call keep then payloads ++ payload ∷ [] else payloads)) (sym ready.at_rest)
    (stopped gate payload disk.bytes ready.within payloads read ready.closed small call keep)

-- What an `append` that failed left is what the stopped call left, by the clause on the outlook.
stop_left : (fails : List ℕ) (room : ℕ) (script : Script) (gate : ℕ) (payload : List ℕ) (old new : DiskState) (failed : Type 0)
    → fails ≡ [] → 1 ≤ script.left → end_of gate payload ≤ room → failed
    → IfSome (outlook_of fails room (Some script)) (λ o. failed → Some new ≡ (if nat_le (end_of gate payload) o.room then option_map (failed_state o.failing gate payload) (Some old) else Some old))
    → new ≡ stopped_at script.left gate payload old
stop_left [] room script gate payload old new failed none some fits fault left =
    let test : nat_le (end_of gate payload) room ≡ true = grind (arith, nat_tests) in
    let later : (script.left == 0) ≡ false = grind (arith, nat_tests) in
    let told : Some new ≡ Some (stopped_at script.left gate payload old) = rw (test, later) at left fault in
    cc
stop_left (number ∷ fails) room script gate payload old new failed none some fits fault left = absurd (let clash = none in cc)

-- a stop at one of the four calls, and then a crash by its script
pub stopped_disk : StoppedDisk
stopped_disk old new script gate payload payloads result none is some few fits ready read small fault left keeps =
    let keep_is : keep_of new.fate.script ≡ script.keep = let same : keep_of new.fate.script ≡ keep_of old.fate.script = cc in same ∙ ap keep_of is in
    let left' = subst (λ (s : Option Script). IfSome (outlook_of old.fate.fails old.room s) (λ o. IsErrOf result DiskFailed → Some new.disk ≡
    (if nat_le (end_of gate payload) o.room then option_map (failed_state o.failing gate payload) (Some old.disk) else Some old.disk))) is left in
    let new_is : new.disk ≡ stopped_at script.left gate payload old.disk =
    stop_left old.fate.fails old.room script gate payload old.disk new.disk (IsErrOf result DiskFailed) none some fits fault left' in
    let whole : kept (keep_of new.fate.script) new.disk ≡ kept script.keep (stopped_at script.left gate payload old.disk) =
    ap (λ (keep : Keep). kept keep new.disk) keep_is ∙ ap (kept script.keep) new_is in
    subst (λ (l : List ℕ). StandsFor l (if is_kept script.left script.keep then payloads ++ payload ∷ [] else payloads)) (sym whole)
    (stopped_stands script.left gate script.keep payload payloads old.disk some few ready read small)

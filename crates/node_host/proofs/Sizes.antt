-- How long the frames of a journal are.
use Rattle.std.proofs.Common.{◌≡◌, ◌∙◌, refl, sym, ap, subst, ℕ, ◌+◌, ◌-◌, ◌<◌, ◌≤◌, ◌==◌, nat_lt, Bool, true, false, if◌then◌else◌, List, [], ◌∷◌, ◌++◌, length, take, drop, length-append, length-drop, Result, Ok, Err, All, arith}
use Rattle.std.specs.List.{sum_by}
use Rattle.std.proofs.lemmas.Bool.{ltb-false}
use Rattle.std.proofs.lemmas.Bool.Decides.{nat_tests}
use Rattle.std.proofs.lemmas.List.Elements.{All-cons, All-nil}
use Rattle.std.proofs.lemmas.List.Sums.{sum_by-cons}
use Rattle.helios_model.specs.declared.entries.Entry.{Entry}
use Rattle.helios_model.specs.Limits.{most_sites}
use Rattle.helios_model.specs.Plans.{PlanData, count_of}
use Rattle.disk_store.specs.Disk.{DiskState}
use Rattle.node_journal.specs.Frames.{frames, length_bytes}
use Rattle.node_journal.specs.Laws.{OneGate}
use Rattle.log_records.specs.declared.faults.DecodeFault.{DecodeFault}
use Rattle.log_records.specs.declared.faults.DecodeFault.TheVariants.{Bad}
use Rattle.log_records.specs.declared.heads.Head.{Head}
use Rattle.log_records.specs.Fields.{◌>>=◌, byte_at, is_within, text_at}
use Rattle.log_records.specs.Heads.{head_at, head_of, whole_input}
use Rattle.node_host.specs.Hosts.{IsHostOn}
use Rattle.node_host.specs.Journals.{AreBatches, IsBatchPayload, IsJournal, frame_size, head_for, journal_size}
use Rattle.node_host.specs.States.{HostState}
use Rattle.node_host.proofs.Taking.{ReadIsBatch}

-- ---- a head

record Bound {A B : Type 0} (x : Result A DecodeFault) (next : A → Result B DecodeFault) (y : B) : Type 0 where
  value : A
  is : x ≡ Ok value
  goes : next value ≡ Ok y

bound : {A B : Type 0} (x : Result A DecodeFault) (next : A → Result B DecodeFault) (y : B) → (x >>= next) ≡ Ok y → Bound x next y
bound (Ok a) next y e = record { value = a; is = refl; goes = e }
bound (Err fault) next y e = absurd (cc e)

accepted : {X : Type 0} (test : Bool) (place : ℕ) (x : X) (rest : List ℕ) (y : X × List ℕ) → (if test then Ok (x, rest) else Err (Bad place)) ≡ Ok y → rest ≡ y.1
accepted true place x rest y e = let both : Ok (x, rest) ≡ Ok y = e in let same : (x, rest) ≡ y = cc both in ap (λ p. p.1) same
accepted false place x rest y e = absurd (cc e)

byte_size : (rule : ℕ → Bool) (whole : ℕ) (bytes : List ℕ) (y : ℕ × List ℕ) → byte_at rule whole bytes ≡ Ok y → length bytes ≡ 1 + length y.1
unfolding byte_at
byte_size rule whole [] y e = absurd (cc e)
byte_size rule whole (b ∷ rest) y e = omega (arith, ap length (accepted (rule b) (whole - length (b ∷ rest)) b rest y e))

text_size : (rule : List ℕ → Bool) (n whole : ℕ) (bytes : List ℕ) (y : List ℕ × List ℕ) → text_at rule n whole bytes ≡ Ok y → length bytes ≡ n + length y.1
unfolding text_at
text_size rule n whole bytes y e = by_test (nat_lt (length bytes) n) refl e
  where
    by_test : (t : Bool) → nat_lt (length bytes) n ≡ t
        → (if t then Err Rattle.log_records.specs.declared.faults.DecodeFault.TheVariants.Cut
        else (if rule (take n bytes) then Ok (take n bytes, drop n bytes) else Err (Bad (whole - length bytes)))) ≡ Ok y → length bytes ≡ n + length y.1
    by_test true is e = absurd (cc e)
    by_test false is e =
        let rest : drop n bytes ≡ y.1 = accepted (rule (take n bytes)) (whole - length bytes) (take n bytes) (drop n bytes) y e in
        let long : n ≤ length bytes = ltb-false (length bytes) n is in
        omega (arith, ap length rest, length-drop n bytes, long)

whole_size : {X : Type 0} (whole : ℕ) (x : X × List ℕ) (y : X) → whole_input whole x ≡ Ok y → length x.1 ≡ 0
whole_size whole x y e = by_test (length x.1 == 0) refl e
  where
    by_test : (t : Bool) → (length x.1 == 0) ≡ t → (if t then Ok x.0 else Err (Bad (whole - length x.1))) ≡ Ok y → length x.1 ≡ 0
    by_test true is e = grind (arith, nat_tests)
    by_test false is e = absurd (cc e)

abbrev given : Head × List ℕ → Result (Head × List ℕ) DecodeFault
given y = Ok y

left_of : (head : Head) (rest : List ℕ) (y : Head × List ℕ) → given (head, rest) ≡ given y → rest ≡ y.1
left_of head rest y e = let same : (head, rest) ≡ y = cc e in ap (λ (p : Head × List ℕ). p.1) same

-- a head is 34 bytes
pub head_size : (bytes : List ℕ) (head : Head) → head_of bytes ≡ Ok head → length bytes ≡ 34
unfolding head_of head_at
head_size bytes head e =
    let whole = bound (head_at (length bytes) bytes) (whole_input (length bytes)) head e in
    let first = bound (byte_at (is_within 1 1) (length bytes) bytes) _ whole.value whole.is in
    let second = bound (text_at (λ text. true) 32 (length bytes) first.value.1) _ whole.value first.goes in
    let third = bound (byte_at (λ b. nat_lt b most_sites) (length bytes) second.value.1) _ whole.value second.goes in
    let left : third.value.1 ≡ whole.value.1 = left_of _ third.value.1 whole.value third.goes in
    omega (
      arith,
      byte_size (is_within 1 1) (length bytes) bytes first.value first.is,
      text_size (λ text. true) 32 (length bytes) first.value.1 second.value second.is,
      byte_size (λ b. nat_lt b most_sites) (length bytes) second.value.1 third.value third.is,
      ap length left,
      whole_size (length bytes) whole.value head whole.goes,
    )

-- ---- batches

length_four : (size : ℕ) → length (length_bytes size) ≡ 4
unfolding length_bytes
length_four size = refl

size_more : (payload : List ℕ) (payloads : List (List ℕ)) → length (frames (payload ∷ payloads)) ≡ length payload + 5 + length (frames payloads)
size_more payload payloads =
    omega (arith, length-append (1 ∷ length_bytes (length payload) ++ payload) (frames payloads), length-append (1 ∷ length_bytes (length payload)) payload, length_four (length payload))

-- a batch is not empty
batch_size : ReadIsBatch → (plan : PlanData) (site : ℕ) (payload : List ℕ) (batch : List Entry) → IsBatchPayload plan site payload batch → frame_size batch ≡ length payload + 5
batch_size law plan site payload [] is =
    let byte : 0 < 256 = omega arith in
    let bytes : All (λ b. b < 256) payload = subst (λ l. All (λ b. b < 256) l) (sym is.spelled) (All-cons (λ b. b < 256) 0 [] byte (All-nil (λ b. b < 256))) in
    absurd (let some : 1 ≤ 0 = (law (count_of plan) payload [] bytes is.read).0.some in omega arith)
batch_size law plan site payload (e ∷ es) is = omega (arith, ap length is.spelled)

batches_size : ReadIsBatch → (plan : PlanData) (site : ℕ) (payloads : List (List ℕ)) (batches : List (List Entry)) → AreBatches plan site payloads batches
    → length (frames payloads) ≡ sum_by frame_size batches
batches_size law plan site [] [] are = refl
batches_size law plan site [] (b ∷ batches) are = absurd are
batches_size law plan site (p ∷ payloads) [] are = absurd are
batches_size law plan site (p ∷ payloads) (b ∷ batches) are =
    omega (arith, size_more p payloads, batch_size law plan site p b are.0, batches_size law plan site payloads batches are.1, sum_by-cons frame_size b batches)

journal_ends : ReadIsBatch → (plan : PlanData) (site : ℕ) (payloads : List (List ℕ)) (batches : List (List Entry)) → 1 ≤ length payloads → IsJournal plan site payloads batches
    → length (frames payloads) ≡ journal_size batches
journal_ends law plan site [] batches some is = absurd (omega arith)
journal_ends law plan site (head ∷ payloads) batches some is =
    omega (arith, size_more head payloads, head_size head (head_for plan site) is.0, batches_size law plan site payloads batches is.1)

pub stands_at_its_end : OneGate → ReadIsBatch → (host : HostState) (batches : List (List Entry)) (disk : DiskState) → IsHostOn host batches disk → host.gate ≡ journal_size batches
stands_at_its_end gate law host batches disk on =
    gate disk.bytes host.gate on.payloads on.ends ∙ journal_ends law host.core.plan host.core.site on.payloads batches on.headed on.journal

-- How a run comes to its end by what its command goes by, and what each end shows.
use Rattle.std.proofs.Common.{◌≡◌, ℕ, ◌+◌, ◌<◌, ◌≤◌, ◌⊎◌, inl, inr, Bool, true, false, ◌&&◌, nat_lt, List, [], ◌++◌, Option, Some, None, IfSome, length, Result, Ok, Err, if◌then◌else◌, refl, sym, ◌∙◌, ap, subst, arith, append-nil}
use Rattle.std.specs.Prelude.{IfOk}
use Rattle.std.specs.declared.alloc.AllocError.{AllocError}
use Rattle.std.proofs.lemmas.Bool.{false_from_ne_true, lt-ltb, ltb-true}
use Rattle.outside_io.specs.Causes.{Rose}
use Rattle.outside_io.specs.Seen.{SourceSeen}
use Rattle.outside_io.specs.Whole.{IsOverLimit, IsWholeInput, TakesAtMost}
use Rattle.helios_top.specs.declared.words.Command.{Command}
use Rattle.helios_top.specs.declared.words.Command.TheVariants.{Audit, Check, Dump, History, Plan, Replay, Trial, Weigh}
use Rattle.helios_top.specs.declared.ending.Refusal.{Refusal}
use Rattle.helios_top.specs.declared.journal.JournalRefusal.{JournalRefusal}
use Rattle.helios_top.specs.declared.ending.Refusal.TheVariants.{TooLarge}
use Rattle.helios_top.specs.declared.ending.Ending.{Ending}
use Rattle.helios_top.specs.declared.ending.Ending.TheVariants.{Usage, ReadFault, NoMemory, Refused, DiskFault, JournalRefused, Printed, Judged, Audited}
use Rattle.helios_top.specs.Answers.{EndsOver, IsAnswer}
use Rattle.helios_top.specs.Ending.{IsDone, IsOwn, RefusedOr, end_of}
use Rattle.helios_top.specs.Inputs.{GoesBy, IsAnsweredInput, IsRefusedInput, ReadWhole, ReadsInput}
use Rattle.helios_top.specs.Outside.{most_input_bytes}
use Rattle.helios_top.specs.Refusals.{form_refusal_of, reads_input, refusal_of}

-- nothing of an input that stays as it was is taken
pub takes_nothing : (most : ℕ) (left : Option (List ℕ)) → TakesAtMost most left left
takes_nothing most None = ([], tt, omega arith)
takes_nothing most (Some bytes) = ([], refl, omega arith)

-- bytes within the limit are refused for their form alone, and others for their length
within : (command : Command) (bytes : List ℕ) → reads_input command ≡ true → length bytes ≤ most_input_bytes → refusal_of command bytes ≡ form_refusal_of command bytes
within command bytes reads fits =
    let small : nat_lt most_input_bytes (length bytes) ≡ false = false_from_ne_true _ (λ e. let more : most_input_bytes < length bytes = ltb-true most_input_bytes (length bytes) e in omega arith) in
    ap (λ (r : Bool). if r && nat_lt most_input_bytes (length bytes) then Some TooLarge else form_refusal_of command bytes) reads
    ∙ ap (λ (large : Bool). if large then Some TooLarge else form_refusal_of command bytes) small

beyond : (command : Command) (bytes : List ℕ) → reads_input command ≡ true → most_input_bytes < length bytes → refusal_of command bytes ≡ Some TooLarge
beyond command bytes reads more =
    ap (λ (r : Bool). if r && nat_lt most_input_bytes (length bytes) then Some TooLarge else form_refusal_of command bytes) reads
    ∙ ap (λ (large : Bool). if large then Some TooLarge else form_refusal_of command bytes) (lt-ltb most_input_bytes (length bytes) more)

-- a command that reads no input is refused whatever the input is
unread : (command : Command) (bytes : List ℕ) → reads_input command ≡ false → refusal_of command bytes ≡ form_refusal_of command []
unread Replay bytes idle = absurd (cc)
unread History bytes idle = absurd (cc)
unread (Trial number) bytes idle = refl
unread Check bytes idle = absurd (cc)
unread Plan bytes idle = absurd (cc)
unread Audit bytes idle = absurd (cc)
unread Weigh bytes idle = absurd (cc)
unread (Dump site) bytes idle = absurd (cc)

own_reads : (command : Command) (old new : SourceSeen) (ending : Ending) (Answers : List ℕ → Type 0) → IsOwn ending → IsAnsweredInput command old new Answers
    → ReadsInput command old new ending Answers
own_reads command old new Usage Answers own h = absurd own
own_reads command old new ReadFault Answers own h = absurd own
own_reads command old new NoMemory Answers own h = absurd own
own_reads command old new (Refused refusal) Answers own h = absurd own
own_reads command old new DiskFault Answers own h = h
own_reads command old new (JournalRefused refusal) Answers own h = h
own_reads command old new (Printed text) Answers own h = h
own_reads command old new (Judged verdict) Answers own h = h
own_reads command old new (Audited verdict) Answers own h = h

-- what is answered to bytes that the command goes by
answers_by : (command : Command) (old new : SourceSeen) (bytes : List ℕ) (ending : Ending) (Answers : List ℕ → Type 0) (found : Option Refusal) → form_refusal_of command bytes ≡ found
    → ((Holds : List ℕ → Type 0) → Holds bytes → GoesBy command old new Holds) → RefusedOr found ending (Answers bytes) → ReadsInput command old new ending Answers
answers_by command old new bytes ending Answers None e goes h = own_reads command old new ending Answers h.0 (goes (λ b. (form_refusal_of command b ≡ None) × Answers b) (e, h.1))
answers_by command old new bytes ending Answers (Some refusal) e goes h =
    subst (λ (end : Ending). ReadsInput command old new end Answers) (sym h) (inr (goes (λ b. form_refusal_of command b ≡ Some refusal) e))

-- what is answered to bytes that were read whole
pub answers_input : (command : Command) (old new : SourceSeen) (bytes : List ℕ) (ending : Ending) → reads_input command ≡ true → IsWholeInput old.left new.left bytes
    → length bytes ≤ most_input_bytes → EndsOver command bytes ending → ReadsInput command old new ending (IsAnswer command ending)
answers_input command old new bytes ending reads whole fits h =
    answers_by command old new bytes ending (IsAnswer command ending) (form_refusal_of command bytes) refl
    (λ Holds held. inl (reads, record { bytes = bytes; is_whole = whole; fits = fits; holds = held })) h

-- the end that an answer to the bytes of a whole input is, or want of memory in place of it
pub answered_input : (command : Command) (old new : SourceSeen) (bytes given : List ℕ) (size : ℕ) (answer : Result Ending AllocError) (ending : Ending)
    → reads_input command ≡ true → IsWholeInput old.left new.left bytes → size ≤ most_input_bytes → given ≡ bytes → length given ≡ size
    → IfOk answer (EndsOver command given) → TakesAtMost (most_input_bytes + 1) old.left new.left → ending ≡ end_of answer
    → ReadsInput command old new ending (IsAnswer command ending)
answered_input command old new bytes given size (Ok end) ending reads whole fits same len h most e =
    let all : IsWholeInput old.left new.left given = subst (λ (b : List ℕ). IsWholeInput old.left new.left b) (sym same) whole in
    let few : length given ≤ most_input_bytes = omega arith in
    subst (λ (x : Ending). ReadsInput command old new x (IsAnswer command x)) (sym e) (answers_input command old new given end reads all few h)
answered_input command old new bytes given size (Err none) ending reads whole fits same len h most e =
    subst (λ (x : Ending). ReadsInput command old new x (IsAnswer command x)) (sym e) most

-- what is answered where nothing is read
pub answers_unread : (command : Command) (old new : SourceSeen) (ending : Ending) → reads_input command ≡ false → EndsOver command [] ending
    → ReadsInput command old new ending (IsAnswer command ending)
answers_unread command old new ending idle h =
    answers_by command old new [] ending (IsAnswer command ending) (form_refusal_of command []) refl (λ Holds held. inr (idle, held)) h

-- ---- over an input that is told

-- bytes that were told and read whole are those that were told
whole_is_told : (bytes read : List ℕ) (left : Option (List ℕ)) → IsWholeInput (Some bytes) left read → read ≡ bytes
whole_is_told bytes read None h = absurd h.taken
whole_is_told bytes read (Some rest) h = sym (h.taken ∙ ap (λ l. read ++ l) h.ended ∙ append-nil read)

-- what holds of a whole input that was told holds of its bytes, which are within the limit
holds_told : (old new : SourceSeen) (bytes : List ℕ) (Holds : List ℕ → Type 0) → old.left ≡ Some bytes → ReadWhole old new Holds → (length bytes ≤ most_input_bytes) × Holds bytes
holds_told old new bytes Holds told h =
    subst (λ b. (length b ≤ most_input_bytes) × Holds b) (whole_is_told bytes h.bytes new.left (subst (λ (l : Option (List ℕ)). IsWholeInput l new.left h.bytes) told h.is_whole)) (h.fits, h.holds)

pub if_told : (left : Option (List ℕ)) (P : List ℕ → Type 0) → ((bytes : List ℕ) → left ≡ Some bytes → P bytes) → IfSome left P
if_told None P told = tt
if_told (Some bytes) P told = told bytes refl

-- what the command says of the form of what it goes by, it says of an input that is told
goes_told : (command : Command) (old new : SourceSeen) (bytes : List ℕ) (found : Option Refusal) → old.left ≡ Some bytes
    → GoesBy command old new (λ b. form_refusal_of command b ≡ found) → refusal_of command bytes ≡ found
goes_told command old new bytes found told (inl read) =
    let held = holds_told old new bytes (λ b. form_refusal_of command b ≡ found) told read.1 in within command bytes read.0 held.0 ∙ held.1
goes_told command old new bytes found told (inr none) = unread command bytes none.0 ∙ none.1

-- an input that is refused has the refusal as its own
refused_told : (command : Command) (old new : SourceSeen) (refusal : Refusal) (bytes : List ℕ) → old.left ≡ Some bytes → IsRefusedInput command old new refusal → refusal_of command bytes ≡ Some refusal
refused_told command old new refusal bytes told (inl large) =
    let more : most_input_bytes < length bytes = subst (IsOverLimit most_input_bytes) told large.2 in
    beyond command bytes large.1 more ∙ ap Some (sym large.0)
refused_told command old new refusal bytes told (inr goes) = goes_told command old new bytes (Some refusal) told goes

-- what a command goes by is accepted where it is answered
accepted : (command : Command) (old new : SourceSeen) (Answers : List ℕ → Type 0) → IsAnsweredInput command old new Answers → GoesBy command old new (λ b. form_refusal_of command b ≡ None)
accepted command old new Answers (inl read) = inl (read.0, record { bytes = read.1.bytes; is_whole = read.1.is_whole; fits = read.1.fits; holds = read.1.holds.0 })
accepted command old new Answers (inr none) = inr (none.0, none.1.0)

accepted_told : (command : Command) (old new : SourceSeen) (Answers : List ℕ → Type 0) (bytes : List ℕ) → old.left ≡ Some bytes → IsAnsweredInput command old new Answers
    → refusal_of command bytes ≡ None
accepted_told command old new Answers bytes told h = goes_told command old new bytes None told (accepted command old new Answers h)

-- a refusal that the input has is the end, unless a fault is
pub refused_or_fault : (command : Command) (old new : SourceSeen) (ending : Ending) (Answers : List ℕ → Type 0) (bytes : List ℕ) (refusal : Refusal) → old.left ≡ Some bytes
    → ReadsInput command old new ending Answers → refusal_of command bytes ≡ Some refusal → (ending ≡ Refused refusal) ⊎ (ending ≡ ReadFault) ⊎ (ending ≡ NoMemory)
refused_or_fault command old new Usage Answers bytes refusal told h e = absurd h
refused_or_fault command old new ReadFault Answers bytes refusal told h e = inr (inl refl)
refused_or_fault command old new NoMemory Answers bytes refusal told h e = inr (inr refl)
refused_or_fault command old new (Refused given) Answers bytes refusal told h e =
    let own = refused_told command old new given bytes told h in let same : given ≡ refusal = cc in inl (ap Refused same)
refused_or_fault command old new DiskFault Answers bytes refusal told h e = let own = accepted_told command old new Answers bytes told h in cc
refused_or_fault command old new (JournalRefused given) Answers bytes refusal told h e = let own = accepted_told command old new Answers bytes told h in cc
refused_or_fault command old new (Printed text) Answers bytes refusal told h e = let own = accepted_told command old new Answers bytes told h in cc
refused_or_fault command old new (Judged verdict) Answers bytes refusal told h e = let own = accepted_told command old new Answers bytes told h in cc
refused_or_fault command old new (Audited verdict) Answers bytes refusal told h e = let own = accepted_told command old new Answers bytes told h in cc

-- an input that is accepted is answered, unless a read or a call on the disk failed, or there was no memory, or the journal was refused
pub done_or_no_memory : (command : Command) (old new : SourceSeen) (ending : Ending) (Answers : List ℕ → Type 0) (bytes : List ℕ) → old.left ≡ Some bytes
    → ReadsInput command old new ending Answers → refusal_of command bytes ≡ None → ¬ Rose old.faults new.faults → (ending ≡ DiskFault → ⊥)
    → IsDone ending ⊎ (ending ≡ NoMemory) ⊎ ((refusal : JournalRefusal) × (ending ≡ JournalRefused refusal))
done_or_no_memory command old new Usage Answers bytes told h e still sound = absurd h
done_or_no_memory command old new ReadFault Answers bytes told h e still sound = absurd (still h.1)
done_or_no_memory command old new NoMemory Answers bytes told h e still sound = inr (inl refl)
done_or_no_memory command old new (Refused given) Answers bytes told h e still sound = let own = refused_told command old new given bytes told h in cc
done_or_no_memory command old new DiskFault Answers bytes told h e still sound = absurd (sound refl)
done_or_no_memory command old new (JournalRefused refusal) Answers bytes told h e still sound = inr (inr (refusal, refl))
done_or_no_memory command old new (Printed text) Answers bytes told h e still sound = inl tt
done_or_no_memory command old new (Judged verdict) Answers bytes told h e still sound = inl tt
done_or_no_memory command old new (Audited verdict) Answers bytes told h e still sound = inl tt

pub refused_is_own : (command : Command) (old new : SourceSeen) (refusal : Refusal) → IsRefusedInput command old new refusal → IfSome old.left (λ bytes. refusal_of command bytes ≡ Some refusal)
refused_is_own command old new refusal h = if_told old.left _ (λ bytes told. refused_told command old new refusal bytes told h)

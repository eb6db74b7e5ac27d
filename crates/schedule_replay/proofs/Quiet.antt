-- Disks of which no call is to fail, and what a crash leaves.
use Rattle.std.proofs.Common.{◌≡◌, ◌≢◌, ℕ, ◌+◌, ◌≤◌, ◌==◌, if◌then◌else◌, Bool, true, false, List, [], ◌∷◌, length, max, Option, Some, None, option_map, IfSome, refl, sym, ◌∙◌, ap, subst, arith}
use Rattle.std.proofs.lemmas.Bool.Decides.{nat_tests}
use Rattle.helios_model.specs.declared.entries.Entry.{Entry}
use Rattle.helios_model.specs.Plans.{PlanData}
use Rattle.disk_store.specs.Crash.{kept}
use Rattle.disk_store.specs.Disk.{at_rest}
use Rattle.disk_store.specs.Memory.{MemState, keep_of, outlook_of}
use Rattle.disk_store.specs.Outlook.{Failing, Outlook, never, at_call, already}
use Rattle.disk_store.specs.declared.fate.Keep.{Keep}
use Rattle.disk_store.specs.declared.fate.Script.{Script}
use Rattle.node_host.specs.Journals.{HoldsBatches}
use Rattle.node_host.specs.States.{HostState}
use Rattle.schedule_replay.specs.Seats.{IsHolding, IsQuiet, IsSeated}

-- what a disk in memory tells of its calls
abbrev pub told : MemState → Option Outlook
told m = outlook_of m.fate.fails m.room m.fate.script

-- no call is to fail
abbrev pub calm : ℕ → Outlook
calm room = record { room = room; failing = never }

quiet_told : (m : MemState) → IsQuiet m → told m ≡ Some (calm m.room)
quiet_told m quiet = ap (λ (fails : List ℕ). outlook_of fails m.room m.fate.script) quiet.unlisted ∙ ap (λ (script : Option Script). outlook_of [] m.room script) quiet.unscripted

-- a clause on what is told, for a quiet disk
pub of_quiet : (P : Outlook → Type 0) (m : MemState) → IsQuiet m → IfSome (told m) P → P (calm m.room)
of_quiet P m quiet holds = subst (λ (o : Option Outlook). IfSome o P) (quiet_told m quiet) holds

spent_fails : (spent : Bool) (left : ℕ) → (if spent then already else at_call left) ≢ never
spent_fails true left = λ is. cc
spent_fails false left = λ is. cc

unscripted_when : (room most : ℕ) (script : Option Script) → outlook_of [] room script ≡ Some (calm most) → script ≡ None
unscripted_when room most None is = refl
unscripted_when room most (Some script) is =
    let failing : Failing = if script.left == 0 then already else at_call script.left in
    let tells : Outlook = record { room = room; failing = failing } in
    let whole : Some tells ≡ Some (calm most) = is in
    let same : tells ≡ calm most = cc in
    absurd (spent_fails (script.left == 0) script.left (ap (λ (o : Outlook). o.failing) same))

-- a disk that tells its calls has no list of failing ones
pub unlisted_when : (fails : List ℕ) (room most : ℕ) (script : Option Script) → option_map (λ (o : Outlook). o.room) (outlook_of fails room script) ≡ Some most → fails ≡ []
unlisted_when [] room most script is = refl
unlisted_when (number ∷ fails) room most script is = absurd (let clash : None ≡ Some most = is in cc)

quiet_when : (m : MemState) (most : ℕ) → told m ≡ Some (calm most) → IsQuiet m
quiet_when m most is =
    let unlisted : m.fate.fails ≡ [] = unlisted_when m.fate.fails m.room most m.fate.script (ap (option_map (λ (o : Outlook). o.room)) is) in
    record {
      unscripted = unscripted_when m.room most m.fate.script (sym (ap (λ (fails : List ℕ). outlook_of fails m.room m.fate.script) unlisted) ∙ is);
      unlisted = unlisted;
    }

-- a call leaves a quiet disk quiet
pub stays_quiet : (old new : MemState) → IsQuiet old → IfSome (told old) (λ o. o.failing ≡ never → told new ≡ Some o) → IsQuiet new
stays_quiet old new quiet same = quiet_when new old.room (of_quiet (λ o. o.failing ≡ never → told new ≡ Some o) old quiet same refl)

-- the list of failing calls stays empty
pub stays_unlisted : (old new : MemState) → old.fate.fails ≡ [] → option_map (λ (o : Outlook). o.room) (told new) ≡ option_map (λ (o : Outlook). o.room) (told old) → new.fate.fails ≡ []
stays_unlisted old new none same = unlisted_when new.fate.fails new.room old.room new.fate.script
    (same ∙ ap (λ (fails : List ℕ). option_map (λ (o : Outlook). o.room) (outlook_of fails old.room old.fate.script)) none)

-- a disk with more room
abbrev pub roomier : ℕ → MemState → MemState
roomier more m = record m { room = max m.room (length m.disk.bytes + more) }

pub roomier_holds : (plan : PlanData) (site : ℕ) (batches : List (List Entry)) (more : ℕ) (old new : MemState) → new ≡ roomier more old → IsHolding plan site batches old → IsHolding plan site batches new
roomier_holds plan site batches more old new is holds =
    subst (IsHolding plan site batches) (sym is) (record { holds = holds.holds; at_rest = holds.at_rest; quiet = record { unscripted = holds.quiet.unscripted; unlisted = holds.quiet.unlisted } })

-- a disk after a crash
abbrev pub crashed : MemState → MemState
crashed m = record m { disk = at_rest (kept (keep_of m.fate.script) m.disk); fate = record m.fate { script = None } }

-- what a crash leaves holds these batches
pub crashed_holds : (plan : PlanData) (site : ℕ) (batches : List (List Entry)) (old new : MemState) → new ≡ crashed old → old.fate.fails ≡ [] → HoldsBatches plan site batches new.disk.bytes → IsHolding plan site batches new
crashed_holds plan site batches old new is none holds =
    subst (IsHolding plan site batches) (sym is) (record {
      holds = subst (λ (m : MemState). HoldsBatches plan site batches m.disk.bytes) is holds;
      at_rest = refl;
      quiet = record { unscripted = refl; unlisted = none };
    })

-- the same by a copy of the plan
pub roomier_given : (plan given : PlanData) (site : ℕ) (batches : List (List Entry)) (more : ℕ) (old new : MemState) → given ≡ plan → new ≡ roomier more old → IsHolding plan site batches old → IsHolding given site batches new
roomier_given plan given site batches more old new same is holds =
    subst (λ (p : PlanData). IsHolding p site batches new) (sym same) (roomier_holds plan site batches more old new is holds)

-- more room under a host
pub roomier_seated : (plan : PlanData) (site : ℕ) (batches : List (List Entry)) (host : HostState) (more : ℕ) (old new : MemState) → new ≡ roomier more old → IsSeated plan site batches host old → IsSeated plan site batches host new
roomier_seated plan site batches host more old new is seated =
    subst (IsSeated plan site batches host) (sym is) (record {
      of_plan = seated.of_plan;
      at_site = seated.at_site;
      limited = seated.limited;
      on = seated.on;
      quiet = record { unscripted = seated.quiet.unscripted; unlisted = seated.quiet.unlisted };
    })

-- a disk with a script
abbrev pub scripted : ℕ → Keep → MemState → MemState
scripted call keep m = record m { fate = record m.fate { script = Some (record { left = call; keep = keep }) } }

abbrev pub stopping : ℕ → ℕ → Outlook
stopping room call = record { room = room; failing = at_call call }

-- what is told of the calls of a quiet disk that was given a script
pub scripted_told : (call : ℕ) (keep : Keep) (old new : MemState) → IsQuiet old → 1 ≤ call → new ≡ scripted call keep old → told new ≡ Some (stopping old.room call)
scripted_told call keep old new quiet some is =
    let later : (call == 0) ≡ false = grind (arith, nat_tests) in
    let script : Script = record { left = call; keep = keep } in
    ap told is ∙ ap (λ (fails : List ℕ). outlook_of fails old.room (Some script)) quiet.unlisted
    ∙ ap (λ (spent : Bool). Some (record { room = old.room; failing = if spent then already else at_call call })) later

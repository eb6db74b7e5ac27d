-- What the bench is after each end of a run.
use Rattle.std.specs.Prelude.{◌≡◌, ◌⊎◌, ℕ, List, Option, Some, None, IsOkAnd}
use Rattle.disk_store.specs.Memory.{MemState}
use Rattle.outside_io.specs.Seen.{SourceSeen}
use Rattle.schedule_text.specs.Reading.{schedule_of_text}
use Rattle.helios_top.specs.declared.replay.Told.{Told}
use Rattle.helios_top.specs.declared.replay.Told.TheVariants as told
use Rattle.helios_top.specs.declared.words.Command.{Command}
use Rattle.helios_top.specs.declared.words.Command.TheVariants.{Audit, Check, Dump, History, Plan, Replay, Trial, Weigh}
use Rattle.helios_top.specs.declared.ending.Ending.{Ending}
use Rattle.helios_top.specs.Replays.{IsBeforeReplay, IsLeftBy, ReplayLeaves}
use Rattle.helios_top.specs.Runs.Trial.{TrialLeaves}

-- the bench after an end that this command comes to over this input: only a replay changes it
abbrev pub Leaves : Command → SourceSeen → SourceSeen → List MemState → List MemState → Ending → Type 0
Leaves Replay old new held left ending = ReplayLeaves told.Report old new held left ending
Leaves History old new held left ending = ReplayLeaves told.History old new held left ending
Leaves (Trial number) old new held left ending = TrialLeaves number held left ending
Leaves Check old new held left ending = left ≡ held
Leaves Plan old new held left ending = left ≡ held
Leaves Audit old new held left ending = left ≡ held
Leaves Weigh old new held left ending = left ≡ held
Leaves (Dump site) old new held left ending = left ≡ held

-- the bench after the end of a run: words that name no command leave it as before
abbrev pub BenchAfter : Option Command → SourceSeen → SourceSeen → List MemState → List MemState → Ending → Type 0
BenchAfter None old new held left ending = left ≡ held
BenchAfter (Some command) old new held left ending = Leaves command old new held left ending

-- the same over a text that was read whole
abbrev pub ReplayLeavesOver : Told → List ℕ → List MemState → List MemState → Ending → Type 0
ReplayLeavesOver what bytes held left ending = (IsBeforeReplay ending × (left ≡ held)) ⊎ IsOkAnd (schedule_of_text bytes) (λ schedule. IsLeftBy what schedule left ending)

abbrev pub LeavesOver : Command → List ℕ → List MemState → List MemState → Ending → Type 0
LeavesOver Replay bytes held left ending = ReplayLeavesOver told.Report bytes held left ending
LeavesOver History bytes held left ending = ReplayLeavesOver told.History bytes held left ending
LeavesOver (Trial number) bytes held left ending = TrialLeaves number held left ending
LeavesOver Check bytes held left ending = left ≡ held
LeavesOver Plan bytes held left ending = left ≡ held
LeavesOver Audit bytes held left ending = left ≡ held
LeavesOver Weigh bytes held left ending = left ≡ held
LeavesOver (Dump site) bytes held left ending = left ≡ held

-- What each command answers to what it goes by, and the end of a run before anything is written.
use Rattle.std.specs.Prelude.{◌≡◌, ℕ, List, Option, Some, None}
use Rattle.outside_io.specs.Seen.{SourceSeen}
use Rattle.helios_top.specs.declared.replay.Told.TheVariants as told
use Rattle.helios_top.specs.declared.words.Command.{Command}
use Rattle.helios_top.specs.declared.words.Command.TheVariants.{Audit, Check, Dump, History, Plan, Replay, Trial, Weigh}
use Rattle.helios_top.specs.declared.ending.Ending.{Ending}
use Rattle.helios_top.specs.declared.ending.Ending.TheVariants.{Usage}
use Rattle.helios_top.specs.Ending.{RefusedOr}
use Rattle.helios_top.specs.Inputs.{ReadsInput}
use Rattle.helios_top.specs.Refusals.{form_refusal_of}
use Rattle.helios_top.specs.Replays.{IsScheduleAnswer}
use Rattle.helios_top.specs.Runs.Audit.{IsAuditAnswer}
use Rattle.helios_top.specs.Runs.Check.{IsCheckAnswer}
use Rattle.helios_top.specs.Runs.Dump.{IsDumpAnswer}
use Rattle.helios_top.specs.Runs.Plan.{IsPlanAnswer}
use Rattle.helios_top.specs.Runs.Trial.{IsTrialAnswer}
use Rattle.helios_top.specs.Runs.Weigh.{IsWeighAnswer}

-- what the command answers to bytes that it accepts
abbrev pub IsAnswer : Command → Ending → List ℕ → Type 0
IsAnswer Replay ending bytes = IsScheduleAnswer told.Report ending bytes
IsAnswer History ending bytes = IsScheduleAnswer told.History ending bytes
IsAnswer (Trial number) ending bytes = IsTrialAnswer number ending
IsAnswer Check ending bytes = IsCheckAnswer ending bytes
IsAnswer Plan ending bytes = IsPlanAnswer ending bytes
IsAnswer Audit ending bytes = IsAuditAnswer ending bytes
IsAnswer Weigh ending bytes = IsWeighAnswer ending bytes
IsAnswer (Dump site) ending bytes = IsDumpAnswer site ending bytes

-- the end over what the command goes by
abbrev pub EndsOver : Command → List ℕ → Ending → Type 0
EndsOver command bytes ending = RefusedOr (form_refusal_of command bytes) ending (IsAnswer command ending bytes)

-- the end of a run before anything is written
abbrev pub EndsBy : Option Command → SourceSeen → SourceSeen → Ending → Type 0
EndsBy None old new ending = ending ≡ Usage
EndsBy (Some command) old new ending = ReadsInput command old new ending (IsAnswer command ending)

-- `helios trial NUMBER`: the number gives a schedule of 4,000 steps at four sites, and what is printed is what its replay comes to. No input is read.
use Rattle.std.specs.Prelude.{◌≡◌, ◌⊎◌, ℕ, List}
use Rattle.disk_store.specs.Memory.{MemState}
use Rattle.helios_top.specs.declared.replay.Told.TheVariants as told
use Rattle.helios_top.specs.declared.ending.Ending.{Ending}
use Rattle.helios_top.specs.declared.ending.Ending.TheVariants.{NoMemory}
use Rattle.helios_top.specs.Ending.{RefusedOr}
use Rattle.helios_top.specs.Outside.{Outside}
use Rattle.helios_top.specs.Refusals.{replay_refusal}
use Rattle.helios_top.specs.Replays.{IsLeftBy, IsReplayed}
use Rattle.helios_top.specs.Trials.{trial_schedule}

-- what is answered to a number, whose schedule is not refused
abbrev pub IsTrialAnswer : ℕ → Ending → Type 0
IsTrialAnswer number ending = IsReplayed (told.Summary number) (trial_schedule number) ending

-- the replay refused the schedule, or its summary is printed; or there was no memory
abbrev pub TrialEnds : ℕ → Ending → Type 0
TrialEnds number ending = RefusedOr (replay_refusal (trial_schedule number)) ending (IsTrialAnswer number ending) ⊎ (ending ≡ NoMemory)

-- there was no memory for the schedule, and the bench is as before; or it is what the replay of the schedule left
abbrev pub TrialLeaves : ℕ → List MemState → List MemState → Ending → Type 0
TrialLeaves number held left ending = ((ending ≡ NoMemory) × (left ≡ held)) ⊎ IsLeftBy (told.Summary number) (trial_schedule number) left ending

-- what a run of `trial` does, whatever end it comes to
pub record TrialRun (number : ℕ) (before after : Outside) (ending : Ending) : Type 0 where
  pub unread : after.input ≡ before.input
  pub ends : TrialEnds number ending
  pub bench : TrialLeaves number before.bench after.bench ending
  pub disk : after.disk ≡ before.disk

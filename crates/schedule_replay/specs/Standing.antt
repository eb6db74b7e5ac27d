-- What the parts of a walk stand for while a step is taken: its site's host and disk, and what was told.
use Rattle.std.specs.Prelude.{◌≡◌, ◌⊎◌, ℕ, ◌+◌, ◌-◌, ◌^◌, ◌<◌, ◌≤◌, true, List, [], ◌++◌, Option, Some, None, min, slice_index_or, if◌then◌else◌}
use Rattle.helios_model.specs.declared.entries.Entry.{Entry}
use Rattle.helios_model.specs.Plans.{PlanData, IsAccepted, count_of}
use Rattle.helios_model.specs.World.{StepsReach, journal_of}
use Rattle.disk_store.specs.Memory.{MemState}
use Rattle.disk_store.specs.declared.fate.Stop.{Stop}
use Rattle.node_host.specs.States.{HostState}
use Rattle.schedule_text.specs.declared.planned.Planned.{Planned}
use Rattle.schedule_text.specs.declared.steps.Step.{Step}
use Rattle.schedule_text.specs.declared.steps.Step.TheVariants.{Batch}
use Rattle.schedule_text.specs.Steps.{IsStep}
use Rattle.schedule_replay.specs.declared.output.Output.{Output}
use Rattle.schedule_replay.specs.declared.taken.Taken.{Taken}
use Rattle.schedule_replay.specs.Entries.{entries_at}
use Rattle.schedule_replay.specs.Progress.{Progress, most_volume, pass, progress, site_of, step_frame, volume}
use Rattle.schedule_replay.specs.Refusals.{refusal_of}
use Rattle.schedule_replay.specs.Report.{refusals_in}
use Rattle.schedule_replay.specs.Seats.{IsHolding, IsSeated, with_batch}
use Rattle.schedule_replay.specs.Walks.{IsSeat}

-- a disk that holds these batches of a site, under their host where there is one; without one there are none
abbrev pub IsHeld : PlanData → ℕ → List (List Entry) → Option HostState → MemState → Type 0
IsHeld plan site batches None m = (batches ≡ []) × IsHolding plan site [] m
IsHeld plan site batches (Some host) m = IsSeated plan site batches host m

abbrev pub IsSomeHeld : PlanData → ℕ → Option HostState → MemState → Type 0
IsSomeHeld plan site held m = (batches : List (List Entry)) × IsHeld plan site batches held m

-- what was told is what these steps tell, and so many bytes were written
pub record Tells (p : Progress) (written : ℕ) (output : Output) : Type 0 where
  pub lines : output.text.items ≡ p.lines
  pub sent : output.sent.items ≡ p.world.sent
  pub commits : output.commits.items ≡ p.world.history
  pub refusals : output.refusals ≡ refusals_in p.world.told
  pub volume : output.volume ≡ min written (2 ^ 64 - 1)

-- the step with this number may be taken behind these steps
pub record IsNext (plan : PlanData) (steps : List Step) (number : ℕ) (s : Step) : Type 0 where
  pub accepted : IsAccepted plan
  pub planned : IsStep plan s
  pub reaches : StepsReach plan (progress plan steps).world
  pub unrefused : refusal_of (progress plan steps) s ≡ None
  pub counted : number ≡ (progress plan steps).number

-- how many bytes the head of a site's journal adds, where no step named the site before
abbrev pub head_size : Progress → ℕ → ℕ
head_size p site = if slice_index_or p.opened site true then 0 else 39

-- the site of the next step, and what was told before it
pub record IsPart (plan : PlanData) (steps : List Step) (number : ℕ) (s : Step) (held : Option HostState) (m : MemState) (output : Output) : Type 0 where
  pub next : IsNext plan steps number s
  pub seat : IsSeat plan (progress plan steps) (site_of s) held m
  pub tells : Tells (progress plan steps) (volume (progress plan steps)) output

-- the same with the head of the site's journal counted
pub record IsBegun (plan : PlanData) (steps : List Step) (number : ℕ) (s : Step) (held : Option HostState) (m : MemState) (output : Output) : Type 0 where
  pub next : IsNext plan steps number s
  pub seat : IsSeat plan (progress plan steps) (site_of s) held m
  pub tells : Tells (progress plan steps) (volume (progress plan steps) + head_size (progress plan steps) (site_of s)) output

-- the host of the batch's site, its entries, and what was told, with its frame counted
pub record IsBatchAt (plan : PlanData) (steps : List Step) (number site : ℕ) (inputs : List Planned) (stop : Option Stop) (host : HostState) (entries : List Entry) (m : MemState) (output : Output) : Type 0 where
  pub next : IsNext plan steps number (Batch site inputs stop)
  pub seated : IsSeated plan site (journal_of (progress plan steps).world site) host m
  pub low : host.gate ≤ most_volume
  pub asked : entries ≡ entries_at plan (progress plan steps).world site inputs
  pub tells : Tells (progress plan steps)
      (volume (progress plan steps) + head_size (progress plan steps) site + step_frame plan (progress plan steps).world (Batch site inputs stop)) output

-- a batch of some inputs behind some steps
pub record IsSomeBatch (plan : PlanData) (number site : ℕ) (stop : Option Stop) (host : HostState) (entries : List Entry) (m : MemState) (output : Output) : Type 0 where
  pub steps : List Step
  pub inputs : List Planned
  pub is : IsBatchAt plan steps number site inputs stop host entries m output

-- a step behind this progress was taken at its site: the host stands for the journal, all but the commits was told, and those that are new
-- are what the step adds to the history
pub record IsPlaced (plan : PlanData) (p : Progress) (s : Step) (taken : Taken) (m : MemState) (output : Output) : Type 0 where
  pub seated : IsSeated plan (site_of s) (journal_of (pass plan p s).world (site_of s)) taken.host m
  pub lines : output.text.items ≡ (pass plan p s).lines
  pub sent : output.sent.items ≡ (pass plan p s).world.sent
  pub commits : output.commits.items ≡ p.world.history
  pub added : (pass plan p s).world.history ≡ p.world.history ++ (if taken.are_new then taken.commits else [])
  pub refusals : output.refusals ≡ refusals_in (pass plan p s).world.told
  pub volume : output.volume ≡ min (volume (pass plan p s)) (2 ^ 64 - 1)

-- the disk of a step's site holds its journal before the step, or with the step's batch
abbrev pub IsBetween : PlanData → Progress → Step → MemState → Type 0
IsBetween plan p s m = IsHolding plan (site_of s) (journal_of p.world (site_of s)) m ⊎ IsHolding plan (site_of s) (journal_of (with_batch plan p.world s) (site_of s)) m

-- the sites' hosts over the disks of a bench, each where a step named it
abbrev pub AreSeats : PlanData → Progress → List (Option HostState) → List MemState → Type 0
AreSeats plan p hosts bench = (site : ℕ) (h : Option HostState) (m : MemState) → site < count_of plan → IsSeat plan p site (slice_index_or hosts site h) (slice_index_or bench site m)

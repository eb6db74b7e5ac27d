-- How the disks of a bench and the hosts over them stand for the journals of sites.
use Rattle.std.specs.Prelude.{◌≡◌, ◌⊎◌, ℕ, ◌^◌, ◌<◌, List, [], None, slice_index_or}
use Rattle.helios_model.specs.declared.entries.Entry.{Entry}
use Rattle.helios_model.specs.Plans.{PlanData, count_of}
use Rattle.helios_model.specs.World.{World, journal_of, kept}
use Rattle.disk_store.specs.Disk.{IsAtRest}
use Rattle.disk_store.specs.Memory.{MemState}
use Rattle.node_host.specs.Hosts.{IsHostOn}
use Rattle.node_host.specs.Journals.{HoldsBatches}
use Rattle.node_host.specs.States.{HostState}
use Rattle.schedule_text.specs.declared.steps.Step.{Step}
use Rattle.schedule_text.specs.declared.steps.Step.TheVariants.{Batch, Restart}
use Rattle.schedule_replay.specs.Entries.{entries_at}
use Rattle.schedule_replay.specs.Progress.{Progress}

-- no call of the disk is to fail
pub record IsQuiet (m : MemState) : Type 0 where
  pub unscripted : m.fate.script ≡ None
  pub unlisted : m.fate.fails ≡ []

-- a disk that holds these batches of a site with nothing pending, and of which no call is to fail
pub record IsHolding (plan : PlanData) (site : ℕ) (batches : List (List Entry)) (m : MemState) : Type 0 where
  pub holds : HoldsBatches plan site batches m.disk.bytes
  pub at_rest : IsAtRest m.disk
  pub quiet : IsQuiet m

-- the greatest length of a journal in a replay, in bytes
abbrev pub journal_limit : ℕ
journal_limit = 2 ^ 40

-- a host of a site that stands for these batches, over a disk that holds them
pub record IsSeated (plan : PlanData) (site : ℕ) (batches : List (List Entry)) (host : HostState) (m : MemState) : Type 0 where
  pub of_plan : host.core.plan ≡ plan
  pub at_site : host.core.site ≡ site
  pub limited : host.limit ≡ journal_limit
  pub on : IsHostOn host batches m.disk
  pub quiet : IsQuiet m

abbrev pub IsSomeHolding : PlanData → ℕ → MemState → Type 0
IsSomeHolding plan site m = (batches : List (List Entry)) × IsHolding plan site batches m

abbrev pub IsSomeSeated : PlanData → ℕ → HostState → MemState → Type 0
IsSomeSeated plan site host m = (batches : List (List Entry)) × IsSeated plan site batches host m

-- each site's disk holds its journal in the world
abbrev pub BenchStands : PlanData → World → List MemState → Type 0
BenchStands plan w bench = (site : ℕ) (d : MemState) → site < count_of plan → IsHolding plan site (journal_of w site) (slice_index_or bench site d)

-- the world with the step's batch made durable and not answered
abbrev pub with_batch : PlanData → World → Step → World
with_batch plan w (Batch site inputs stop) = kept plan w site (entries_at plan w site inputs)
with_batch plan w (Restart site stop) = w

-- each site's disk holds its journal in the world before the step, or with the step's batch
abbrev pub BenchBetween : PlanData → Progress → Step → List MemState → Type 0
BenchBetween plan p s bench = (site : ℕ) (d : MemState) → site < count_of plan
    → IsHolding plan site (journal_of p.world site) (slice_index_or bench site d) ⊎ IsHolding plan site (journal_of (with_batch plan p.world s) site) (slice_index_or bench site d)

-- What a walk stands for between its steps.
use Rattle.std.specs.Prelude.{◌≡◌, ℕ, ◌-◌, ◌^◌, ◌<◌, ◌≤◌, true, false, List, [], Option, Some, None, length, min, slice_index_or, Result, Ok, Err}
use Rattle.helios_model.specs.Plans.{PlanData, count_of}
use Rattle.helios_model.specs.World.{StepsReach, journal_of}
use Rattle.disk_store.specs.Memory.{MemState}
use Rattle.node_host.specs.States.{HostState}
use Rattle.schedule_text.specs.declared.steps.Step.{Step}
use Rattle.schedule_replay.specs.declared.refusal.ReplayRefusal.{ReplayRefusal}
use Rattle.schedule_replay.specs.declared.refusal.ReplayRefusal.TheVariants.{ReplayFull, NoSuchMessage, NotForSite, NoMemory}
use Rattle.schedule_replay.specs.Progress.{Progress, progress, volume}
use Rattle.schedule_replay.specs.Report.{refusals_in}
use Rattle.schedule_replay.specs.Seats.{IsHolding, IsSeated}
use Rattle.schedule_replay.specs.WalkStates.{WalkState}

-- a site that no step named has an empty journal and no host; any other site has a host for its journal
abbrev pub IsSeat : PlanData → Progress → ℕ → Option HostState → MemState → Type 0
IsSeat plan p site None m = (slice_index_or p.opened site true ≡ false) × (journal_of p.world site ≡ []) × IsHolding plan site [] m
IsSeat plan p site (Some host) m = (slice_index_or p.opened site true ≡ true) × IsSeated plan site (journal_of p.world site) host m

pub record IsWalkOf (plan : PlanData) (p : Progress) (walk : WalkState) (bench : List MemState) : Type 0 where
  pub of_plan : walk.plan ≡ plan
  pub sites : length walk.hosts ≡ count_of plan
  pub seats : (site : ℕ) (h : Option HostState) (m : MemState) → site < count_of plan → IsSeat plan p site (slice_index_or walk.hosts site h) (slice_index_or bench site m)
  pub released : walk.sent ≡ p.world.sent
  pub committed : walk.commits ≡ p.world.history
  pub told : walk.refusals ≡ refusals_in p.world.told
  pub lines : walk.text ≡ p.lines
  pub counted : walk.number ≡ p.number
  pub written : walk.volume ≡ min (volume p) (2 ^ 64 - 1)

-- the walk and the bench stand for what these steps reach from the first world, each a step that is permitted and adds a line
pub record IsWalkAt (plan : PlanData) (steps : List Step) (walk : WalkState) (bench : List MemState) : Type 0 where
  pub stands : IsWalkOf plan (progress plan steps) walk bench
  pub reaches : StepsReach plan (progress plan steps).world
  pub numbered : (progress plan steps).number ≤ length (progress plan steps).lines

-- a refusal that names a step
abbrev pub IsNamedRefusal : ReplayRefusal → Type 0
IsNamedRefusal (ReplayFull step) = Unit {0}
IsNamedRefusal (NoSuchMessage step) = Unit {0}
IsNamedRefusal (NotForSite step) = Unit {0}
IsNamedRefusal NoMemory = ⊥

abbrev pub IsNamed : {T : Type 0} → Result T ReplayRefusal → Type 0
IsNamed (Ok value) = ⊥
IsNamed (Err refusal) = IsNamedRefusal refusal

-- where a step is to be refused, it is by that refusal and no other; else it is run, but for want of memory
abbrev pub RefusesAs : {T : Type 0} → Option ReplayRefusal → Result T ReplayRefusal → Type 0
RefusesAs (Some refusal) result = result ≡ Err refusal
RefusesAs None result = IsNamed result → ⊥

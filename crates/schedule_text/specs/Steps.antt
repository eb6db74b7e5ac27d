-- Which steps a plan can have.
use Rattle.std.specs.Prelude.{◌≢◌, ℕ, ◌<◌, ◌≤◌, Bool, true, false, List, length, All, IsTrue, IsSome, Option, Some, None}
use Rattle.std.specs.List.{list_any}
use Rattle.disk_store.specs.declared.fate.Stop.{Stop}
use Rattle.helios_model.specs.Limits.{most_inputs, most_items, most_sites}
use Rattle.helios_model.specs.Plans.{PlanData, count_of}
use Rattle.helios_model.specs.Spellable.{IsSpellableId, IsSpellableVersion, AreSpellablePuts}
use Rattle.helios_model.specs.Texts.{IsKey, all_differ}
use Rattle.schedule_text.specs.declared.planned.Planned.{Planned}
use Rattle.schedule_text.specs.declared.planned.Planned.TheVariants.{Get, Status, Request, Pull, Push}
use Rattle.schedule_text.specs.declared.planned.PlannedRead.{PlannedRead}
use Rattle.schedule_text.specs.declared.planned.PlannedVersion.{PlannedVersion}
use Rattle.schedule_text.specs.declared.planned.PlannedVersion.TheVariants.{At, Current}
use Rattle.schedule_text.specs.declared.steps.Step.{Step}
use Rattle.schedule_text.specs.declared.steps.Step.TheVariants.{Batch, Restart}

-- the most steps of a schedule
abbrev pub most_steps : ℕ
most_steps = 100000

-- the last call of a site's disk at which a batch can stop
abbrev pub last_batch_call : ℕ
last_batch_call = 4

-- the last call of a site's disk at which a restart can stop
abbrev pub last_restart_call : ℕ
last_restart_call = 8

-- whether an input goes into the journal
abbrev pub is_journaled : Planned → Bool
is_journaled (Get key) = false
is_journaled (Status id) = false
is_journaled (Request at reads puts) = true
is_journaled (Pull at to) = true
is_journaled (Push at message) = true

-- the current version, or one that a text can spell
abbrev pub IsPlannedVersion : PlannedVersion → Type 0
IsPlannedVersion (At version) = IsSpellableVersion version
IsPlannedVersion Current = Unit {0}

-- at most sixteen reads of distinct keys
pub record ArePlannedReads (reads : List PlannedRead) : Type 0 where
  pub few : length reads ≤ most_items
  pub differ : IsTrue (all_differ (λ r. r.key) reads)
  pub keys : All (λ r. IsKey r.key) reads
  pub versions : All (λ r. IsPlannedVersion r.version) reads

-- an input that a site of the plan can be given
abbrev pub IsInput : PlanData → ℕ → Planned → Type 0
IsInput plan site (Get key) = IsKey key
IsInput plan site (Status id) = IsSpellableId most_sites id
IsInput plan site (Request at reads puts) = ArePlannedReads reads × AreSpellablePuts puts
IsInput plan site (Pull at to) = (to < count_of plan) × (to ≢ site)
IsInput plan site (Push at message) = Unit {0}

-- a stop at a call from 1 to the last, where there is one
abbrev pub IsStop : ℕ → Option Stop → Type 0
IsStop last None = Unit {0}
IsStop last (Some stop) = (1 ≤ stop.call) × (stop.call ≤ last)

-- 1 to 16 inputs at a site of the plan; a stop only with one that goes into the journal
pub record IsBatch (plan : PlanData) (site : ℕ) (inputs : List Planned) (stop : Option Stop) : Type 0 where
  pub here : site < count_of plan
  pub some : 1 ≤ length inputs
  pub few : length inputs ≤ most_inputs
  pub each : All (IsInput plan site) inputs
  pub stops : IsStop last_batch_call stop
  pub journaled : IsSome stop → IsTrue (list_any is_journaled inputs)

-- a restart of a site of the plan
pub record IsRestart (plan : PlanData) (site : ℕ) (stop : Option Stop) : Type 0 where
  pub here : site < count_of plan
  pub stops : IsStop last_restart_call stop

-- a step that the plan can have
abbrev pub IsStep : PlanData → Step → Type 0
IsStep plan (Batch site inputs stop) = IsBatch plan site inputs stop
IsStep plan (Restart site stop) = IsRestart plan site stop

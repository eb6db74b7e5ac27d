-- A disk between two steps: it holds its journal before the step, or with the step's batch.
use Rattle.std.proofs.Common.{ℕ, sym, subst, ◌⊎◌, inl, inr, ◌<◌, Option, List, length}
use Rattle.disk_store.specs.Memory.{MemState}
use Rattle.disk_store.specs.declared.fate.Stop.{Stop}
use Rattle.node_host.specs.States.{HostState}
use Rattle.helios_model.specs.declared.entries.Entry.{Entry}
use Rattle.helios_model.specs.Plans.{PlanData}
use Rattle.helios_model.specs.World.{grown, journal_of, journaled}
use Rattle.schedule_text.specs.declared.planned.Planned.{Planned}
use Rattle.schedule_text.specs.declared.steps.Step.{Step}
use Rattle.schedule_text.specs.declared.steps.Step.TheVariants.{Batch}
use Rattle.schedule_replay.specs.declared.output.Output.{Output}
use Rattle.schedule_replay.specs.Entries.{entries_at}
use Rattle.schedule_replay.specs.Progress.{Progress, progress}
use Rattle.schedule_replay.specs.Seats.{IsHolding, IsSeated}
use Rattle.schedule_replay.specs.Standing.{IsBatchAt, IsBetween}
use Rattle.schedule_replay.proofs.Journals.{journal_grown}
use Rattle.schedule_replay.proofs.Seated.{placed_as}
use Rattle.schedule_replay.proofs.NextBatch.{journals_low}

pub between_before : (plan : PlanData) (p : Progress) (site : ℕ) (inputs : List Planned) (stop : Option Stop) (m : MemState) → IsHolding plan site (journal_of p.world site) m
    → IsBetween plan p (Batch site inputs stop) m
between_before plan p site inputs stop m h = inl h

pub between_after : (plan : PlanData) (p : Progress) (site : ℕ) (inputs : List Planned) (stop : Option Stop) (m : MemState) → site < length p.world.journals
    → IsHolding plan site (grown (journal_of p.world site) (journaled (entries_at plan p.world site inputs))) m → IsBetween plan p (Batch site inputs stop) m
between_after plan p site inputs stop m low h =
    inr (subst (λ bs. IsHolding plan site bs m) (sym (journal_grown p.world.journals site (grown (journal_of p.world site) (journaled (entries_at plan p.world site inputs))) low)) h)

-- want of memory as the batch is run
pub run_between : (plan : PlanData) (steps : List Step) (number site : ℕ) (inputs : List Planned) (stop : Option Stop) (host : HostState) (entries : List Entry) (m m' : MemState) (output : Output)
    → IsBatchAt plan steps number site inputs stop host entries m output
    → ((batches : List (List Entry)) → IsSeated host.core.plan host.core.site batches host m
    → IsHolding host.core.plan host.core.site batches m' ⊎ IsHolding host.core.plan host.core.site (grown batches (journaled entries)) m')
    → IsBetween plan (progress plan steps) (Batch site inputs stop) m'
run_between plan steps number site inputs stop host entries m m' output h left = by_side (here (journal_of p.world site) h.seated)
  where
    p : Progress
    p = progress plan steps

    here : (batches : List (List Entry)) → IsSeated plan site batches host m → IsHolding plan site batches m' ⊎ IsHolding plan site (grown batches (journaled entries)) m'
    here = placed_as (λ pl st. (batches : List (List Entry)) → IsSeated pl st batches host m → IsHolding pl st batches m' ⊎ IsHolding pl st (grown batches (journaled entries)) m')
        host.core.plan plan host.core.site site h.seated.of_plan h.seated.at_site left

    by_side : IsHolding plan site (journal_of p.world site) m' ⊎ IsHolding plan site (grown (journal_of p.world site) (journaled entries)) m' → IsBetween plan p (Batch site inputs stop) m'
    by_side (inl old) = inl old
    by_side (inr new) =
        between_after plan p site inputs stop m' (journals_low plan steps site h.next.planned.here) (subst (λ es. IsHolding plan site (grown (journal_of p.world site) (journaled es)) m') h.asked new)

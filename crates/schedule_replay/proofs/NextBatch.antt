-- The batch that comes next: what its step allows to be said of its entries.
use Rattle.std.proofs.Common.{ℕ, ◌≡◌, ap, refl, sym, subst, ◌⊎◌, inl, inr, ◌<◌, ◌≤◌, Option, Some, None, List, length, arith}
use Rattle.std.proofs.lemmas.Bool.{cases_lt}
use Rattle.disk_store.specs.Memory.{MemState}
use Rattle.disk_store.specs.declared.fate.Stop.{Stop}
use Rattle.node_host.specs.Journals.{AreAsked}
use Rattle.node_host.specs.States.{HostState}
use Rattle.helios_model.specs.declared.entries.Entry.{Entry}
use Rattle.helios_model.specs.Limits.{most_inputs}
use Rattle.helios_model.specs.Plans.{PlanData, count_of}
use Rattle.helios_model.specs.World.{journaled}
use Rattle.protocol_laws.specs.Times.{EachRecordIsSpellable}
use Rattle.protocol_laws.specs.Told.{EachSentIsMessage}
use Rattle.schedule_text.specs.declared.planned.Planned.{Planned}
use Rattle.schedule_text.specs.declared.steps.Step.{Step}
use Rattle.schedule_text.specs.declared.steps.Step.TheVariants.{Batch}
use Rattle.schedule_replay.specs.declared.output.Output.{Output}
use Rattle.schedule_replay.specs.Entries.{entries_at}
use Rattle.schedule_replay.specs.Progress.{Progress, most_volume, progress, volume}
use Rattle.schedule_replay.specs.Refusals.{refusal_of}
use Rattle.schedule_replay.specs.Standing.{IsBatchAt, IsNext}
use Rattle.schedule_replay.proofs.Passes.{refusal_full, unrefused_step}
use Rattle.schedule_replay.proofs.Reach.{entries_asked, entries_journaled, entries_number}
use Rattle.schedule_replay.proofs.Tally as tally
use Rattle.schedule_replay.proofs.Seated.{placed_as}

pub volume_low : (p : Progress) (s : Step) → refusal_of p s ≡ None → volume p ≤ most_volume
volume_low p s unrefused = by_place (cases_lt most_volume (volume p))
  where
    by_place : (most_volume < volume p) ⊎ (volume p ≤ most_volume) → volume p ≤ most_volume
    by_place (inl full) = let some = refusal_full p s full in absurd (cc)
    by_place (inr low) = low

pub batch_asked : EachRecordIsSpellable → EachSentIsMessage → (plan : PlanData) (steps : List Step) (number site : ℕ) (inputs : List Planned) (stop : Option Stop)
    → IsNext plan steps number (Batch site inputs stop) → AreAsked plan site (entries_at plan (progress plan steps).world site inputs)
batch_asked spellable messages plan steps number site inputs stop h =
    entries_asked spellable messages plan (progress plan steps).world (progress plan steps).number site inputs stop h.accepted h.reaches h.planned (unrefused_step (progress plan steps) (Batch site inputs stop) h.unrefused)

pub batch_number : (plan : PlanData) (steps : List Step) (number site : ℕ) (inputs : List Planned) (stop : Option Stop)
    → IsNext plan steps number (Batch site inputs stop) → length (entries_at plan (progress plan steps).world site inputs) ≡ length inputs
batch_number plan steps number site inputs stop h =
    entries_number plan (progress plan steps).world (progress plan steps).number site inputs (unrefused_step (progress plan steps) (Batch site inputs stop) h.unrefused)

pub batch_some : (plan : PlanData) (steps : List Step) (number site : ℕ) (inputs : List Planned) (stop : Option Stop) (entries : List Entry)
    → entries ≡ entries_at plan (progress plan steps).world site inputs → IsNext plan steps number (Batch site inputs stop) → 1 ≤ length entries
batch_some plan steps number site inputs stop entries is h = omega (arith, ap length is, batch_number plan steps number site inputs stop h, h.planned.some)

pub batch_few : (plan : PlanData) (steps : List Step) (number site : ℕ) (inputs : List Planned) (stop : Option Stop) (entries : List Entry)
    → entries ≡ entries_at plan (progress plan steps).world site inputs → IsNext plan steps number (Batch site inputs stop) → length entries ≤ most_inputs
batch_few plan steps number site inputs stop entries is h = omega (arith, ap length is, batch_number plan steps number site inputs stop h, h.planned.few)

pub batch_each : EachRecordIsSpellable → EachSentIsMessage → (plan : PlanData) (steps : List Step) (number site : ℕ) (inputs : List Planned) (stop : Option Stop)
    (host : HostState) (entries : List Entry) (m : MemState) (output : Output) → IsBatchAt plan steps number site inputs stop host entries m output
    → AreAsked host.core.plan host.core.site entries
batch_each spellable messages plan steps number site inputs stop host entries m output h =
    placed_as (λ pl st. AreAsked pl st entries) plan host.core.plan site host.core.site (sym h.seated.of_plan) (sym h.seated.at_site)
    (subst (AreAsked plan site) (sym h.asked) (batch_asked spellable messages plan steps number site inputs stop h.next))

pub batch_journaled : (plan : PlanData) (steps : List Step) (number site : ℕ) (inputs : List Planned) (stop : Stop) (entries : List Entry)
    → entries ≡ entries_at plan (progress plan steps).world site inputs → IsNext plan steps number (Batch site inputs (Some stop)) → 1 ≤ length (journaled entries)
batch_journaled plan steps number site inputs stop entries is h =
    subst (λ es. 1 ≤ length (journaled es)) (sym is)
    (entries_journaled plan (progress plan steps).world (progress plan steps).number site inputs (Some stop) h.planned refl (unrefused_step (progress plan steps) (Batch site inputs (Some stop)) h.unrefused))

pub journals_low : (plan : PlanData) (steps : List Step) (site : ℕ) → site < count_of plan → site < length (progress plan steps).world.journals
journals_low plan steps site low = omega (arith, (tally.counted plan steps).journals)

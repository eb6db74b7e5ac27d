-- A batch that begins: its host is at hand, and its frame is counted.
use Rattle.std.proofs.Common.{ℕ, ◌≡◌, ◌∙◌, ap, sym, subst, inl, ◌+◌, ◌-◌, ◌^◌, ◌<◌, ◌≤◌, min, All, Option, Some, None, Result, IfOk, OnErr, List, arith}
use Rattle.disk_store.specs.Memory.{MemState}
use Rattle.disk_store.specs.declared.fate.Stop.{Stop}
use Rattle.commit_rules.specs.Core.{IsCoreOf}
use Rattle.node_host.specs.Journals.{AreAsked, frame_size, journal_size}
use Rattle.node_host.specs.Laws.{HostStandsAtItsEnd, RecoveredIsNode}
use Rattle.node_host.specs.States.{HostState}
use Rattle.helios_model.specs.declared.entries.Entry.{Entry}
use Rattle.helios_model.specs.declared.messages.Message.{Message}
use Rattle.helios_model.specs.Node.{Node}
use Rattle.helios_model.specs.Plans.{PlanData, count_of}
use Rattle.helios_model.specs.World.{journal_of, journaled, node_of}
use Rattle.protocol_laws.specs.Told.{EachSentIsMessage}
use Rattle.schedule_text.specs.declared.planned.Planned.{Planned}
use Rattle.schedule_text.specs.declared.steps.Step.{Step}
use Rattle.schedule_text.specs.declared.steps.Step.TheVariants.{Batch}
use Rattle.schedule_replay.specs.declared.output.Output.{Output}
use Rattle.schedule_replay.specs.declared.taken.Taken.{Taken}
use Rattle.schedule_replay.specs.Entries.{entries_at, entries_for}
use Rattle.schedule_replay.specs.Progress.{Progress, most_volume, progress, site_of, volume}
use Rattle.schedule_replay.specs.Seats.{IsHolding, IsSeated}
use Rattle.schedule_replay.specs.Standing.{IsBatchAt, IsBegun, IsBetween, IsHeld, IsPlaced}
use Rattle.schedule_replay.specs.Walks.{IsSeat}
use Rattle.schedule_replay.proofs.Passes.{unrefused_step}
use Rattle.std.proofs.lemmas.Result.{IfOk-weaker, on_err_weaker}
use Rattle.schedule_replay.specs.Taking.{CanTake}
use Rattle.schedule_replay.proofs.Reach.{sent_formed}
use Rattle.schedule_replay.proofs.Takes.{asked_written, inputs_taken}
use Rattle.log_records.specs.Entries.{MayBeWritten}
use Rattle.schedule_replay.proofs.Tally as tally
use Rattle.schedule_replay.proofs.Seated.{core_of_seat, placed_as, seat_held}
use Rattle.schedule_replay.proofs.NextBatch.{volume_low}

pub low_gate : HostStandsAtItsEnd → (plan : PlanData) (steps : List Step) (site : ℕ) (held : Option HostState) (host : HostState) (m m' : MemState) → site < count_of plan
    → volume (progress plan steps) ≤ most_volume → IsSeat plan (progress plan steps) site held m → IsSeated plan site (journal_of (progress plan steps).world site) host m' → host.gate ≤ most_volume
low_gate ends plan steps site None host m m' low small seat seated =
    omega (arith, ends host (journal_of (progress plan steps).world site) m'.disk seated.on, ap journal_size seat.1)
low_gate ends plan steps site (Some h) host m m' low small seat seated =
    omega (arith, ends host (journal_of (progress plan steps).world site) m'.disk seated.on, tally.low_gate_counted plan (progress plan steps) site seat.0 low (tally.counted plan steps))

pub entries_here : RecoveredIsNode → (plan : PlanData) (steps : List Step) (number site : ℕ) (inputs : List Planned) (stop : Option Stop) (held : Option HostState)
    (host : HostState) (entries : List Entry) (sent : List Message) (m m' : MemState) (output : Output)
    → IsBegun plan steps number (Batch site inputs stop) held m output
    → ((batches : List (List Entry)) → IsHeld plan site batches held m → IsSeated plan site batches host m')
    → ((pl : PlanData) (n : Node) → IsCoreOf host.core pl n → entries ≡ entries_for n.log sent inputs) → sent ≡ output.sent.items
    → entries ≡ entries_at plan (progress plan steps).world site inputs
entries_here is_node plan steps number site inputs stop held host entries sent m m' output h seated value sent_is =
    let p : Progress = progress plan steps in
    value plan (node_of plan p.world site) (core_of_seat is_node plan p.world site host m' (seated (journal_of p.world site) (seat_held plan p site held m h.seat)))
    ∙ ap (λ ms. entries_for (node_of plan p.world site).log ms inputs) (sent_is ∙ h.tells.sent)

pub batch_at : HostStandsAtItsEnd → RecoveredIsNode → (plan : PlanData) (steps : List Step) (number site : ℕ) (inputs : List Planned) (stop : Option Stop) (held : Option HostState)
    (host : HostState) (entries : List Entry) (sent : List Message) (frame : ℕ) (m m' : MemState) (output output' : Output)
    → IsBegun plan steps number (Batch site inputs stop) held m output
    → ((batches : List (List Entry)) → IsHeld plan site batches held m → IsSeated plan site batches host m')
    → ((pl : PlanData) (n : Node) → IsCoreOf host.core pl n → entries ≡ entries_for n.log sent inputs) → sent ≡ output.sent.items
    → frame ≡ frame_size (journaled entries)
    → output'.text.items ≡ output.text.items → output'.sent.items ≡ output.sent.items → output'.commits.items ≡ output.commits.items → output'.refusals ≡ output.refusals
    → output'.volume ≡ min (output.volume + frame) (2 ^ 64 - 1)
    → IsBatchAt plan steps number site inputs stop host entries m' output'
batch_at ends is_node plan steps number site inputs stop held host entries sent frame m m' output output' h seated value sent_is frame_is text sent_same commits refusals volume_is =
    record {
      next = h.next;
      seated = seat;
      low = low_gate ends plan steps site held host m m' h.next.planned.here (volume_low p (Batch site inputs stop) h.next.unrefused) h.seat seat;
      asked = asked;
      tells = record {
        lines = text ∙ h.tells.lines;
        sent = sent_same ∙ h.tells.sent;
        commits = commits ∙ h.tells.commits;
        refusals = refusals ∙ h.tells.refusals;
        volume = frame_sums _ frame _ output.volume output'.volume h.tells.volume volume_is (frame_is ∙ ap (λ es. frame_size (journaled es)) asked);
      };
    }
  where
    p : Progress
    p = progress plan steps

    seat : IsSeated plan site (journal_of p.world site) host m'
    seat = seated (journal_of p.world site) (seat_held plan p site held m h.seat)

    asked : entries ≡ entries_at plan p.world site inputs
    asked = entries_here is_node plan steps number site inputs stop held host entries sent m m' output h seated value sent_is

    frame_sums : (a x y u v : ℕ) → u ≡ min a (2 ^ 64 - 1) → v ≡ min (u + x) (2 ^ 64 - 1) → x ≡ y → v ≡ min (a + y) (2 ^ 64 - 1)
    frame_sums a x y u v f g e = omega arith

-- the inputs can be taken at the host that was opened
pub batch_takes : EachSentIsMessage → (plan : PlanData) (steps : List Step) (number site : ℕ) (inputs : List Planned) (stop : Option Stop) (held : Option HostState)
    (host : HostState) (sent : List Message) (m m' : MemState) (output : Output)
    → IsBegun plan steps number (Batch site inputs stop) held m output
    → ((batches : List (List Entry)) → IsHeld plan site batches held m → IsSeated plan site batches host m') → sent ≡ output.sent.items
    → All (CanTake host.core.plan host.core.site sent) inputs
batch_takes messages plan steps number site inputs stop held host sent m m' output h seated sent_is =
    let p : Progress = progress plan steps in
    let seat : IsSeated plan site (journal_of p.world site) host m' = seated (journal_of p.world site) (seat_held plan p site held m h.seat) in
    placed_as (λ pl st. All (CanTake pl st sent) inputs) plan host.core.plan site host.core.site (sym seat.of_plan) (sym seat.at_site)
    (subst (λ ms. All (CanTake plan site ms) inputs) (sym (sent_is ∙ h.tells.sent))
    (inputs_taken plan p.world.sent p.number site inputs (sent_formed messages plan p.world h.next.accepted h.next.reaches) h.next.planned.each (unrefused_step p (Batch site inputs stop) h.next.unrefused)))

pub batch_written : (host : HostState) (entries items : List Entry) → entries ≡ items → AreAsked host.core.plan host.core.site items → All MayBeWritten entries
batch_written host entries items same asked = subst (All MayBeWritten) (sym same) (asked_written host.core.plan host.core.site items asked)

-- what a run of the batch makes, of the step that began
pub begun_placed : {E : Type 0} (plan : PlanData) (number site : ℕ) (inputs : List Planned) (stop stop' : Option Stop) (held : Option HostState) (host : HostState) (entries : List Entry)
    (m m' m'' : MemState) (output between output' : Output) (r : Result Taken E) → stop ≡ stop'
    → ((steps : List Step) → IsBegun plan steps number (Batch site inputs stop) held m output → IsBatchAt plan steps number site inputs stop host entries m' between)
    → IfOk r (λ after. (steps : List Step) (is : List Planned) → IsBatchAt plan steps number site is stop' host entries m' between
    → IsPlaced plan (progress plan steps) (Batch site is stop') after m'' output')
    → IfOk r (λ after. (steps : List Step) → IsBegun plan steps number (Batch site inputs stop) held m output
    → IsPlaced plan (progress plan steps) (Batch site inputs stop) after m'' output')
begun_placed plan number site inputs stop stop' held host entries m m' m'' output between output' r same begins h =
    IfOk-weaker r
    (λ (after : Taken). (steps : List Step) (is : List Planned) → IsBatchAt plan steps number site is stop' host entries m' between
    → IsPlaced plan (progress plan steps) (Batch site is stop') after m'' output')
    (λ (after : Taken). (steps : List Step) → IsBegun plan steps number (Batch site inputs stop) held m output
    → IsPlaced plan (progress plan steps) (Batch site inputs stop) after m'' output')
    (λ after f steps b.
    subst (λ st. IsPlaced plan (progress plan steps) (Batch site inputs st) after m'' output') (sym same)
    (f steps inputs (subst (λ st. IsBatchAt plan steps number site inputs st host entries m' between) same (begins steps b)))) h

pub begun_between : {T E : Type 0} (plan : PlanData) (number site : ℕ) (inputs : List Planned) (stop stop' : Option Stop) (held : Option HostState) (host : HostState) (entries : List Entry)
    (m m' m'' : MemState) (output between : Output) (r : Result T E) → stop ≡ stop'
    → ((steps : List Step) → IsBegun plan steps number (Batch site inputs stop) held m output → IsBatchAt plan steps number site inputs stop host entries m' between)
    → OnErr r ((steps : List Step) (is : List Planned) → IsBatchAt plan steps number site is stop' host entries m' between → IsBetween plan (progress plan steps) (Batch site is stop') m'')
    → OnErr r ((steps : List Step) → IsBegun plan steps number (Batch site inputs stop) held m output → IsBetween plan (progress plan steps) (Batch site inputs stop) m'')
begun_between plan number site inputs stop stop' held host entries m m' m'' output between r same begins h =
    on_err_weaker r
    (λ f steps b.
    subst (λ st. IsBetween plan (progress plan steps) (Batch site inputs st) m'') (sym same)
    (f steps inputs (subst (λ st. IsBatchAt plan steps number site inputs st host entries m' between) same (begins steps b)))) h

-- want of memory before the disk is written, or behind an opening
pub begun_holds : (plan : PlanData) (steps : List Step) (number : ℕ) (s : Step) (site : ℕ) (held : Option HostState) (m m' : MemState) (output : Output) → IsBegun plan steps number s held m output
    → site ≡ site_of s → ((batches : List (List Entry)) → IsHeld plan site batches held m → IsHolding plan site batches m') → IsBetween plan (progress plan steps) s m'
begun_holds plan steps number s site held m m' output h same holds =
    let there : (batches : List (List Entry)) → IsHeld plan (site_of s) batches held m → IsHolding plan (site_of s) batches m' =
    subst (λ k. (batches : List (List Entry)) → IsHeld plan k batches held m → IsHolding plan k batches m') same holds in
    inl (there (journal_of (progress plan steps).world (site_of s)) (seat_held plan (progress plan steps) (site_of s) held m h.seat))

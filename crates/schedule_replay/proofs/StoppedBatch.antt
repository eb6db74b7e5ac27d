-- A batch that was stopped: what its stop makes of a walk.
use Rattle.std.proofs.Common.{ℕ, ◌≡◌, ◌∙◌, ap, refl, sym, subst, Bool, true, false, inl, ◌+◌, ◌-◌, ◌^◌, ◌≤◌, min, Some, List, [], ◌++◌, length, slice_index_or, if◌then◌else◌, codes, arith}
use Rattle.std.proofs.lemmas.List.{append-nil}
use Rattle.disk_store.specs.Memory.{MemState}
use Rattle.disk_store.specs.declared.fate.Stop.{Stop}
use Rattle.node_journal.specs.Appending.{is_kept}
use Rattle.node_host.specs.Laws.{JournaledSuffice, RecoveredGoesOn, RecoveredIsNode}
use Rattle.node_host.specs.Recovery.{recovered}
use Rattle.node_host.specs.States.{HostState}
use Rattle.helios_model.specs.declared.entries.Entry.{Entry}
use Rattle.helios_model.specs.declared.records.CommitEvent.{CommitEvent}
use Rattle.helios_model.specs.Plans.{PlanData}
use Rattle.helios_model.specs.World.{World, Kept, Lost, grown, journal_of, journaled}
use Rattle.protocol_laws.specs.Moves.{BatchMovesOneNode}
use Rattle.schedule_text.specs.declared.planned.Planned.{Planned}
use Rattle.schedule_text.specs.declared.steps.Step.{Step}
use Rattle.schedule_text.specs.declared.steps.Step.TheVariants.{Batch}
use Rattle.schedule_replay.specs.declared.output.Output.{Output}
use Rattle.schedule_replay.specs.Entries.{entries_at}
use Rattle.schedule_replay.specs.Progress.{Progress, pass, progress, step_frame, volume}
use Rattle.schedule_replay.specs.Report.{batch_lines, refusals_in, step_line, step_lines}
use Rattle.schedule_replay.specs.Seats.{IsSeated}
use Rattle.schedule_replay.specs.Standing.{IsBatchAt, IsBetween, IsPlaced, head_size}
use Rattle.schedule_replay.specs.Taking.{HasAdded, stop_line}
use Rattle.schedule_replay.proofs.Journals.{commits_of, history_stopped, journal_stopped, sent_stopped, told_stopped}
use Rattle.schedule_replay.proofs.Recovered.{last_added}
use Rattle.schedule_replay.proofs.Tally as tally
use Rattle.schedule_replay.proofs.Seated.{placed_as, seated_holds}
use Rattle.schedule_replay.proofs.NextBatch.{batch_journaled, journals_low}
use Rattle.schedule_replay.proofs.Between.{between_after}
use Rattle.schedule_replay.proofs.AnsweredBatch.{head_same, volume_sums}

stop_lines : (plan : PlanData) (w : World) (number site : ℕ) (inputs : List Planned) (stop : Stop) → stop_line number site stop ≡ step_lines plan w number (Batch site inputs (Some stop))
stop_lines plan w number site inputs stop = by_test (is_kept stop.call stop.keep)
  where
    by_test : (b : Bool) → step_line number site (if b then codes "kept" else codes "lost") ≡ batch_lines plan w number site inputs (if b then Kept else Lost)
    by_test true = refl
    by_test false = refl

stop_commits : BatchMovesOneNode → RecoveredGoesOn → RecoveredIsNode → JournaledSuffice → (plan : PlanData) (w : World) (site : ℕ) (entries : List Entry) (history last : List CommitEvent) (b : Bool)
    → 1 ≤ length (journaled entries)
    → last ≡ (recovered plan site (if b then grown (journal_of w site) (journaled entries) else journal_of w site)).last
    → history ++ (if b then last else []) ≡ (if b then history ++ commits_of plan w site entries else history)
stop_commits moves goes_on is_node suffice plan w site entries history last true some is = ap (λ es. history ++ es) (is ∙ last_added moves goes_on is_node suffice plan w site entries some)
stop_commits moves goes_on is_node suffice plan w site entries history last false some is = append-nil history

pub stop_seat : (plan : PlanData) (steps : List Step) (number site : ℕ) (inputs : List Planned) (stop : Stop) (host after : HostState) (entries : List Entry) (m m' : MemState) (output : Output)
    → IsBatchAt plan steps number site inputs (Some stop) host entries m output
    → ((batches : List (List Entry)) → IsSeated host.core.plan host.core.site batches host m
    → IsSeated host.core.plan host.core.site (if is_kept stop.call stop.keep then grown batches (journaled entries) else batches) after m')
    → IsSeated plan site (if is_kept stop.call stop.keep then grown (journal_of (progress plan steps).world site) (journaled (entries_at plan (progress plan steps).world site inputs)) else journal_of (progress plan steps).world site) after m'
stop_seat plan steps number site inputs stop host after entries m m' output h seated =
    subst (λ es. IsSeated plan site (if is_kept stop.call stop.keep then grown (journal_of (progress plan steps).world site) (journaled es) else journal_of (progress plan steps).world site) after m') h.asked
    (placed_as (λ pl st. (batches : List (List Entry)) → IsSeated pl st batches host m → IsSeated pl st (if is_kept stop.call stop.keep then grown batches (journaled entries) else batches) after m')
    host.core.plan plan host.core.site site h.seated.of_plan h.seated.at_site seated (journal_of (progress plan steps).world site) h.seated)

pub stop_placed : BatchMovesOneNode → RecoveredGoesOn → RecoveredIsNode → JournaledSuffice → (plan : PlanData) (steps : List Step) (number site : ℕ) (inputs : List Planned) (stop : Stop)
    (host after : HostState) (entries : List Entry) (last : List CommitEvent) (m m' : MemState) (output output' : Output)
    → IsBatchAt plan steps number site inputs (Some stop) host entries m output
    → ((batches : List (List Entry)) → IsSeated host.core.plan host.core.site batches host m
    → IsSeated host.core.plan host.core.site (if is_kept stop.call stop.keep then grown batches (journaled entries) else batches) after m')
    → ((batches : List (List Entry)) → IsSeated host.core.plan host.core.site batches host m
    → last ≡ (recovered host.core.plan host.core.site (if is_kept stop.call stop.keep then grown batches (journaled entries) else batches)).last)
    → HasAdded output (stop_line number site stop) output'
    → IsPlaced plan (progress plan steps) (Batch site inputs (Some stop)) (record { host = after; commits = last; are_new = is_kept stop.call stop.keep }) m' output'
stop_placed moves goes_on is_node suffice plan steps number site inputs stop host after entries last m m' output output' h seated recovers told =
    record {
      seated = subst (λ bs. IsSeated plan site bs after m') (sym (journal_stopped plan w site inputs stop (journals_low plan steps site h.next.planned.here)))
          (stop_seat plan steps number site inputs stop host after entries m m' output h seated);
      lines = told.text ∙ ap (λ t. t ++ stop_line number site stop) h.tells.lines ∙ ap (λ ls. p.lines ++ ls) lines;
      sent = told.sent ∙ h.tells.sent ∙ sym (sent_stopped plan w site inputs stop);
      commits = told.commits ∙ h.tells.commits;
      added = sym (
          stop_commits moves goes_on is_node suffice plan w site es w.history last (is_kept stop.call stop.keep) (batch_journaled plan steps number site inputs stop es refl h.next) recovered_here
          ∙ sym (history_stopped plan w site inputs stop));
      refusals = told.refusals ∙ h.tells.refusals ∙ ap refusals_in (sym (told_stopped plan w site inputs stop));
      volume = volume_sums _ _ 0 _ output.volume output'.volume h.tells.volume (told.volume ∙ ap (λ k. min k (2 ^ 64 - 1)) (plus_none _)) sizes;
    }
  where
    p : Progress
    p = progress plan steps

    w : World
    w = p.world

    es : List Entry
    es = entries_at plan w site inputs

    plus_none : (k : ℕ) → k ≡ k + 0
    plus_none k = omega arith

    lines : stop_line number site stop ≡ step_lines plan w p.number (Batch site inputs (Some stop))
    lines = ap (λ k. stop_line k site stop) h.next.counted ∙ stop_lines plan w p.number site inputs stop

    recovered_here : last ≡ (recovered plan site (if is_kept stop.call stop.keep then grown (journal_of w site) (journaled es) else journal_of w site)).last
    recovered_here =
        subst (λ xs. last ≡ (recovered plan site (if is_kept stop.call stop.keep then grown (journal_of w site) (journaled xs) else journal_of w site)).last) h.asked
        (placed_as (λ pl st. (batches : List (List Entry)) → IsSeated pl st batches host m → last ≡ (recovered pl st (if is_kept stop.call stop.keep then grown batches (journaled entries) else batches)).last)
        host.core.plan plan host.core.site site h.seated.of_plan h.seated.at_site recovers (journal_of w site) h.seated)

    sizes : volume (pass plan p (Batch site inputs (Some stop)))
        ≡ (volume p + head_size p site + step_frame plan w (Batch site inputs (Some stop))) + 0 + length (stop_line number site stop)
    sizes =
        tally.volume_pass plan p (Batch site inputs (Some stop))
        ∙ ap (λ k. volume p + k + step_frame plan w (Batch site inputs (Some stop)) + 0 + length (step_lines plan w p.number (Batch site inputs (Some stop)))) (head_same (slice_index_or p.opened site true))
        ∙ ap (λ ls. volume p + head_size p site + step_frame plan w (Batch site inputs (Some stop)) + 0 + length ls) (sym lines)

-- want of memory behind a stop
pub stop_between : (plan : PlanData) (steps : List Step) (number site : ℕ) (inputs : List Planned) (stop : Stop) (host after : HostState) (entries : List Entry) (m m' : MemState) (output : Output)
    → IsBatchAt plan steps number site inputs (Some stop) host entries m output
    → ((batches : List (List Entry)) → IsSeated host.core.plan host.core.site batches host m
    → IsSeated host.core.plan host.core.site (if is_kept stop.call stop.keep then grown batches (journaled entries) else batches) after m')
    → IsBetween plan (progress plan steps) (Batch site inputs (Some stop)) m'
stop_between plan steps number site inputs stop host after entries m m' output h seated =
    by_test (is_kept stop.call stop.keep) (stop_seat plan steps number site inputs stop host after entries m m' output h seated)
  where
    p : Progress
    p = progress plan steps

    by_test : (b : Bool) → IsSeated plan site (if b then grown (journal_of p.world site) (journaled (entries_at plan p.world site inputs)) else journal_of p.world site) after m'
        → IsBetween plan p (Batch site inputs (Some stop)) m'
    by_test true s = between_after plan p site inputs (Some stop) m' (journals_low plan steps site h.next.planned.here) (seated_holds plan site _ after m' s)
    by_test false s = inl (seated_holds plan site (journal_of p.world site) after m' s)

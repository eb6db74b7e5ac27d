-- A batch that was answered: what its replies make of a walk.
use Rattle.std.proofs.Common.{ℕ, ◌≡◌, ◌∙◌, ap, refl, sym, subst, Bool, true, false, inr, cond, ◌+◌, ◌-◌, ◌^◌, ◌<◌, min, All, None, List, [], ◌∷◌, ◌++◌, length, map, slice_index_or, if◌then◌else◌, arith}
use Rattle.std.specs.List.{cons_option, count_by, sum_by}
use Rattle.std.proofs.lemmas.List.Sums.{sum_by-append}
use Rattle.std.proofs.lemmas.List.Folds.{fold-map}
use Rattle.std.proofs.lemmas.List.Elements.{All-drop, All-map}
use Rattle.std.proofs.Math.Seq.{drop-append_seam}
use Rattle.disk_store.specs.Memory.{MemState}
use Rattle.commit_rules.specs.Core.{IsCoreOf}
use Rattle.node_host.specs.Answering.{HasAnswered, answers}
use Rattle.node_host.specs.Laws.{RecoveredIsNode}
use Rattle.node_host.specs.States.{HostState}
use Rattle.helios_model.specs.declared.entries.Entry.{Entry}
use Rattle.helios_model.specs.declared.entries.Reply.{Reply}
use Rattle.helios_model.specs.declared.records.CommitEvent.{CommitEvent}
use Rattle.helios_model.specs.Node.{Node}
use Rattle.helios_model.specs.Plans.{PlanData, count_of}
use Rattle.helios_model.specs.Spellable.{IsSpellableReply}
use Rattle.helios_model.specs.Step.{after_entry, step}
use Rattle.helios_model.specs.World.{World, StepsReach, Done, Told, grown, happens, journal_of, journaled, message_in, messages_in, node_of, replies}
use Rattle.helios_model.specs.World.Event.{Batch as Batched}
use Rattle.protocol_laws.specs.Moves.{BatchMovesOneNode}
use Rattle.protocol_laws.specs.Times.{EachRecordIsSpellable, EachReplyIsSpellable}
use Rattle.protocol_laws.specs.Told.{EachSentIsMessage}
use Rattle.schedule_text.specs.declared.planned.Planned.{Planned}
use Rattle.schedule_text.specs.declared.steps.Step.{Step}
use Rattle.schedule_text.specs.declared.steps.Step.TheVariants.{Batch}
use Rattle.schedule_replay.specs.declared.output.Output.{Output}
use Rattle.schedule_replay.specs.Entries.{entries_at}
use Rattle.schedule_replay.specs.Progress.{Progress, message_size, pass, progress, step_frame, volume}
use Rattle.schedule_replay.specs.Report.{is_refusal, refusals_in, released_after, reply_lines, reply_text, step_line, step_lines}
use Rattle.schedule_replay.specs.Seats.{IsSeated}
use Rattle.schedule_replay.specs.Standing.{IsBatchAt, IsBetween, IsPlaced, head_size}
use Rattle.schedule_replay.specs.Taking.{HasTold, lines_told, messages_told}
use Rattle.schedule_replay.proofs.Journals.{journal_done}
use Rattle.schedule_replay.proofs.Passes.{unrefused_step}
use Rattle.schedule_replay.proofs.Reach.{may_pass}
use Rattle.schedule_replay.proofs.Recovered.{commits_here}
use Rattle.schedule_replay.proofs.Tally as tally
use Rattle.schedule_replay.proofs.Seated.{core_of_seat, placed_as, seated_holds}
use Rattle.schedule_replay.proofs.NextBatch.{batch_few, journals_low, volume_low}
use Rattle.schedule_replay.proofs.Between.{run_between}

lines_here : BatchMovesOneNode → (plan : PlanData) (number site : ℕ) (es : List Entry) (w : World) (k : ℕ) → site < length w.journals
    → lines_told number site k (answers plan (node_of plan w site) es) ≡ reply_lines number k (replies plan (node_of plan w site) es)
lines_here moves plan number site [] w k low = refl
lines_here moves plan number site (e ∷ es) w k low =
    let n : Node = node_of plan w site in
    let r : Reply = (step plan n e).reply in
    let w' : World = happens plan w (Batched site (e ∷ []) Done) in
    let next : node_of plan w' site ≡ after_entry plan n e = moves.node_here plan w site (e ∷ []) Done low in
    let rest : lines_told number site (released_after k r) (answers plan (node_of plan w' site) es) ≡ reply_lines number (released_after k r) (replies plan (node_of plan w' site) es) =
    lines_here moves plan number site es w' (released_after k r) (subst (λ j. site < j) (sym (moves.journals_stay plan w (Batched site (e ∷ []) Done))) low) in
    let rest' : lines_told number site (released_after k r) (answers plan (after_entry plan n e) es) ≡ reply_lines number (released_after k r) (replies plan (after_entry plan n e) es) =
    subst (λ (v : Node). lines_told number site (released_after k r) (answers plan v es) ≡ reply_lines number (released_after k r) (replies plan v es)) next rest in
    ap (λ ls. step_line number site (reply_text k r) ++ ls) rest'
    ∙ ap (λ st. step_line number st (reply_text k r) ++ reply_lines number (released_after k r) (replies plan (after_entry plan n e) es)) (sym (moves.site_stays plan w site))

messages_same : (ts : List Told) → messages_told (map (λ t. t.reply) ts) ≡ messages_in ts
messages_same [] = refl
messages_same (t ∷ ts) = ap (cons_option (message_in t.reply)) (messages_same ts)

refusals_same : (ts : List Told) → count_by is_refusal (map (λ t. t.reply) ts) ≡ refusals_in ts
refusals_same ts = fold-map (λ k r. k + cond (is_refusal r) 1 0) (λ (t : Told). t.reply) 0 ts

pub head_same : (b : Bool) → tally.head_size b ≡ (if b then 0 else 39)
head_same true = refl
head_same false = refl

refusals_push : (ts us : List Told) → refusals_in (ts ++ us) ≡ refusals_in ts + refusals_in us
refusals_push ts us = sum_by-append (λ t. cond (is_refusal t.reply) 1 0) ts us

-- what was told of a batch that was run
pub told_lines : BatchMovesOneNode → (plan : PlanData) (steps : List Step) (number site : ℕ) (inputs : List Planned) (released : ℕ) (rs : List Reply)
    → site < count_of plan → number ≡ (progress plan steps).number → released ≡ length (progress plan steps).world.sent
    → rs ≡ answers plan (node_of plan (progress plan steps).world site) (entries_at plan (progress plan steps).world site inputs)
    → lines_told number site released rs ≡ step_lines plan (progress plan steps).world (progress plan steps).number (Batch site inputs None)
told_lines moves plan steps number site inputs released rs low counted sent is =
    let w : World = (progress plan steps).world in
    ap (lines_told number site released) is
    ∙ lines_here moves plan number site (entries_at plan w site inputs) w released (journals_low plan steps site low)
    ∙ ap (λ k. reply_lines k released (replies plan (node_of plan w site) (entries_at plan w site inputs))) counted
    ∙ ap (λ k. reply_lines (progress plan steps).number k (replies plan (node_of plan w site) (entries_at plan w site inputs))) sent

pub volume_sums : (a x y z u v : ℕ) → u ≡ min a (2 ^ 64 - 1) → v ≡ min (u + x + y) (2 ^ 64 - 1) → z ≡ a + y + x → v ≡ min z (2 ^ 64 - 1)
volume_sums a x y z u v f g h = omega arith

pub run_placed : BatchMovesOneNode → RecoveredIsNode → (plan : PlanData) (steps : List Step) (number site : ℕ) (inputs : List Planned)
    (host after : HostState) (entries : List Entry) (m m' : MemState) (output output' : Output) (rs : List Reply) (commits : List CommitEvent)
    → IsBatchAt plan steps number site inputs None host entries m output
    → ((batches : List (List Entry)) → IsSeated host.core.plan host.core.site batches host m → IsSeated host.core.plan host.core.site (grown batches (journaled entries)) after m')
    → ((n : Node) → IsCoreOf host.core host.core.plan n → HasAnswered host.core.plan n entries after.core rs commits)
    → HasTold number site output rs output'
    → IsPlaced plan (progress plan steps) (Batch site inputs None) (record { host = after; commits = commits; are_new = true }) m' output'
run_placed moves is_node plan steps number site inputs host after entries m m' output output' rs commits h seated answered told =
    record {
      seated = subst (λ bs. IsSeated plan site bs after m') (sym (journal_done plan w site inputs (journals_low plan steps site h.next.planned.here)))
          (subst (λ es. IsSeated plan site (grown (journal_of w site) (journaled es)) after m') h.asked (seated_here (journal_of w site) h.seated));
      lines = told.text ∙ ap (λ t. t ++ lines_told number site (length output.sent.items) rs) h.tells.lines ∙ ap (λ ls. p.lines ++ ls) lines;
      sent = told.sent ∙ ap (λ ms. ms ++ messages_told rs) h.tells.sent ∙ ap (λ ms. w.sent ++ ms) messages;
      commits = told.commits ∙ h.tells.commits;
      added = sym (ap (λ es. w.history ++ es) (here.committed ∙ commits_here moves plan w site es));
      refusals = told.refusals ∙ ap (λ k. k + count_by is_refusal rs) h.tells.refusals ∙ ap (λ k. refusals_in w.told + k) refused ∙ sym (refusals_push w.told ts);
      volume = volume_sums _ _ _ _ output.volume output'.volume h.tells.volume told.volume sizes;
    }
  where
    p : Progress
    p = progress plan steps

    w : World
    w = p.world

    es : List Entry
    es = entries_at plan w site inputs

    ts : List Told
    ts = replies plan (node_of plan w site) es

    seated_here : (batches : List (List Entry)) → IsSeated plan site batches host m → IsSeated plan site (grown batches (journaled entries)) after m'
    seated_here = placed_as (λ pl st. (batches : List (List Entry)) → IsSeated pl st batches host m → IsSeated pl st (grown batches (journaled entries)) after m')
        host.core.plan plan host.core.site site h.seated.of_plan h.seated.at_site seated

    here : HasAnswered plan (node_of plan w site) es after.core rs commits
    here = subst (λ xs. HasAnswered plan (node_of plan w site) xs after.core rs commits) h.asked
        (subst (λ pl. (n : Node) → IsCoreOf host.core pl n → HasAnswered pl n entries after.core rs commits) h.seated.of_plan answered (node_of plan w site)
        (core_of_seat is_node plan w site host m h.seated))

    lines : lines_told number site (length output.sent.items) rs ≡ step_lines plan w p.number (Batch site inputs None)
    lines = told_lines moves plan steps number site inputs (length output.sent.items) rs h.next.planned.here h.next.counted (ap length h.tells.sent) here.replied

    messages : messages_told rs ≡ messages_in ts
    messages = ap messages_told here.replied ∙ messages_same ts

    refused : count_by is_refusal rs ≡ refusals_in ts
    refused = ap (count_by is_refusal) here.replied ∙ refusals_same ts

    sizes : volume (pass plan p (Batch site inputs None))
        ≡ (volume p + head_size p site + step_frame plan w (Batch site inputs None)) + sum_by message_size (messages_told rs) + length (lines_told number site (length output.sent.items) rs)
    sizes =
        tally.volume_pass plan p (Batch site inputs None)
        ∙ ap (λ k. volume p + k + step_frame plan w (Batch site inputs None) + sum_by message_size (messages_in ts) + length (step_lines plan w p.number (Batch site inputs None))) (head_same (slice_index_or p.opened site true))
        ∙ ap (λ ms. volume p + head_size p site + step_frame plan w (Batch site inputs None) + sum_by message_size ms + length (step_lines plan w p.number (Batch site inputs None))) (sym messages)
        ∙ ap (λ ls. volume p + head_size p site + step_frame plan w (Batch site inputs None) + sum_by message_size (messages_told rs) + length ls) (sym lines)

-- the replies of a batch have a spelling, since the step is one of a world that is reached
pub run_spelled : EachRecordIsSpellable → EachSentIsMessage → EachReplyIsSpellable → RecoveredIsNode → (plan : PlanData) (steps : List Step) (number site : ℕ) (inputs : List Planned)
    (host after : HostState) (entries : List Entry) (m : MemState) (output : Output) (rs items : List Reply) (commits : List CommitEvent)
    → IsBatchAt plan steps number site inputs None host entries m output
    → ((n : Node) → IsCoreOf host.core host.core.plan n → HasAnswered host.core.plan n entries after.core rs commits)
    → items ≡ rs → All IsSpellableReply items
run_spelled spellable messages replied is_node plan steps number site inputs host after entries m output rs items commits h answered same =
    subst (All IsSpellableReply) (sym (same ∙ here.replied)) (All-map IsSpellableReply (λ (t : Told). t.reply) ts spelled)
  where
    p : Progress
    p = progress plan steps

    w : World
    w = p.world

    es : List Entry
    es = entries_at plan w site inputs

    ts : List Told
    ts = replies plan (node_of plan w site) es

    here : HasAnswered plan (node_of plan w site) es after.core rs commits
    here = subst (λ xs. HasAnswered plan (node_of plan w site) xs after.core rs commits) h.asked
        (subst (λ pl. (n : Node) → IsCoreOf host.core pl n → HasAnswered pl n entries after.core rs commits) h.seated.of_plan answered (node_of plan w site)
        (core_of_seat is_node plan w site host m h.seated))

    reaches : StepsReach plan (pass plan p (Batch site inputs None)).world
    reaches = may_pass spellable messages plan p (Batch site inputs None) h.next.accepted h.next.reaches h.next.planned (unrefused_step p (Batch site inputs None) h.next.unrefused)

    all : All (λ t. IsSpellableReply t.reply) (w.told ++ ts)
    all = subst (λ v. All (λ t. IsSpellableReply t.reply) v.told) (sym reaches.reach) (replied plan reaches.events reaches.may h.next.accepted)

    spelled : All (λ t. IsSpellableReply t.reply) ts
    spelled = subst (All (λ t. IsSpellableReply t.reply)) (drop-append_seam w.told ts) (All-drop (λ t. IsSpellableReply t.reply) (length w.told) (w.told ++ ts) all)

-- the count of refusals stays in range
pub run_room : (plan : PlanData) (steps : List Step) (number site : ℕ) (inputs : List Planned) (host : HostState) (entries : List Entry) (m : MemState) (output : Output) (items rs : List Reply)
    → IsBatchAt plan steps number site inputs None host entries m output → length rs ≡ length entries → items ≡ rs → output.refusals + length items < 2 ^ 64
run_room plan steps number site inputs host entries m output items rs h count same =
    omega (
      arith,
      h.tells.refusals,
      count,
      ap length same,
      (tally.counted plan steps).refusals,
      volume_low (progress plan steps) (Batch site inputs None) h.next.unrefused,
      tally.lines_low (progress plan steps),
      batch_few plan steps number site inputs None entries h.asked h.next,
    )

-- want of memory behind a batch that was run
pub done_between : (plan : PlanData) (steps : List Step) (number site : ℕ) (inputs : List Planned) (host after : HostState) (entries : List Entry) (m m' : MemState) (output : Output)
    → IsBatchAt plan steps number site inputs None host entries m output
    → ((batches : List (List Entry)) → IsSeated host.core.plan host.core.site batches host m → IsSeated host.core.plan host.core.site (grown batches (journaled entries)) after m')
    → IsBetween plan (progress plan steps) (Batch site inputs None) m'
done_between plan steps number site inputs host after entries m m' output h seated =
    run_between plan steps number site inputs None host entries m m' output h (λ batches s. inr (seated_holds host.core.plan host.core.site _ after m' (seated batches s)))

-- The closing lines, and the report.
use Rattle.std.proofs.Common.{◌≡◌, ◌∙◌, zero-add, ap, refl, sym, subst, ℕ, ◌+◌, ◌*◌, ◌-◌, ◌^◌, ◌<◌, ◌≤◌, min, ◌⊎◌, inl, inr, List, [], ◌∷◌, ◌++◌, append_assoc, length, map, replicate, slice_index, Some, None}
use Rattle.std.specs.List.{flat_map, range_with_len}
use Rattle.std.proofs.lemmas.Bool.{cases_lt}
use Rattle.std.proofs.lemmas.List.{append-nil, get_or-replicate, get_or_past, length-replicate}
use Rattle.std.proofs.lemmas.Grind.{flat_map-append}
use Rattle.std.proofs.lemmas.List.Folds.{flat_map-map}
use Rattle.std.proofs.lemmas.List.FromFn.{map-range_with_len_more}
use Rattle.commit_rules.specs.declared.rules.Summary.{Summary}
use Rattle.commit_rules.specs.Core.{IsCoreOf}
use Rattle.commit_rules.specs.Outcome.{IsSummaryOf}
use Rattle.disk_store.specs.Memory.{MemState}
use Rattle.node_host.specs.Laws.{RecoveredIsNode}
use Rattle.node_host.specs.States.{HostState}
use Rattle.protocol_laws.specs.Moves.{BatchMovesOneNode}
use Rattle.helios_model.specs.declared.entries.Entry.{Entry}
use Rattle.helios_model.specs.Plans.{PlanData, count_of}
use Rattle.helios_model.specs.Node.{Node, clock, empty_node}
use Rattle.helios_model.specs.Step.{after_entries}
use Rattle.helios_model.specs.World.{World, journal_of, node_of}
use Rattle.schedule_text.specs.declared.steps.Step.{Step}
use Rattle.schedule_replay.specs.declared.report.Report.{Report}
use Rattle.schedule_replay.specs.Progress.{Progress, progress}
use Rattle.schedule_replay.specs.Replay.{IsReport}
use Rattle.schedule_replay.specs.Report.{commit_line, site_line, site_text}
use Rattle.schedule_replay.specs.Walks.{IsSeat, IsWalkAt}
use Rattle.schedule_replay.specs.WalkStates.{WalkState}
use Rattle.schedule_replay.proofs.Seated.{core_of_seat}

-- a host tells of its site's node
pub host_summary : RecoveredIsNode → (plan : PlanData) (p : Progress) (site : ℕ) (host : HostState) (m : MemState) → IsSeat plan p site (Some host) m → IsCoreOf host.core plan (node_of plan p.world site)
host_summary is_node plan p site host m h = core_of_seat is_node plan p.world site host m h.1

-- a site that was not opened has the empty node
pub none_node : (plan : PlanData) (w : World) (site : ℕ) → journal_of w site ≡ [] → node_of plan w site ≡ empty_node plan site
none_node plan w site none = ap (λ (batches : List (List Entry)). after_entries plan (empty_node plan site) (flat_map (λ batch. batch) batches)) none

zero_at : (n k : ℕ) → slice_index (replicate n 0) k ≡ 0
zero_at n k = by_place (cases_lt k n)
  where
    by_place : (k < n) ⊎ (n ≤ k) → slice_index (replicate n 0) k ≡ 0
    by_place (inl low) = get_or-replicate n k 0 0 low
    by_place (inr past) = get_or_past (replicate n 0) k 0 (rw length-replicate past)

empty_summary : (plan : PlanData) (site time : ℕ) → time ≡ 0 → IsSummaryOf plan (empty_node plan site) (record { time = time; log = 0; pending = 0 })
empty_summary plan site time is = record {
  time = is ∙ sym (zero_at (count_of plan * count_of plan) (site * count_of plan + site));
  log = refl;
  pending = refl;
}

pub none_summary : (plan : PlanData) (p : Progress) (site : ℕ) (m : MemState) (time : ℕ) → time ≡ 0 → IsSeat plan p site None m
    → IsSummaryOf plan (node_of plan p.world site) (record { time = time; log = 0; pending = 0 })
none_summary plan p site m time is h = subst (λ (n : Node). IsSummaryOf plan n (record { time = time; log = 0; pending = 0 })) (sym (none_node plan p.world site h.1)) (empty_summary plan site time is)

flat_range_more : (g : ℕ → List ℕ) (n : ℕ) → flat_map g (range_with_len 0 (n + 1)) ≡ flat_map g (range_with_len 0 n) ++ g n
flat_range_more g n =
    sym (flat_map-map g (λ k. k) (range_with_len 0 (n + 1)))
    ∙ ap (flat_map g) (map-range_with_len_more (λ k. k) 0 n n (zero-add n))
    ∙ flat_map-append g (map (λ k. k) (range_with_len 0 n)) (n ∷ [])
    ∙ ap (λ ls. ls ++ (g n ++ [])) (flat_map-map g (λ k. k) (range_with_len 0 n))
    ∙ ap (λ ls. flat_map g (range_with_len 0 n) ++ ls) (append-nil (g n))

-- the line of one more site
pub site_more : BatchMovesOneNode → (plan : PlanData) (w : World) (site : ℕ) (s : Summary) (start text text' : List ℕ) → IsSummaryOf plan (node_of plan w site) s
    → text' ≡ text ++ site_text site s.time s.log s.pending
    → text ≡ start ++ flat_map (λ k. site_line plan (node_of plan w k)) (range_with_len 0 site)
    → text' ≡ start ++ flat_map (λ k. site_line plan (node_of plan w k)) (range_with_len 0 (site + 1))
site_more law plan w site s start text text' is added so_far =
    let n : Node = node_of plan w site in
    let lines : ℕ → List ℕ = λ k. site_line plan (node_of plan w k) in
    added ∙ ap (λ t. t ++ site_text site s.time s.log s.pending) so_far
    ∙ ap (λ k. (start ++ flat_map lines (range_with_len 0 site)) ++ site_text k s.time s.log s.pending) (sym (law.site_stays plan w site))
    ∙ ap (λ k. (start ++ flat_map lines (range_with_len 0 site)) ++ site_text n.site k s.log s.pending) is.time
    ∙ ap (λ k. (start ++ flat_map lines (range_with_len 0 site)) ++ site_text n.site (clock plan n) k s.pending) is.log
    ∙ ap (λ k. (start ++ flat_map lines (range_with_len 0 site)) ++ site_text n.site (clock plan n) (min (length n.log) (2 ^ 64 - 1)) k) is.pending
    ∙ append_assoc start (flat_map lines (range_with_len 0 site)) (lines site)
    ∙ ap (λ ls. start ++ ls) (sym (flat_range_more lines site))

-- the report of a walk
pub report_stands : (plan : PlanData) (steps : List Step) (walk : WalkState) (bench : List MemState) (report : Report) → IsWalkAt plan steps walk bench
    → report.text ≡ walk.text ++ flat_map commit_line walk.commits ++ flat_map (λ k. site_line plan (node_of plan (progress plan steps).world k)) (range_with_len 0 (count_of plan))
    → report.commits ≡ walk.commits → report.refusals ≡ walk.refusals → IsReport plan steps report
report_stands plan steps walk bench report h text commits refusals =
    let sites : List ℕ = flat_map (λ k. site_line plan (node_of plan (progress plan steps).world k)) (range_with_len 0 (count_of plan)) in
    record {
      text =
          text
          ∙ append_assoc walk.text (flat_map commit_line walk.commits) sites
          ∙ ap (λ t. t ++ (flat_map commit_line walk.commits ++ sites)) h.stands.lines
          ∙ ap (λ events. (progress plan steps).lines ++ (flat_map commit_line events ++ sites)) h.stands.committed;
      commits = commits ∙ h.stands.committed;
      refusals = refusals ∙ h.stands.told;
    }

-- The id of each committed transaction has a spelling, since its Prepare stands in the log of its site.
use Rattle.std.proofs.Common.{◌≡◌, ◌<◌, ℕ, true, List, filter, Contains, refl, subst, eq-eqb}
use Rattle.std.proofs.lemmas.List.Elements.{All-contains}
use Rattle.helios_model.specs.declared.records.CommitEvent.{CommitEvent}
use Rattle.helios_model.specs.declared.records.Record.TheVariants.{Prepare}
use Rattle.helios_model.specs.Log.{commits}
use Rattle.helios_model.specs.Plans.{PlanData, IsAccepted, count_of}
use Rattle.helios_model.specs.Spellable.{IsSpellableId, IsSpellableRecord}
use Rattle.helios_model.specs.World.{World, first_world, is_own_commit, node_of, run}
use Rattle.protocol_laws.specs.Histories.{HistoryIsCommits}
use Rattle.protocol_laws.specs.Times.{EachCommitIsSpellable, RecordsAreSpellable}
use Rattle.protocol_laws.proofs.Committed.{event_of}
use Rattle.protocol_laws.proofs.Lists.{all_from, contains_filter, contains_from_filter}
use Rattle.protocol_laws.proofs.OneMore.{prepare_stands}
use Rattle.protocol_laws.proofs.Spelling.{each_record_is_spellable}
use Rattle.protocol_laws.proofs.WorldLaws.{each_history_is_commits}

module _ (plan : PlanData) (w : World) (accepted : IsAccepted plan) (is : HistoryIsCommits plan w)
    (spelled : (k : ℕ) → k < count_of plan → RecordsAreSpellable plan (node_of plan w k)) where
  of_site : (e : CommitEvent) (k : ℕ) → k < count_of plan → Contains (commits (node_of plan w k).log) e → IsSpellableId (count_of plan) e.prepare.id
  of_site e k low held =
      let stands : Contains (node_of plan w k).log (Prepare e.prepare) = prepare_stands (node_of plan w k).log e.prepare (event_of (node_of plan w k).log e held).prepared in
      (All-contains (IsSpellableRecord (count_of plan)) (node_of plan w k).log (Prepare e.prepare) (spelled k low accepted) stands).named

  commit_spelled : (e : CommitEvent) → Contains w.history e → IsSpellableId (count_of plan) e.prepare.id
  commit_spelled e held =
      let low : e.prepare.id.site < count_of plan = All-contains (λ e. e.prepare.id.site < count_of plan) w.history e is.sites held in
      let own : is_own_commit e.prepare.id.site e ≡ true = eq-eqb e.prepare.id.site e.prepare.id.site refl in
      let kept : Contains (filter (is_own_commit e.prepare.id.site) w.history) e = contains_filter (is_own_commit e.prepare.id.site) w.history e held own in
      let there : Contains (filter (is_own_commit e.prepare.id.site) (commits (node_of plan w e.prepare.id.site).log)) e =
      subst (λ (es : List CommitEvent). Contains es e) (is.own e.prepare.id.site low) kept in
      of_site e e.prepare.id.site low (contains_from_filter (is_own_commit e.prepare.id.site) (commits (node_of plan w e.prepare.id.site).log) e there).0

pub each_commit_is_spellable : EachCommitIsSpellable
each_commit_is_spellable plan events may accepted =
    all_from (λ e. IsSpellableId (count_of plan) e.prepare.id) (run plan (first_world plan) events).history
    (commit_spelled plan (run plan (first_world plan) events) accepted (each_history_is_commits plan events may)
    (λ k low. each_record_is_spellable plan events may k low))

-- A step that is planned and not refused may happen.
use Rattle.std.proofs.Common.{◌≡◌, ◌∙◌, ap, refl, sym, subst, true, false, Bool, ℕ, ◌<◌, ◌≤◌, All, IsSome, Option, Some, None, List, [], ◌∷◌, ◌++◌, fold, length, if◌then◌else◌, arith}
use Rattle.std.proofs.lemmas.Grind.{fold-append}
use Rattle.std.proofs.lemmas.List.Elements.{All-head, All-tail}
use Rattle.disk_store.specs.declared.fate.Stop.{Stop}
use Rattle.node_journal.specs.Appending.{is_kept}
use Rattle.node_host.specs.Journals.{AreAsked}
use Rattle.helios_model.specs.declared.entries.Entry.{Entry}
use Rattle.helios_model.specs.Plans.{PlanData, IsAccepted, count_of}
use Rattle.helios_model.specs.Spellable.{IsMessageOf, IsSpellableRecord}
use Rattle.helios_model.specs.World.{World, Event, Kept, Lost, IsBatch, MayEnd, MayHappen, MayRun, StepsReach, first_world, happens, journaled, node_of, run}
use Rattle.protocol_laws.specs.Times.{EachRecordIsSpellable}
use Rattle.protocol_laws.specs.Told.{EachSentIsMessage}
use Rattle.schedule_text.specs.Steps as text
use Rattle.schedule_text.specs.declared.planned.Planned.{Planned}
use Rattle.schedule_text.specs.declared.steps.Step.{Step}
use Rattle.schedule_text.specs.declared.steps.Step.TheVariants.{Batch, Restart}
use Rattle.schedule_replay.specs.Entries.{ending_of, entries_at, event_for}
use Rattle.schedule_replay.specs.Progress.{Progress, first_progress, pass, progress, reached}
use Rattle.schedule_replay.specs.Refusals.{first_refusal, inputs_refusal, refusal_from, refusal_of, step_refusal}
use Rattle.schedule_replay.proofs.Asked.{AreCurrentSpelled, asks_each, asks_journaled, current_spelled, each_released, inputs_asked, or_none}
use Rattle.schedule_replay.proofs.Passes.{unrefused_step}

-- ---- what holds in a world that permitted steps reach

pub sent_formed : EachSentIsMessage → (plan : PlanData) (w : World) → IsAccepted plan → StepsReach plan w → All (IsMessageOf (count_of plan)) w.sent
sent_formed law plan w accepted h = subst (λ v. All (IsMessageOf (count_of plan)) v.sent) (sym h.reach) (law plan h.events h.may accepted)

pub log_spelled : EachRecordIsSpellable → (plan : PlanData) (w : World) (site : ℕ) → IsAccepted plan → StepsReach plan w → site < count_of plan
    → All (IsSpellableRecord (count_of plan)) (node_of plan w site).log
log_spelled law plan w site accepted h low = subst (λ v. All (IsSpellableRecord (count_of plan)) (node_of plan v site).log) (sym h.reach) (law plan h.events h.may site low accepted)

pub versions_spelled : EachRecordIsSpellable → (plan : PlanData) (w : World) (site : ℕ) → IsAccepted plan → StepsReach plan w → site < count_of plan
    → AreCurrentSpelled (node_of plan w site).log
versions_spelled law plan w site accepted h low =
    current_spelled (count_of plan) (node_of plan w site).log accepted.limits.matrix.few (log_spelled law plan w site accepted h low)

-- ---- the entries of a batch that is not refused

-- as many as the inputs
pub entries_number : (plan : PlanData) (w : World) (number site : ℕ) (inputs : List Planned) → inputs_refusal w.sent number site inputs ≡ None
    → length (entries_at plan w site inputs) ≡ length inputs
entries_number plan w number site inputs unrefused = asks_each (node_of plan w site).log w.sent number site inputs unrefused

-- where the versions of the log have a spelling, all of them may be asked
pub entries_spelled : (plan : PlanData) (w : World) (number site : ℕ) (inputs : List Planned) (stop : Option Stop) → text.IsBatch plan site inputs stop
    → All (IsMessageOf (count_of plan)) w.sent → AreCurrentSpelled (node_of plan w site).log → inputs_refusal w.sent number site inputs ≡ None
    → AreAsked plan site (entries_at plan w site inputs)
entries_spelled plan w number site inputs stop h formed spelled unrefused =
    inputs_asked plan (node_of plan w site).log w.sent number site inputs spelled formed h.each unrefused

-- so it is in each world that permitted steps reach
pub entries_asked : EachRecordIsSpellable → EachSentIsMessage → (plan : PlanData) (w : World) (number site : ℕ) (inputs : List Planned) (stop : Option Stop) → IsAccepted plan → StepsReach plan w
    → text.IsBatch plan site inputs stop → inputs_refusal w.sent number site inputs ≡ None → AreAsked plan site (entries_at plan w site inputs)
entries_asked spellable messages plan w number site inputs stop accepted h batch unrefused =
    entries_spelled plan w number site inputs stop batch (sent_formed messages plan w accepted h) (versions_spelled spellable plan w site accepted h batch.here) unrefused

-- a batch that is stopped has some that are journaled
pub entries_journaled : (plan : PlanData) (w : World) (number site : ℕ) (inputs : List Planned) (stop : Option Stop) → text.IsBatch plan site inputs stop → IsSome stop
    → inputs_refusal w.sent number site inputs ≡ None → 1 ≤ length (journaled (entries_at plan w site inputs))
entries_journaled plan w number site inputs stop h some unrefused =
    asks_journaled (node_of plan w site).log w.sent number site inputs unrefused (h.journaled some)

-- ---- the steps of the world

pub may_run_push : (plan : PlanData) (w : World) (events : List Event) (e : Event) → MayRun plan w events → MayHappen plan (run plan w events) e → MayRun plan w (events ++ e ∷ [])
may_run_push plan w [] e may here = (here, tt)
may_run_push plan w (x ∷ xs) e may here = (may.0, may_run_push plan (happens plan w x) xs e may.1 here)

pub reach_first : (plan : PlanData) → StepsReach plan (first_progress plan).world
reach_first plan = record { events = []; may = tt; reach = refl }

-- one step more
pub reach_push : (plan : PlanData) (w : World) (e : Event) → StepsReach plan w → MayHappen plan w e → StepsReach plan (happens plan w e)
reach_push plan w e h here = record {
  events = h.events ++ e ∷ [];
  may = may_run_push plan (first_world plan) h.events e h.may (subst (λ v. MayHappen plan v e) h.reach here);
  reach = ap (λ v. happens plan v e) h.reach ∙ sym (fold-append (happens plan) (first_world plan) h.events (e ∷ []));
}

-- a batch that is not refused may happen, however it ends
may_end : (entries : List Entry) (stop : Option Stop) → (IsSome stop → 1 ≤ length (journaled entries)) → MayEnd entries (ending_of stop)
may_end entries None some = tt
may_end entries (Some stop) some = by_test (is_kept stop.call stop.keep) (some refl)
  where
    by_test : (b : Bool) → 1 ≤ length (journaled entries) → MayEnd entries (if b then Kept else Lost)
    by_test true h = h
    by_test false h = h

pub batch_may : (plan : PlanData) (w : World) (number site : ℕ) (inputs : List Planned) (stop : Option Stop) → text.IsBatch plan site inputs stop
    → AreAsked plan site (entries_at plan w site inputs) → inputs_refusal w.sent number site inputs ≡ None
    → IsBatch plan w site (entries_at plan w site inputs) (ending_of stop)
batch_may plan w number site inputs stop h asked unrefused =
    let as_many : length (entries_at plan w site inputs) ≡ length inputs = entries_number plan w number site inputs unrefused in
    record {
      here = h.here;
      some = omega (arith, as_many, h.some);
      few = omega (arith, as_many, h.few);
      each = asked;
      released = each_released w (node_of plan w site).log inputs;
      ends = may_end (entries_at plan w site inputs) stop (λ some. entries_journaled plan w number site inputs stop h some unrefused);
    }

-- what the entries of a batch may be, and no more of a restart
abbrev pub MayBeAskedBy : PlanData → World → Step → Type 0
MayBeAskedBy plan w (Batch site inputs stop) = AreAsked plan site (entries_at plan w site inputs)
MayBeAskedBy plan w (Restart site stop) = Unit {0}

step_may : (plan : PlanData) (w : World) (number : ℕ) (s : Step) → text.IsStep plan s → step_refusal w number s ≡ None → MayBeAskedBy plan w s → MayHappen plan w (event_for plan w s)
step_may plan w number (Batch site inputs stop) h unrefused asked = batch_may plan w number site inputs stop h asked unrefused
step_may plan w number (Restart site stop) h unrefused asked = h.here

-- permitted steps reach what one step more reaches
pub may_step : (plan : PlanData) (p : Progress) (s : Step) → StepsReach plan p.world → text.IsStep plan s → step_refusal p.world p.number s ≡ None
    → MayBeAskedBy plan p.world s → StepsReach plan (pass plan p s).world
may_step plan p s h is unrefused asked = reach_push plan p.world (event_for plan p.world s) h (step_may plan p.world p.number s is unrefused asked)

step_asked : EachRecordIsSpellable → EachSentIsMessage → (plan : PlanData) (w : World) (number : ℕ) (s : Step) → IsAccepted plan → StepsReach plan w → text.IsStep plan s
    → step_refusal w number s ≡ None → MayBeAskedBy plan w s
step_asked spellable messages plan w number (Batch site inputs stop) accepted h is unrefused = entries_asked spellable messages plan w number site inputs stop accepted h is unrefused
step_asked spellable messages plan w number (Restart site stop) accepted h is unrefused = tt

-- the same with no premise on the entries: the versions that they look up have a spelling
pub may_pass : EachRecordIsSpellable → EachSentIsMessage → (plan : PlanData) (p : Progress) (s : Step) → IsAccepted plan → StepsReach plan p.world → text.IsStep plan s
    → step_refusal p.world p.number s ≡ None → StepsReach plan (pass plan p s).world
may_pass spellable messages plan p s accepted h is unrefused = may_step plan p s h is unrefused (step_asked spellable messages plan p.world p.number s accepted h is unrefused)

-- ---- all steps of a schedule

reach_from : EachRecordIsSpellable → EachSentIsMessage → (plan : PlanData) (steps : List Step) (p : Progress) → IsAccepted plan → All (text.IsStep plan) steps → refusal_from plan p steps ≡ None
    → StepsReach plan p.world → StepsReach plan (fold (pass plan) p steps).world
reach_from spellable messages plan [] p accepted are unrefused h = h
reach_from spellable messages plan (s ∷ steps) p accepted are unrefused h =
    let both = or_none (refusal_of p s) (refusal_from plan (pass plan p s) steps) unrefused in
    reach_from spellable messages plan steps (pass plan p s) accepted (All-tail (text.IsStep plan) s steps are) both.1
    (may_pass spellable messages plan p s accepted h (All-head (text.IsStep plan) s steps are) (unrefused_step p s both.0))

pub reach_all : EachRecordIsSpellable → EachSentIsMessage → (plan : PlanData) (steps : List Step) → IsAccepted plan → All (text.IsStep plan) steps → first_refusal plan steps ≡ None
    → StepsReach plan (reached plan steps)
unfolding progress
reach_all spellable messages plan steps accepted are unrefused = reach_from spellable messages plan steps (first_progress plan) accepted are unrefused (reach_first plan)

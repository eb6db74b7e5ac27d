-- What a step makes of the journals, of what was sent and told, and of the history.
use Rattle.std.proofs.Common.{◌≡◌, ◌≢◌, ap, refl, Bool, true, false, ℕ, ◌<◌, Option, Some, None, List, [], ◌++◌, length, set, slice_index_or, if◌then◌else◌}
use Rattle.std.proofs.lemmas.List.{get_or-set_other, get_or-set_same, length-set}
use Rattle.disk_store.specs.declared.fate.Stop.{Stop}
use Rattle.node_journal.specs.Appending.{is_kept}
use Rattle.helios_model.specs.declared.entries.Entry.{Entry}
use Rattle.helios_model.specs.declared.records.CommitEvent.{CommitEvent}
use Rattle.helios_model.specs.Plans.{PlanData}
use Rattle.helios_model.specs.Step.{after_entries}
use Rattle.helios_model.specs.World.{World, Event, Ending, Done, Kept, Lost, grown, happens, journal_of, journaled, messages_in, node_of, own_commits, replies}
use Rattle.helios_model.specs.World.Event.{Batch as Batched, Restart as Restarted}
use Rattle.schedule_text.specs.declared.planned.Planned.{Planned}
use Rattle.schedule_text.specs.declared.steps.Step.TheVariants.{Batch, Restart}
use Rattle.schedule_replay.specs.Entries.{ending_of, entries_at, event_for}

-- the commits that these entries of a site make
abbrev pub commits_of : PlanData → World → ℕ → List Entry → List CommitEvent
commits_of plan w site entries = own_commits site (after_entries plan (node_of plan w site) entries).log (length (node_of plan w site).log)

pub ending_kept : (stop : Stop) → is_kept stop.call stop.keep ≡ true → ending_of (Some stop) ≡ Kept
ending_kept stop kept = rw kept refl

pub ending_lost : (stop : Stop) → is_kept stop.call stop.keep ≡ false → ending_of (Some stop) ≡ Lost
ending_lost stop lost = rw lost refl

-- ---- the journal of the site

pub journal_grown : (journals : List (List (List Entry))) (site : ℕ) (batches : List (List Entry)) → site < length journals → slice_index_or (set journals site batches) site [] ≡ batches
journal_grown journals site batches low = get_or-set_same journals site batches [] low

pub journal_done : (plan : PlanData) (w : World) (site : ℕ) (inputs : List Planned) → site < length w.journals
    → journal_of (happens plan w (event_for plan w (Batch site inputs None))) site ≡ grown (journal_of w site) (journaled (entries_at plan w site inputs))
journal_done plan w site inputs low = journal_grown w.journals site (grown (journal_of w site) (journaled (entries_at plan w site inputs))) low

pub journal_stopped : (plan : PlanData) (w : World) (site : ℕ) (inputs : List Planned) (stop : Stop) → site < length w.journals
    → journal_of (happens plan w (event_for plan w (Batch site inputs (Some stop)))) site
    ≡ (if is_kept stop.call stop.keep then grown (journal_of w site) (journaled (entries_at plan w site inputs)) else journal_of w site)
journal_stopped plan w site inputs stop low = by_test (is_kept stop.call stop.keep)
  where
    entries : List Entry
    entries = entries_at plan w site inputs

    by_test : (b : Bool) → journal_of (happens plan w (Batched site entries (if b then Kept else Lost))) site ≡ (if b then grown (journal_of w site) (journaled entries) else journal_of w site)
    by_test true = journal_grown w.journals site (grown (journal_of w site) (journaled entries)) low
    by_test false = refl

-- by how the batch ends
pub journal_added : (plan : PlanData) (w : World) (site : ℕ) (inputs : List Planned) (stop : Option Stop) → site < length w.journals → ending_of stop ≢ Lost
    → journal_of (happens plan w (event_for plan w (Batch site inputs stop))) site ≡ grown (journal_of w site) (journaled (entries_at plan w site inputs))
journal_added plan w site inputs stop low durable = by_ending (ending_of stop) durable
  where
    entries : List Entry
    entries = entries_at plan w site inputs

    by_ending : (ending : Ending) → ending ≢ Lost → journal_of (happens plan w (Batched site entries ending)) site ≡ grown (journal_of w site) (journaled entries)
    by_ending Done durable = journal_grown w.journals site (grown (journal_of w site) (journaled entries)) low
    by_ending Kept durable = journal_grown w.journals site (grown (journal_of w site) (journaled entries)) low
    by_ending Lost durable = absurd (durable refl)

pub journal_lost : (plan : PlanData) (w : World) (site : ℕ) (inputs : List Planned) (stop : Option Stop) → ending_of stop ≡ Lost
    → journal_of (happens plan w (event_for plan w (Batch site inputs stop))) site ≡ journal_of w site
journal_lost plan w site inputs stop lost = ap (λ ending. journal_of (happens plan w (Batched site (entries_at plan w site inputs) ending)) site) lost

-- ---- the journals of the other sites

pub journal_elsewhere : (plan : PlanData) (w : World) (site other : ℕ) (inputs : List Planned) (stop : Option Stop) → other ≢ site
    → journal_of (happens plan w (event_for plan w (Batch site inputs stop))) other ≡ journal_of w other
journal_elsewhere plan w site other inputs stop apart = by_ending (ending_of stop)
  where
    entries : List Entry
    entries = entries_at plan w site inputs

    by_ending : (ending : Ending) → journal_of (happens plan w (Batched site entries ending)) other ≡ journal_of w other
    by_ending Done = get_or-set_other w.journals site other (grown (journal_of w site) (journaled entries)) [] apart
    by_ending Kept = get_or-set_other w.journals site other (grown (journal_of w site) (journaled entries)) [] apart
    by_ending Lost = refl

pub journal_restarted : (plan : PlanData) (w : World) (site other : ℕ) (stop : Option Stop)
    → journal_of (happens plan w (event_for plan w (Restart site stop))) other ≡ journal_of w other
journal_restarted plan w site other stop = refl

-- the journals stay as many
pub journals_stay : (plan : PlanData) (w : World) (event : Event) → length (happens plan w event).journals ≡ length w.journals
journals_stay plan w (Batched site entries Done) = length-set w.journals site (grown (journal_of w site) (journaled entries))
journals_stay plan w (Batched site entries Kept) = length-set w.journals site (grown (journal_of w site) (journaled entries))
journals_stay plan w (Batched site entries Lost) = refl
journals_stay plan w (Restarted site) = refl

-- ---- what was sent and told, and the history

pub sent_done : (plan : PlanData) (w : World) (site : ℕ) (inputs : List Planned)
    → (happens plan w (event_for plan w (Batch site inputs None))).sent ≡ w.sent ++ messages_in (replies plan (node_of plan w site) (entries_at plan w site inputs))
sent_done plan w site inputs = refl

pub told_done : (plan : PlanData) (w : World) (site : ℕ) (inputs : List Planned)
    → (happens plan w (event_for plan w (Batch site inputs None))).told ≡ w.told ++ replies plan (node_of plan w site) (entries_at plan w site inputs)
told_done plan w site inputs = refl

pub history_done : (plan : PlanData) (w : World) (site : ℕ) (inputs : List Planned)
    → (happens plan w (event_for plan w (Batch site inputs None))).history ≡ w.history ++ commits_of plan w site (entries_at plan w site inputs)
history_done plan w site inputs = refl

pub sent_stopped : (plan : PlanData) (w : World) (site : ℕ) (inputs : List Planned) (stop : Stop)
    → (happens plan w (event_for plan w (Batch site inputs (Some stop)))).sent ≡ w.sent
sent_stopped plan w site inputs stop = by_test (is_kept stop.call stop.keep)
  where
    by_test : (b : Bool) → (happens plan w (Batched site (entries_at plan w site inputs) (if b then Kept else Lost))).sent ≡ w.sent
    by_test true = refl
    by_test false = refl

pub told_stopped : (plan : PlanData) (w : World) (site : ℕ) (inputs : List Planned) (stop : Stop)
    → (happens plan w (event_for plan w (Batch site inputs (Some stop)))).told ≡ w.told
told_stopped plan w site inputs stop = by_test (is_kept stop.call stop.keep)
  where
    by_test : (b : Bool) → (happens plan w (Batched site (entries_at plan w site inputs) (if b then Kept else Lost))).told ≡ w.told
    by_test true = refl
    by_test false = refl

pub history_stopped : (plan : PlanData) (w : World) (site : ℕ) (inputs : List Planned) (stop : Stop)
    → (happens plan w (event_for plan w (Batch site inputs (Some stop)))).history
    ≡ (if is_kept stop.call stop.keep then w.history ++ commits_of plan w site (entries_at plan w site inputs) else w.history)
history_stopped plan w site inputs stop = by_test (is_kept stop.call stop.keep)
  where
    entries : List Entry
    entries = entries_at plan w site inputs

    by_test : (b : Bool) → (happens plan w (Batched site entries (if b then Kept else Lost))).history ≡ (if b then w.history ++ commits_of plan w site entries else w.history)
    by_test true = refl
    by_test false = refl

pub history_kept : (plan : PlanData) (w : World) (site : ℕ) (inputs : List Planned) (stop : Stop) → is_kept stop.call stop.keep ≡ true
    → (happens plan w (event_for plan w (Batch site inputs (Some stop)))).history ≡ w.history ++ commits_of plan w site (entries_at plan w site inputs)
history_kept plan w site inputs stop kept = rw kept refl

pub history_lost : (plan : PlanData) (w : World) (site : ℕ) (inputs : List Planned) (stop : Stop) → is_kept stop.call stop.keep ≡ false
    → (happens plan w (event_for plan w (Batch site inputs (Some stop)))).history ≡ w.history
history_lost plan w site inputs stop lost = rw lost refl

-- a stop that loses its batch leaves the world as it is
pub world_lost : (plan : PlanData) (w : World) (site : ℕ) (inputs : List Planned) (stop : Stop) → is_kept stop.call stop.keep ≡ false
    → happens plan w (event_for plan w (Batch site inputs (Some stop))) ≡ w
world_lost plan w site inputs stop lost = rw lost refl

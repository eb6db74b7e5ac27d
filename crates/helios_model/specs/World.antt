-- Worlds: what all sites have journaled, told and committed, and the steps from one world to the next.
use Rattle.std.specs.Prelude.{◌≡◌, Bool, ℕ, ◌<◌, ◌≤◌, List, [], ◌∷◌, ◌++◌, length, nat_eq, filter, replicate, slice_index_or, slice_set, drop, fold, Option, Some, None, All, Contains}
use Rattle.std.specs.List.{filter_map, flat_map}
use Rattle.helios_model.specs.declared.entries.Entry.{Entry}
use Rattle.helios_model.specs.declared.entries.Input.{Input}
use Rattle.helios_model.specs.declared.entries.Input.TheVariants.{Get, Status, Request, Pull, Push}
use Rattle.helios_model.specs.declared.entries.Reply.{Reply}
use Rattle.helios_model.specs.declared.entries.Reply.TheVariants.{Prepared, Committed, Overwritten, Conflict, Value, State, Sent, Taken, ClockSpent, PoolFull}
use Rattle.helios_model.specs.declared.messages.Message.{Message}
use Rattle.helios_model.specs.declared.records.Record.{Record}
use Rattle.helios_model.specs.declared.records.CommitEvent.{CommitEvent}
use Rattle.helios_model.specs.Limits.{most_inputs}
use Rattle.helios_model.specs.Plans.{PlanData, count_of}
use Rattle.helios_model.specs.Log.{commit_in}
use Rattle.helios_model.specs.Node.{Node, empty_node}
use Rattle.helios_model.specs.Step.{MayBeAsked, step, after_entry, after_entries, is_journaled}

-- a reply that was released: its site, its input, and the length of the site's log just before that input
pub record Told : Type 0 where
  pub site : ℕ
  pub input : Input
  pub reply : Reply
  pub log_length : ℕ

-- the batches of each site's journal, the released messages, the released replies, and the commit events, each in their order
pub record World : Type 0 where
  pub journals : List (List (List Entry))
  pub sent : List Message
  pub told : List Told
  pub history : List CommitEvent

-- how a batch ends: made durable and answered, made durable and not answered, or lost
pub data Ending : Type 0 where
  Done : Ending
  Kept : Ending
  Lost : Ending

-- a step of the world: a site takes a batch, or starts again from its journal
pub data Event : Type 0 where
  Batch : ℕ → List Entry → Ending → Event
  Restart : ℕ → Event

abbrev pub first_world : PlanData → World
first_world plan = record { journals = replicate (count_of plan) []; sent = []; told = []; history = [] }

abbrev pub journal_of : World → ℕ → List (List Entry)
journal_of w site = slice_index_or w.journals site []

-- the entries of a site's journal, in their order
abbrev pub entries_of : World → ℕ → List Entry
entries_of w site = flat_map (λ batch. batch) (journal_of w site)

-- the site's node is what its journal's entries make of the empty node
abbrev pub node_of : PlanData → World → ℕ → Node
node_of plan w site = after_entries plan (empty_node plan site) (entries_of w site)

-- the replies to these entries, one after the other
abbrev pub replies : PlanData → Node → List Entry → List Told
replies plan n [] = []
replies plan n (e ∷ es) = record { site = n.site; input = e.input; reply = (step plan n e).reply; log_length = length n.log } ∷ replies plan (after_entry plan n e) es

abbrev pub journaled : List Entry → List Entry
journaled entries = filter (λ e. is_journaled e.input) entries

-- a batch without a journaled input leaves the journal as it is
abbrev pub grown : List (List Entry) → List Entry → List (List Entry)
grown batches [] = batches
grown batches (e ∷ es) = batches ++ (e ∷ es) ∷ []

abbrev pub is_own_commit : ℕ → CommitEvent → Bool
is_own_commit site e = nat_eq e.prepare.id.site site

-- the own Commits that stand in a log behind its first records
abbrev pub own_commits : ℕ → List Record → ℕ → List CommitEvent
own_commits site log old = filter (is_own_commit site) (filter_map (commit_in log) (drop old log))

-- the message of a reply
abbrev pub message_in : Reply → Option Message
message_in (Prepared id) = None
message_in (Committed id) = None
message_in (Overwritten key current) = None
message_in (Conflict id) = None
message_in (Value version value) = None
message_in (State state) = None
message_in (Sent m) = Some m
message_in Taken = None
message_in ClockSpent = None
message_in PoolFull = None

-- the messages of these replies, in their order
abbrev pub messages_in : List Told → List Message
messages_in told = filter_map (λ t. message_in t.reply) told

-- the world after a batch that was made durable and not answered: nothing is told or released
abbrev pub kept : PlanData → World → ℕ → List Entry → World
kept plan w site entries = record {
  journals = slice_set w.journals site (grown (journal_of w site) (journaled entries));
  sent = w.sent;
  told = w.told;
  history = w.history ++ own_commits site (after_entries plan (node_of plan w site) entries).log (length (node_of plan w site).log);
}

-- the world with these replies told, and their messages released
abbrev pub with_told : World → List Told → World
with_told w told = record {
  journals = w.journals;
  sent = w.sent ++ messages_in told;
  told = w.told ++ told;
  history = w.history;
}

-- the world after a batch that was made durable and answered
abbrev pub done : PlanData → World → ℕ → List Entry → World
done plan w site entries = with_told (kept plan w site entries) (replies plan (node_of plan w site) entries)

abbrev pub happens : PlanData → World → Event → World
happens plan w (Batch site entries Done) = done plan w site entries
happens plan w (Batch site entries Kept) = kept plan w site entries
happens plan w (Batch site entries Lost) = w
happens plan w (Restart site) = w

-- a message that is taken in was released before the batch
abbrev pub IsReleased : World → Input → Type 0
IsReleased w (Get key) = Unit {0}
IsReleased w (Status id) = Unit {0}
IsReleased w (Request ask) = Unit {0}
IsReleased w (Pull to) = Unit {0}
IsReleased w (Push m) = Contains w.sent m

-- only a batch that is journaled is lost, or kept without an answer
abbrev pub MayEnd : List Entry → Ending → Type 0
MayEnd entries Done = Unit {0}
MayEnd entries Kept = 1 ≤ length (journaled entries)
MayEnd entries Lost = 1 ≤ length (journaled entries)

-- one to sixteen inputs that this site of the plan may be asked, at any readings of its clock
pub record IsBatch (plan : PlanData) (w : World) (site : ℕ) (entries : List Entry) (ending : Ending) : Type 0 where
  pub here : site < count_of plan
  pub some : 1 ≤ length entries
  pub few : length entries ≤ most_inputs
  pub each : All (λ e. MayBeAsked plan site e.input) entries
  pub released : All (λ e. IsReleased w e.input) entries
  pub ends : MayEnd entries ending

-- what a step of the world must be
abbrev pub MayHappen : PlanData → World → Event → Type 0
MayHappen plan w (Batch site entries ending) = IsBatch plan w site entries ending
MayHappen plan w (Restart site) = site < count_of plan

abbrev pub run : PlanData → World → List Event → World
run plan w events = fold (happens plan) w events

-- each of the events may happen in the world that the ones before it made
abbrev pub MayRun : PlanData → World → List Event → Type 0
MayRun plan w [] = Unit {0}
MayRun plan w (e ∷ es) = MayHappen plan w e × MayRun plan (happens plan w e) es

-- permitted steps reach this world from the first one
pub record StepsReach (plan : PlanData) (w : World) : Type 0 where
  pub events : List Event
  pub may : MayRun plan (first_world plan) events
  pub reach : w ≡ run plan (first_world plan) events

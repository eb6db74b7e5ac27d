-- Each time in an id or a table is within the limits: what a site's log holds, and what it answers, has a spelling.
use Rattle.std.specs.Prelude.{ℕ, ◌^◌, ◌<◌, ◌≤◌, List, All}
use Rattle.helios_model.specs.declared.ids.TxnId.{TxnId}
use Rattle.helios_model.specs.declared.records.Record.{Record}
use Rattle.helios_model.specs.Limits.{last_time}
use Rattle.helios_model.specs.Plans.{PlanData, IsAccepted, count_of}
use Rattle.helios_model.specs.Transactions.{Asking, IsAsk, IsTransaction}
use Rattle.helios_model.specs.Node.{Node}
use Rattle.helios_model.specs.Request.{asked}
use Rattle.helios_model.specs.Spellable.{IsSpellableEntry, IsSpellableId, IsSpellableRecord, IsSpellableReply}
use Rattle.helios_model.specs.Step.{MayBeAsked}
use Rattle.helios_model.specs.World.{World, entries_of}
use Rattle.protocol_laws.specs.Reached.{InEachWorld, AtEachNode}

-- each entry of a site's journal is one that the site may be asked
abbrev pub EntriesMayBeAsked : PlanData → World → Type 0
EntriesMayBeAsked plan w = (k : ℕ) → k < count_of plan → All (λ e. MayBeAsked plan k e.input) (entries_of w k)

abbrev pub EachEntryMayBeAsked : Type 0
EachEntryMayBeAsked = InEachWorld EntriesMayBeAsked

-- each entry of a site's journal is one that a journal keeps, and has a spelling at any reading that a clock can show
abbrev pub EntriesAreSpellable : PlanData → World → Type 0
EntriesAreSpellable plan w = (k : ℕ) → k < count_of plan → All (λ e. e.reading < 2 ^ 64 → IsSpellableEntry (count_of plan) e) (entries_of w k)

abbrev pub EachEntryIsSpellable : Type 0
EachEntryIsSpellable = InEachWorld EntriesAreSpellable

-- no time of a site's table is above the last one
abbrev pub TableIsSmall : PlanData → Node → Type 0
TableIsSmall plan n = All (λ time. time ≤ last_time) n.table

abbrev pub EachTableIsSmall : Type 0
EachTableIsSmall = AtEachNode TableIsSmall

-- each record of a site's log has a spelling, so each id in it has a time from 1 to the last
abbrev pub RecordsAreSpellable : PlanData → Node → Type 0
RecordsAreSpellable plan n = IsAccepted plan → All (IsSpellableRecord (count_of plan)) n.log

abbrev pub EachRecordIsSpellable : Type 0
EachRecordIsSpellable = AtEachNode RecordsAreSpellable

-- the id of each committed transaction has a spelling, so its time is from 1 to the last
abbrev pub CommitsAreSpellable : PlanData → World → Type 0
CommitsAreSpellable plan w = IsAccepted plan → All (λ e. IsSpellableId (count_of plan) e.prepare.id) w.history

abbrev pub EachCommitIsSpellable : Type 0
EachCommitIsSpellable = InEachWorld CommitsAreSpellable

-- each released reply has a spelling
abbrev pub RepliesAreSpellable : PlanData → World → Type 0
RepliesAreSpellable plan w = IsAccepted plan → All (λ t. IsSpellableReply t.reply) w.told

abbrev pub EachReplyIsSpellable : Type 0
EachReplyIsSpellable = InEachWorld RepliesAreSpellable

-- what a request within the limits becomes is a transaction within the limits, whatever the log
abbrev pub AskedIsTransaction : Type 0
AskedIsTransaction = (log : List Record) (id : TxnId) (ask : Asking) → IsAsk ask.reads ask.puts
    → IsTransaction (asked log id ask).reads (asked log id ask).writes

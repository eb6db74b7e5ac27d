-- What holds of every node within the limits, and of which transactions are unfinished in a log.
use Rattle.std.specs.Prelude.{◌≡◌, ◌≢◌, ℕ, ◌<◌, ◌≤◌, not, List, [], ◌∷◌, ◌++◌, None, filter, All, if◌then◌else◌}
use Rattle.helios_model.specs.declared.entries.Entry.{Entry}
use Rattle.helios_model.specs.declared.ids.TxnId.{TxnId}
use Rattle.helios_model.specs.declared.records.Record.{Record}
use Rattle.helios_model.specs.declared.records.Record.TheVariants.{Prepare}
use Rattle.helios_model.specs.Limits.{most_sites}
use Rattle.helios_model.specs.Log.{current, current_value, ends, finished, is_own, origin, own_time, prepare_in, unfinished}
use Rattle.helios_model.specs.Node.{Node, clock, empty_node, known, with_clock}
use Rattle.helios_model.specs.Plans.{PlanData, count_of}
use Rattle.helios_model.specs.Request.{asked, entered}
use Rattle.helios_model.specs.Settle.{is_reached, ready}
use Rattle.helios_model.specs.Spellable.{IsSpellableReply, IsSpellableVersion}
use Rattle.helios_model.specs.Step.{MayBeAsked, step}
use Rattle.helios_model.specs.Texts.{IsValue}
use Rattle.helios_model.specs.Transactions.{Asking, IsAsk, IsTransaction, Transaction}
use Rattle.node_limits.specs.Limits.{IsAfter, IsSoundNode, IsWithinLimits, MayTake}

-- a site that has heard and done nothing is within the limits
abbrev pub EmptyNodeIsWithinLimits : Type 0
EmptyNodeIsWithinLimits = (plan : PlanData) (site : ℕ) → count_of plan ≤ most_sites → site < count_of plan → IsWithinLimits plan (empty_node plan site)

-- whatever a node within the limits is asked, it stays within them
abbrev pub StepKeepsLimits : Type 0
StepKeepsLimits = (plan : PlanData) (n : Node) (e : Entry) → IsWithinLimits plan n → MayBeAsked plan n.site e.input → IsWithinLimits plan (step plan n e).node

-- and its reply has a spelling
abbrev pub ReplyIsSpellable : Type 0
ReplyIsSpellable = (plan : PlanData) (n : Node) (e : Entry) → IsWithinLimits plan n → MayBeAsked plan n.site e.input → IsSpellableReply (step plan n e).reply

-- a step leaves a node at its site
abbrev pub StepKeepsSite : Type 0
StepKeepsSite = (plan : PlanData) (n : Node) (e : Entry) → (step plan n e).node.site ≡ n.site

-- the current version of a key has a spelling
abbrev pub CurrentVersionIsSpellable : Type 0
CurrentVersionIsSpellable = (plan : PlanData) (n : Node) (key : List ℕ) → IsWithinLimits plan n → IsSpellableVersion (current n.log key)

-- the current value of a key is no longer than a value may be
abbrev pub CurrentValueIsValue : Type 0
CurrentValueIsValue = (plan : PlanData) (n : Node) (key : List ℕ) → IsSoundNode plan n → IsValue (current_value n.log key)

-- what a request within the limits becomes is a transaction within the limits
abbrev pub AskedIsTransaction : Type 0
AskedIsTransaction = (log : List Record) (id : TxnId) (ask : Asking) → IsAsk ask.reads ask.puts → IsTransaction (asked log id ask).reads (asked log id ask).writes

-- an own record above the clock comes after all that the log has of its site
abbrev pub OwnRecordComesAfter : Type 0
OwnRecordComesAfter = (plan : PlanData) (n : Node) (r : Record) → IsSoundNode plan n → origin r ≡ n.site → clock plan n < own_time r → IsAfter n.log r

-- each record of a message may be taken, whatever the node's clock has come to
abbrev pub ArrivingRecordsMayBeTaken : Type 0
ArrivingRecordsMayBeTaken = (plan : PlanData) (n : Node) (time : ℕ) (records : List Record) → IsSoundNode plan n
    → All (MayTake n.site (known plan (with_clock plan n time) n.site) n.log) records

-- behind a Commit or an Abort the transactions are unfinished that it does not end
abbrev pub EndLeavesTheRest : Type 0
EndLeavesTheRest = (log : List Record) (r : Record) → prepare_in r ≡ None → unfinished (log ++ r ∷ []) ≡ filter (λ p. not (ends p.id r)) (unfinished log)

-- a Prepare ends nothing, and its own transaction comes last where nothing before has ended it
abbrev pub PrepareWaitsBehindTheRest : Type 0
PrepareWaitsBehindTheRest = (log : List Record) (p : Transaction) → unfinished (log ++ Prepare p ∷ []) ≡ unfinished log ++ filter (λ q. not (finished log q.id)) (p ∷ [])

-- of the site's own ones too, in their order
abbrev pub EndLeavesTheOtherOwn : Type 0
EndLeavesTheOtherOwn = (site : ℕ) (log : List Record) (r : Record) → prepare_in r ≡ None
    → filter (is_own site) (unfinished (log ++ r ∷ [])) ≡ filter (λ p. not (ends p.id r)) (filter (is_own site) (unfinished log))

-- where the node's own time changes, what it knows of the others stays
abbrev pub ClockLeavesOtherTimes : Type 0
ClockLeavesOtherTimes = (plan : PlanData) (n : Node) (time k : ℕ) → k ≢ n.site → known plan (with_clock plan n time) n.site k ≡ known plan n n.site k

-- in a node within the limits that takes a new own transaction, made after all that its log has of the site, none of its own
-- open ones commits but the new one, where the node has heard so far
abbrev pub NewOneAloneMayCommit : Type 0
NewOneAloneMayCommit = (plan : PlanData) (n : Node) (p : Transaction) → IsWithinLimits plan n → p.id.site ≡ n.site → IsAfter n.log (Prepare p)
    → ready plan (entered plan n p) ≡ (if is_reached plan n p.id.time then p.id ∷ [] else [])

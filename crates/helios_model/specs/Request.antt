-- The rules of a request, in their order: no room, the first stale read, the first conflict; else it is taken.
use Rattle.std.specs.Prelude.{ℕ, List, Option, Some, None, nat_le, not, find, map, length, if◌then◌else◌}
use Rattle.std.specs.Option.{option_map, option_or}
use Rattle.helios_model.specs.declared.ids.TxnId.{TxnId}
use Rattle.helios_model.specs.declared.transactions.ReadItem.{ReadItem}
use Rattle.helios_model.specs.declared.transactions.PutItem.{PutItem}
use Rattle.helios_model.specs.declared.transactions.WriteItem.{WriteItem}
use Rattle.helios_model.specs.declared.records.Record.{Record}
use Rattle.helios_model.specs.declared.records.Record.TheVariants.{Prepare}
use Rattle.helios_model.specs.declared.entries.Reply.{Reply}
use Rattle.helios_model.specs.declared.entries.Reply.TheVariants.{Prepared, Committed, Overwritten, Conflict, PoolFull}
use Rattle.helios_model.specs.Limits.{most_open}
use Rattle.helios_model.specs.Ids.{same_version}
use Rattle.helios_model.specs.Transactions.{Transaction, Asking, keys_conflict, touched_by, touched_by_ask}
use Rattle.helios_model.specs.Plans.{PlanData}
use Rattle.helios_model.specs.Log.{current, finished, unfinished}
use Rattle.helios_model.specs.Node.{Node, Stepped, next_time, own_open, with_clock, with_record}
use Rattle.helios_model.specs.Settle.{settle}

-- first, there is no room for one more own transaction
abbrev pub room_refusal : Node → Option Reply
room_refusal n = if nat_le most_open (length (own_open n)) then Some PoolFull else None

-- the first read whose version is not the current one
abbrev pub stale_read : List Record → List ReadItem → Option ReadItem
stale_read log reads = find (λ r. not (same_version r.version (current log r.key))) reads

-- second, a read is stale: the current version is named
abbrev pub stale_refusal : List Record → Asking → Option Reply
stale_refusal log ask = option_map (λ r. Overwritten r.key (current log r.key)) (stale_read log ask.reads)

-- the first unfinished transaction, in log order, that conflicts with what is asked
abbrev pub clash : List Record → Asking → Option Transaction
clash log ask = find (λ q. keys_conflict (touched_by_ask ask) (touched_by q)) (unfinished log)

-- third, an unfinished transaction conflicts
abbrev pub clash_refusal : List Record → Asking → Option Reply
clash_refusal log ask = option_map (λ q. Conflict q.id) (clash log ask)

-- the first of the three that applies
abbrev pub refusal : Node → Asking → Option Reply
refusal n ask = option_or (room_refusal n) (option_or (stale_refusal n.log ask) (clash_refusal n.log ask))

-- the id that the node gives next
abbrev pub next_id : PlanData → Node → ℕ → TxnId
next_id plan n reading = record { site = n.site; time = next_time plan n reading }

-- a write, with the version that it overwrites
abbrev pub write_at : List Record → PutItem → WriteItem
write_at log p = record { key = p.key; value = p.value; over = current log p.key }

-- the transaction that a request asks for, under this id
abbrev pub asked : List Record → TxnId → Asking → Transaction
asked log id ask = record { id = id; reads = ask.reads; writes = map (write_at log) ask.puts }

-- the node with a new own transaction
abbrev pub entered : PlanData → Node → Transaction → Node
entered plan n p = with_clock plan (with_record n (Prepare p)) p.id.time

abbrev pub taken_reply : List Record → TxnId → Reply
taken_reply log id = if finished log id then Committed id else Prepared id

-- else the transaction is taken, and what can commit commits
abbrev pub accept : PlanData → Node → Transaction → Stepped
accept plan n p = record { reply = taken_reply (settle plan (entered plan n p)).log p.id; node = settle plan (entered plan n p) }

-- a refusal leaves the node as it is
abbrev pub unless_refused : PlanData → Node → Transaction → Option Reply → Stepped
unless_refused plan n p (Some reply) = record { reply = reply; node = n }
unless_refused plan n p None = accept plan n p

abbrev pub request : PlanData → Node → ℕ → Asking → Stepped
request plan n reading ask = unless_refused plan n (asked n.log (next_id plan n reading) ask) (refusal n ask)

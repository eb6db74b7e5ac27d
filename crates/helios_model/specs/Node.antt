-- A site's node: its number, its whole log and its table of times.
use Rattle.std.specs.Prelude.{Bool, ℕ, ◌+◌, ◌*◌, List, [], ◌∷◌, ◌++◌, Option, Some, None, ◌&&◌, nat_eq, nat_le, min, max, replicate, if◌then◌else◌, find, filter, is_some}
use Rattle.helios_model.specs.declared.ids.TxnId.{TxnId}
use Rattle.helios_model.specs.declared.records.Record.{Record}
use Rattle.helios_model.specs.declared.records.Record.TheVariants.{Prepare, Commit, Abort}
use Rattle.helios_model.specs.declared.entries.Reply.{Reply}
use Rattle.helios_model.specs.declared.entries.State.{State}
use Rattle.helios_model.specs.declared.entries.State.TheVariants.{Pending, Committed, Aborted, Unknown}
use Rattle.helios_model.specs.Limits.{last_reading, spent_time}
use Rattle.helios_model.specs.Transactions.{Transaction}
use Rattle.helios_model.specs.Grid.{at, put}
use Rattle.helios_model.specs.Plans.{PlanData, count_of}
use Rattle.helios_model.specs.Log.{ends, is_own, prepare_of, unfinished}

-- a site: its number, its whole log in order of arrival, and its table of times, row after row
pub record Node : Type 0 where
  pub site : ℕ
  pub log : List Record
  pub table : List ℕ

-- a node's answer to an input, and the node after it
pub record Stepped : Type 0 where
  pub reply : Reply
  pub node : Node

abbrev pub empty_node : PlanData → ℕ → Node
empty_node plan site = record { site = site; log = []; table = replicate (count_of plan * count_of plan) 0 }

-- up to when site j knows site k, as far as this node knows
abbrev pub known : PlanData → Node → ℕ → ℕ → ℕ
known plan n j k = at (count_of plan) n.table j k

-- the node's own time
abbrev pub clock : PlanData → Node → ℕ
clock plan n = known plan n n.site n.site

abbrev pub with_clock : PlanData → Node → ℕ → Node
with_clock plan n time = record { site = n.site; log = n.log; table = put (count_of plan) n.table n.site n.site time }

abbrev pub with_record : Node → Record → Node
with_record n r = record { site = n.site; log = n.log ++ r ∷ []; table = n.table }

-- a reading that is too great counts as the greatest that does
abbrev pub clamp : ℕ → ℕ
clamp reading = min reading last_reading

-- the time of a new own record
abbrev pub next_time : PlanData → Node → ℕ → ℕ
next_time plan n reading = max (clamp reading) (clock plan n + 1)

-- the site's clock has come to its end
abbrev pub is_spent : PlanData → Node → Bool
is_spent plan n = nat_le spent_time (clock plan n)

-- the node's own unfinished transactions, in log order
abbrev pub own_open : Node → List Transaction
own_open n = filter (is_own n.site) (unfinished n.log)

-- how a transaction ended
abbrev pub ending_of : Option Record → State
ending_of None = Pending
ending_of (Some (Prepare p)) = Pending
ending_of (Some (Commit id time)) = Committed
ending_of (Some (Abort id time cause)) = Aborted cause

-- what is known at its own site of a transaction
abbrev pub status : Node → TxnId → State
status n id = if nat_eq id.site n.site && is_some (prepare_of n.log id) then ending_of (find (ends id) n.log) else Unknown

-- Pull and Push: what a node sends to another site, and how it takes a message in.
use Rattle.std.specs.Prelude.{ℕ, List, max, map}
use Rattle.std.specs.List.{range_with_len}
use Rattle.helios_model.specs.declared.records.Record.{Record}
use Rattle.helios_model.specs.declared.messages.Message.{Message}
use Rattle.helios_model.specs.declared.entries.Reply.TheVariants.{Sent, Taken}
use Rattle.helios_model.specs.Plans.{PlanData, count_of}
use Rattle.helios_model.specs.Exchange.{Intake, cover_at, left_off, merged, sent_records, take_all}
use Rattle.helios_model.specs.Node.{Node, Stepped, clamp, clock, known, with_clock}
use Rattle.helios_model.specs.Settle.{settle}

-- the node's clock comes at least to the reading
abbrev pub advanced : PlanData → Node → ℕ → Node
advanced plan n reading = with_clock plan n (max (clock plan n) (clamp reading))

-- the cover of what a node sends to another site, for each site in turn
abbrev pub cover_for : PlanData → Node → ℕ → List ℕ
cover_for plan n to = map (cover_at (known plan n n.site) (left_off (known plan n to) n.log)) (range_with_len 0 (count_of plan))

-- what a node sends to another site: its table, and the first of the records that the other site is not known to have
abbrev pub message_to : PlanData → Node → ℕ → Message
message_to plan n to = record {
  from = n.site;
  to = to;
  count = count_of plan;
  table = n.table;
  cover = cover_for plan n to;
  records = sent_records (known plan n to) n.log;
}

abbrev pub sent_by : PlanData → Node → ℕ → Stepped
sent_by plan n to = record { reply = Sent (message_to plan n to); node = n }

abbrev pub pull : PlanData → Node → ℕ → ℕ → Stepped
pull plan n reading to = sent_by plan (advanced plan n reading) to

abbrev pub intake_of : PlanData → Node → Intake
intake_of plan n = record { log = n.log; clock = clock plan n }

-- the node with what its log and its clock became
abbrev pub with_intake : PlanData → Node → Intake → Node
with_intake plan n a = with_clock plan (record { site = n.site; log = a.log; table = n.table }) a.clock

-- first, the message's records are taken
abbrev pub with_records : PlanData → Node → List Record → Node
with_records plan n records = with_intake plan n (take_all n.site (known plan n n.site) (intake_of plan n) records)

-- second, its times
abbrev pub with_times : PlanData → Node → Message → Node
with_times plan n m = record { site = n.site; log = n.log; table = merged (count_of plan) n.site n.table m.table m.cover }

abbrev pub arrived : PlanData → Node → Message → Node
arrived plan n m = with_times plan (with_records plan n m.records) m

-- third, what can commit commits
abbrev pub push : PlanData → Node → ℕ → Message → Stepped
push plan n reading m = record { reply = Taken; node = settle plan (arrived plan (advanced plan n reading) m) }

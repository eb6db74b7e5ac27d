-- A world as a cluster: a table's entry is looked up within the plan, and is 0 outside.
use Rattle.std.specs.Prelude.{ℕ, List, ◌&&◌, nat_lt, if◌then◌else◌, slice_index, map}
use Rattle.helios_model.specs.declared.messages.Message.{Message}
use Rattle.helios_model.specs.Grid.{at}
use Rattle.helios_model.specs.Plans.{PlanData, count_of}
use Rattle.helios_model.specs.Node.{Node}
use Rattle.helios_model.specs.World.{World, node_of}
use Rattle.protocol_laws.specs.Clusters.{Cluster, Letter}

-- a time of two of so many sites, and 0 where one of them is not among them
abbrev pub within : ℕ → ℕ → ℕ → ℕ → ℕ
within count a b time = if nat_lt a count && nat_lt b count then time else 0

-- a table of so many sites
abbrev pub table_in : ℕ → List ℕ → ℕ → ℕ → ℕ
table_in count table a b = within count a b (at count table a b)

abbrev pub table_of : PlanData → Node → ℕ → ℕ → ℕ
table_of plan n = table_in (count_of plan) n.table

abbrev pub cover_in : ℕ → List ℕ → ℕ → ℕ
cover_in count cover k = if nat_lt k count then slice_index cover k else 0

abbrev pub letter_of : PlanData → Message → Letter
letter_of plan m = record {
  sender = m.from;
  receiver = m.to;
  table = table_in (count_of plan) m.table;
  cover = cover_in (count_of plan) m.cover;
  records = m.records;
}

abbrev pub letters_of : PlanData → List Message → List Letter
letters_of plan messages = map (letter_of plan) messages

abbrev pub cluster_of : PlanData → World → Cluster
cluster_of plan w = record {
  log = λ i. (node_of plan w i).log;
  tab = λ i. table_of plan (node_of plan w i);
  sent = letters_of plan w.sent;
  history = w.history;
}

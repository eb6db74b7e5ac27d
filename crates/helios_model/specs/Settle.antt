-- What commits: the own open transactions past whose offsets the node has heard of every other site.
use Rattle.std.specs.Prelude.{Bool, ℕ, ◌+◌, List, nat_eq, ◌||◌, filter, map, fold}
use Rattle.std.specs.List.{list_all, range_with_len}
use Rattle.helios_model.specs.declared.ids.TxnId.{TxnId}
use Rattle.helios_model.specs.declared.records.Record.TheVariants.{Commit}
use Rattle.helios_model.specs.Plans.{PlanData, count_of}
use Rattle.helios_model.specs.Offset.{is_past}
use Rattle.helios_model.specs.Node.{Node, known, clock, with_clock, with_record, own_open}

-- the node has heard of every other site far enough past this time
abbrev pub is_reached : PlanData → Node → ℕ → Bool
is_reached plan n time = list_all (λ j. nat_eq j n.site || is_past plan n.site j time (known plan n n.site j)) (range_with_len 0 (count_of plan))

-- the ids of the own unfinished transactions that commit now, in log order
abbrev pub ready : PlanData → Node → List TxnId
ready plan n = map (λ p. p.id) (filter (λ p. is_reached plan n p.id.time) (own_open n))

-- a Commit at the next time
abbrev pub commit_one : PlanData → Node → TxnId → Node
commit_one plan n id = with_clock plan (with_record n (Commit id (clock plan n + 1))) (clock plan n + 1)

abbrev pub settle : PlanData → Node → Node
settle plan n = fold (commit_one plan) n (ready plan n)

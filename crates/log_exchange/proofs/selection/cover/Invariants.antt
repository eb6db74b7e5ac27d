use Rattle.std.proofs.Common.{◌≡◌, map}
use Rattle.std.specs.List.{range_with_len}
use Rattle.time_table.specs.Table.{time_at}
use Rattle.log_exchange.specs.Heads.{covered_to, head_of}
use Rattle.log_exchange.proofs.selection.cover.Given as goal

abbrev pub invariant-loop-k : goal.invariant-loop-k
invariant-loop-k l = l.told.items ≡ map (λ k. covered_to (time_at l.t l.own k) (head_of l.backlog l.heads k)) (range_with_len 0 l.k)

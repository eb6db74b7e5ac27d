use Rattle.std.proofs.Common.{nat_le, rules}
use Rattle.std.proofs.lemmas.List.Sorted.{IsPartitionPoint-from_clause}
use Rattle.log_exchange.proofs.Passing.{partitioned, point_is}
use Rattle.log_exchange.proofs.run.Run.first_due.Goals as goal

pub returns-then-self : goal.returns-then-self
returns-then-self c =
    point_is c.args.known c.self.inside.stamps.items _ _ c.self.view_is
    (IsPartitionPoint-from_clause (λ s. nat_le s.time c.args.known) c.self.inside.stamps.items _ c.partition_point.ensures.partitioned
    (partitioned c.args.known c.self.inside.stamps.items (c.self.invariant.rise c.if-self.true)) (λ a r f' called. search rules))

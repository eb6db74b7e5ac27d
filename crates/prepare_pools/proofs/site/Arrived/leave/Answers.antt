use Rattle.std.proofs.Common.{sym}
use Rattle.prepare_pools.proofs.Times.{left, left_nothing}
use Rattle.prepare_pools.proofs.site.Arrived.leave.Goals as goal

pub invariant_of-self : goal.invariant_of-self
invariant_of-self c =
    (left _ _ c.in-Some.arrival c.args.time _ _ _ c.self.view_is c.self.invariant (sym c.in-Some.ensures.value)
    c.remove-in-Some.ensures.entries c.in-Some.ensures.updates.0).1

pub returns-in-Some-clause-left : goal.returns-in-Some-clause-left
returns-in-Some-clause-left c =
    (left _ _ c.in-Some.arrival c.args.time _ _ _ c.self.view_is c.self.invariant (sym c.in-Some.ensures.value)
    c.remove-in-Some.ensures.entries c.in-Some.ensures.updates.0).0

pub returns-in-None-clause-left : goal.returns-in-None-clause-left
returns-in-None-clause-left c = left_nothing _ _ c.args.time _ c.self.view_is c.self.invariant (sym c.in-None.ensures.value)

use Rattle.prepare_pools.proofs.Times.{entered}
use Rattle.prepare_pools.proofs.site.Arrived.enter.Goals as goal

pub invariant_of-self-in-Ok : goal.invariant_of-self-in-Ok
invariant_of-self-in-Ok c =
    (entered _ _ c.args.arrival c.args.time _ _ _ c.self.view_is c.self.invariant c.requires.last c.requires.absent c.in-Ok.ensures.entries c.in_ok-insert.ensures.updates.0).1

pub returns-in-Ok-clause-entered : goal.returns-in-Ok-clause-entered
returns-in-Ok-clause-entered c =
    (entered _ _ c.args.arrival c.args.time _ _ _ c.self.view_is c.self.invariant c.requires.last c.requires.absent c.in-Ok.ensures.entries c.in_ok-insert.ensures.updates.0).0

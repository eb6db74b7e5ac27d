use Rattle.node_host.proofs.Logs.{log_through}
use Rattle.node_host.proofs.fresh.Fresh.records_behind.Goals as goal

pub returns-clause-ends : goal.returns-clause-ends
returns-clause-ends g c =
    log_through c.args.self.plan c.args.self.site (g.D.Disk.state c.args.disk.now) _ c.in_ok-recovery.recovery _ c.in_ok-recovery.ensures.through c.unwrap.ensures

use Rattle.std.proofs.Common.{refl}
use Rattle.std.proofs.lemmas.Result.{err_from_is_err_and}
use Rattle.node_host.proofs.Standing.{ends_stopped, ends_through, rest_first, stands_for_some, stands_through}
use Rattle.node_host.proofs.fresh.Fresh.go_on.Goals as goal

pub returns-in_err-recovery-clause-ends : goal.returns-in_err-recovery-clause-ends
returns-in_err-recovery-clause-ends g c =
    let p = err_from_is_err_and c.from_residual.result c.from_residual.ensures.1 in
    rw (p.1, p.2)
    (ends_stopped c.args.self.plan c.args.self.site c.args.reading.limit c.in_err-recovery.field-0.0 (g.D.Disk.state c.args.disk.now) c.in_err-recovery.ensures.stops)

pub returns-clause-ends : goal.returns-clause-ends
returns-clause-ends g c =
    ends_through c.args.self.plan c.args.self.site (g.D.Disk.state c.args.disk.now) c.in_ok-recovery.journal.gate c.in_ok-recovery.recovery c.in_ok-recovery.ensures.through
    c.one_list.ensures c.args.reading.limit

pub returns-clause-stands : goal.returns-clause-stands
returns-clause-stands g c =
    stands_through c.args.self.plan c.args.self.site (g.D.Disk.state c.args.disk.now) c.in_ok-recovery.journal.gate c.in_ok-recovery.recovery c.in_ok-recovery.ensures.through
    c.one_list.ensures _ (g.D.Disk.state c.recover.new.disk) c.recover.ensures.same
    (rest_first c.args.payload c.args.reading.gate (g.D.Disk.state c.args.disk.now) c.requires.begins)
    refl refl refl refl c.in_ok-recovery.ensures.plan c.in_ok-recovery.ensures.site

pub returns-clause-node : goal.returns-clause-node
returns-clause-node g c =
    stands_for_some c.args.self.plan c.args.self.site c.in_ok-recovery.recovery _ refl refl refl c.in_ok-recovery.ensures.recovered

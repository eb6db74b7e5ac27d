use Rattle.std.proofs.Common.{◌∙◌}
use Rattle.node_host.proofs.Logs.{decided_log, unwritten_stays, whole_log}
use Rattle.node_host.proofs.WholeOpenings.{none_moments, none_moments_at_rest, opened_moments, opened_moments_at_rest}
use Rattle.node_host.proofs.kept.kept_records.Goals as goal

pub returns-in_err-fresh-clause-any_moment : goal.returns-in_err-fresh-clause-any_moment
returns-in_err-fresh-clause-any_moment g c = none_moments c.args.plan c.args.site (g.D.Disk.past c.args.disk.now) (g.D.Disk.state c.args.disk.now)

pub returns-in_err-fresh-clause-any_moment_at_rest : goal.returns-in_err-fresh-clause-any_moment_at_rest
returns-in_err-fresh-clause-any_moment_at_rest g c = none_moments_at_rest c.args.plan c.args.site (g.D.Disk.past c.args.disk.now) (g.D.Disk.state c.args.disk.now)

pub returns-in_err-reading-clause-any_moment : goal.returns-in_err-reading-clause-any_moment
returns-in_err-reading-clause-any_moment g c =
    opened_moments c.args.plan c.args.site (g.D.Disk.past c.args.disk.now) (g.D.Disk.past c.open.new.disk) (g.D.Disk.state c.args.disk.now) (g.D.Disk.state c.open.new.disk)
    c.open.ensures.told c.open.ensures.any_moment

pub returns-in_err-reading-clause-any_moment_at_rest : goal.returns-in_err-reading-clause-any_moment_at_rest
returns-in_err-reading-clause-any_moment_at_rest g c =
    opened_moments_at_rest c.args.plan c.args.site (g.D.Disk.past c.args.disk.now) (g.D.Disk.past c.open.new.disk) (g.D.Disk.state c.args.disk.now) (g.D.Disk.state c.open.new.disk)
    c.open.ensures.told c.open.ensures.any_moment_at_rest

pub returns-clause-any_moment : goal.returns-clause-any_moment
returns-clause-any_moment g c =
    rw (c.records.ensures.same, c.records.ensures.same_past)
    (opened_moments c.args.plan c.args.site (g.D.Disk.past c.args.disk.now) (g.D.Disk.past c.open.new.disk) (g.D.Disk.state c.args.disk.now) (g.D.Disk.state c.open.new.disk)
    c.open.ensures.told c.open.ensures.any_moment)

pub returns-clause-any_moment_at_rest : goal.returns-clause-any_moment_at_rest
returns-clause-any_moment_at_rest g c =
    rw (c.records.ensures.same, c.records.ensures.same_past)
    (opened_moments_at_rest c.args.plan c.args.site (g.D.Disk.past c.args.disk.now) (g.D.Disk.past c.open.new.disk) (g.D.Disk.state c.args.disk.now) (g.D.Disk.state c.open.new.disk)
    c.open.ensures.told c.open.ensures.any_moment_at_rest)

pub returns-clause-unwritten : goal.returns-clause-unwritten
returns-clause-unwritten g c =
    unwritten_stays (g.D.Disk.past c.args.disk.now) (g.D.Disk.past c.open.new.disk) (g.D.Disk.past c.records.new.disk)
    (g.D.Disk.state c.args.disk.now) (g.D.Disk.state c.open.new.disk) (g.D.Disk.state c.records.new.disk) c.records.ensures.same c.records.ensures.same_past c.open.ensures.unwritten

pub returns-clause-ends : goal.returns-clause-ends
returns-clause-ends g c =
    whole_log c.one_list.ensures c.args.plan c.args.site c.in_ok-fresh.fresh.plan c.in_ok-fresh.fresh.site c.in_ok-fresh.ensures.plan c.in_ok-fresh.ensures.site
    (g.D.Disk.state c.args.disk.now) (g.D.Disk.state c.open.new.disk) c.in_ok-reading.ensures.opened c.records.result c.records.ensures.ends

pub returns-clause-decided : goal.returns-clause-decided
returns-clause-decided g c =
    decided_log c.one_log.ensures c.args.plan c.args.site (g.D.Disk.state c.args.disk.now) c.records.result
    (whole_log c.one_list.ensures c.args.plan c.args.site c.in_ok-fresh.fresh.plan c.in_ok-fresh.fresh.site c.in_ok-fresh.ensures.plan c.in_ok-fresh.ensures.site
    (g.D.Disk.state c.args.disk.now) (g.D.Disk.state c.open.new.disk) c.in_ok-reading.ensures.opened c.records.result c.records.ensures.ends)

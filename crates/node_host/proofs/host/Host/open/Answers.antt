use Rattle.std.proofs.Common.{◌∙◌, ap}
use Rattle.node_journal.specs.Positions.{Position}
use Rattle.node_host.proofs.Readying.{opened_ready}
use Rattle.node_host.proofs.WholeOpenings.{none_moments, none_moments_at_rest, opened_moments, opened_moments_at_rest, unwritten_begun, unwritten_none, unwritten_whole, whole_ends, whole_moments, whole_moments_at_rest, whole_stands}
use Rattle.node_host.proofs.host.Host.open.Goals as goal

pub returns-in_err-fresh-clause-any_moment : goal.returns-in_err-fresh-clause-any_moment
returns-in_err-fresh-clause-any_moment g c = none_moments c.args.plan c.args.site (g.D.Disk.past c.args.disk.now) (g.D.Disk.state c.args.disk.now)

pub returns-in_err-fresh-clause-any_moment_at_rest : goal.returns-in_err-fresh-clause-any_moment_at_rest
returns-in_err-fresh-clause-any_moment_at_rest g c = none_moments_at_rest c.args.plan c.args.site (g.D.Disk.past c.args.disk.now) (g.D.Disk.state c.args.disk.now)

pub returns-in_err-reading-clause-any_moment : goal.returns-in_err-reading-clause-any_moment
returns-in_err-reading-clause-any_moment g c =
    opened_moments c.args.plan c.args.site (g.D.Disk.past c.args.disk.now) (g.D.Disk.past c.open.new.disk) (g.D.Disk.state c.args.disk.now) (g.D.Disk.state c.open.new.disk)
    c.open.ensures.told c.open.ensures.any_moment

pub returns-in_err-reading-clause-any_moment_at_rest : goal.returns-in_err-reading-clause-any_moment_at_rest
returns-in_err-reading-clause-any_moment_at_rest g c =
    opened_moments_at_rest c.args.plan c.args.site (g.D.Disk.past c.args.disk.now) (g.D.Disk.past c.open.new.disk) (g.D.Disk.state c.args.disk.now) (g.D.Disk.state c.open.new.disk)
    c.open.ensures.told c.open.ensures.any_moment_at_rest

pub returns-clause-ends : goal.returns-clause-ends
returns-clause-ends g c =
    whole_ends c.args.plan c.args.site c.args.limit c.in_ok-fresh.fresh.plan c.in_ok-fresh.fresh.site c.in_ok-reading.reading.limit
    c.in_ok-fresh.ensures.plan c.in_ok-fresh.ensures.site (ap (λ (p : Position). p.limit) c.in_ok-reading.ensures.reading)
    (g.D.Disk.state c.args.disk.now) (g.D.Disk.state c.open.new.disk) c.in_ok-reading.ensures.opened
    c.one_list.ensures c.read.result c.read.ensures.ends

pub returns-clause-stands : goal.returns-clause-stands
returns-clause-stands g c =
    whole_stands c.args.plan c.args.site c.args.limit c.in_ok-fresh.fresh.plan c.in_ok-fresh.fresh.site c.in_ok-reading.reading.limit
    c.in_ok-fresh.ensures.plan c.in_ok-fresh.ensures.site (ap (λ (p : Position). p.limit) c.in_ok-reading.ensures.reading)
    (g.D.Disk.state c.args.disk.now) (g.D.Disk.state c.open.new.disk) c.in_ok-reading.ensures.opened c.in_ok-reading.ensures.kept
    c.read.result (g.D.Disk.state c.read.new.disk) c.read.ensures.stands

pub returns-clause-any_moment : goal.returns-clause-any_moment
returns-clause-any_moment g c =
    whole_moments c.args.plan c.args.site c.args.limit c.in_ok-fresh.fresh.plan c.in_ok-fresh.fresh.site c.in_ok-reading.reading.limit
    c.in_ok-fresh.ensures.plan c.in_ok-fresh.ensures.site (ap (λ (p : Position). p.limit) c.in_ok-reading.ensures.reading)
    (g.D.Disk.state c.args.disk.now) (g.D.Disk.state c.open.new.disk) c.in_ok-reading.ensures.opened c.in_ok-reading.ensures.kept
    (g.D.Disk.past c.args.disk.now) (g.D.Disk.past c.open.new.disk) (g.D.Disk.past c.read.new.disk) (g.D.Disk.state c.read.new.disk)
    (c.read.ensures.told ∙ c.open.ensures.told) c.read.ensures.any_moment c.open.ensures.any_moment

pub returns-clause-any_moment_at_rest : goal.returns-clause-any_moment_at_rest
returns-clause-any_moment_at_rest g c =
    whole_moments_at_rest c.args.plan c.args.site c.args.limit c.in_ok-fresh.fresh.plan c.in_ok-fresh.fresh.site c.in_ok-reading.reading.limit
    c.in_ok-fresh.ensures.plan c.in_ok-fresh.ensures.site (ap (λ (p : Position). p.limit) c.in_ok-reading.ensures.reading)
    (g.D.Disk.state c.args.disk.now) (g.D.Disk.state c.open.new.disk) c.in_ok-reading.ensures.opened c.in_ok-reading.ensures.kept
    (g.D.Disk.past c.args.disk.now) (g.D.Disk.past c.open.new.disk) (g.D.Disk.past c.read.new.disk) (g.D.Disk.state c.read.new.disk)
    (c.read.ensures.told ∙ c.open.ensures.told) c.read.ensures.any_moment c.open.ensures.any_moment_at_rest

pub returns-clause-ready : goal.returns-clause-ready
returns-clause-ready g c =
    opened_ready c.in_ok-fresh.fresh.plan c.in_ok-fresh.fresh.site c.in_ok-reading.reading.limit (g.D.Disk.state c.open.new.disk) (g.D.Disk.state c.read.new.disk)
    c.read.result c.read.ensures.told c.read.ensures.ends c.read.ensures.stands

pub returns-in_err-fresh-clause-unwritten : goal.returns-in_err-fresh-clause-unwritten
returns-in_err-fresh-clause-unwritten g c = unwritten_none (g.D.Disk.past c.args.disk.now) (g.D.Disk.state c.args.disk.now)

pub returns-in_err-reading-clause-unwritten : goal.returns-in_err-reading-clause-unwritten
returns-in_err-reading-clause-unwritten g c =
    unwritten_begun (g.D.Disk.past c.args.disk.now) (g.D.Disk.past c.open.new.disk) (g.D.Disk.state c.args.disk.now) (g.D.Disk.state c.open.new.disk) c.open.ensures.unwritten

pub returns-clause-unwritten : goal.returns-clause-unwritten
returns-clause-unwritten g c =
    unwritten_whole (g.D.Disk.past c.args.disk.now) (g.D.Disk.past c.open.new.disk) (g.D.Disk.past c.read.new.disk)
    (g.D.Disk.state c.args.disk.now) (g.D.Disk.state c.open.new.disk) (g.D.Disk.state c.read.new.disk) c.in_ok-reading.ensures.opened
    c.open.ensures.unwritten c.read.ensures.unwritten

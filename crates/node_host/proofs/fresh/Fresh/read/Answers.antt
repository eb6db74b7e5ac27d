use Rattle.std.proofs.Common.{◌∙◌}
use Rattle.std.proofs.lemmas.Result.{err_from_is_err_and}
use Rattle.node_host.proofs.FirstFrames.{first_read, last_is_closed, moments_behind, moments_stay, stops_unread}
use Rattle.node_host.proofs.Standing.{ends_stopped}
use Rattle.node_host.proofs.fresh.Fresh.read.Goals as goal

pub returns-in_err-journal-clause-ends : goal.returns-in_err-journal-clause-ends
returns-in_err-journal-clause-ends g c =
    let p = err_from_is_err_and c.from_residual.result c.from_residual.ensures.1 in
    rw (p.1, p.2)
    (ends_stopped c.args.self.plan c.args.self.site c.args.reading.limit _ (g.D.Disk.state c.args.disk.now)
    (stops_unread c.args.self.plan c.args.self.site c.args.reading c.in_err-journal.field-0.0 (g.D.Disk.state c.args.disk.now) c.requires.first c.requires.begun
    c.in_err-journal.ensures.found))

pub returns-in_err-journal-clause-any_moment : goal.returns-in_err-journal-clause-any_moment
returns-in_err-journal-clause-any_moment g c =
    moments_stay c.args.self.plan c.args.self.site (g.D.Disk.past c.args.disk.now) (g.D.Disk.past c.next.new.disk) (g.D.Disk.state c.args.disk.now) (g.D.Disk.state c.next.new.disk)
    c.next.ensures.same c.next.ensures.same_past c.requires.begun

pub go_on-requires-clause-begins : goal.go_on-requires-clause-begins
go_on-requires-clause-begins g c =
    first_read c.args.reading c.in-Frame.reading c.in-Frame.at c.in-Frame.payload (g.D.Disk.state c.args.disk.now) (g.D.Disk.state c.next.new.disk)
    c.next.ensures.same c.requires.first c.requires.begun (rw c.in-Frame.is at c.in_ok-journal.ensures.found) (rw c.in-Frame.is at c.in_ok-journal.ensures.read_on)

pub returns-in-Last-clause-any_moment : goal.returns-in-Last-clause-any_moment
returns-in-Last-clause-any_moment g c =
    moments_behind c.args.self.plan c.args.self.site (g.D.Disk.past c.args.disk.now) (g.D.Disk.past c.next.new.disk) (g.D.Disk.past c.begin.new.disk)
    (g.D.Disk.state c.args.disk.now) (g.D.Disk.state c.next.new.disk) (g.D.Disk.state c.begin.new.disk) c.next.ensures.same c.next.ensures.same_past c.begin.ensures.any_moment

pub returns-in-Frame-clause-any_moment : goal.returns-in-Frame-clause-any_moment
returns-in-Frame-clause-any_moment g c =
    moments_stay c.args.self.plan c.args.self.site (g.D.Disk.past c.args.disk.now) (g.D.Disk.past c.go_on.new.disk) (g.D.Disk.state c.args.disk.now) (g.D.Disk.state c.go_on.new.disk)
    (c.go_on.ensures.same ∙ c.next.ensures.same) (c.go_on.ensures.same_past ∙ c.next.ensures.same_past) c.requires.begun

use Rattle.std.proofs.Common.{◌∙◌}
use Rattle.std.proofs.lemmas.Result.{err_from_is_err_and}
use Rattle.node_host.proofs.FirstFrames.{first_read, stops_unread}
use Rattle.node_host.proofs.Logs.{log_of_none, none_kept}
use Rattle.node_host.proofs.fresh.Fresh.records.Goals as goal

pub returns-in_err-next-clause-ends : goal.returns-in_err-next-clause-ends
returns-in_err-next-clause-ends g c =
    let p = err_from_is_err_and c.from_residual.result c.from_residual.ensures.1 in
    rw (p.1, p.2)
    (stops_unread c.args.self.plan c.args.self.site c.args.reading c.in_err-next.field-0.0 (g.D.Disk.state c.args.disk.now) c.requires.first c.requires.begun
    c.in_err-next.ensures.found)

pub records_behind-requires-clause-begins : goal.records_behind-requires-clause-begins
records_behind-requires-clause-begins g c =
    first_read c.args.reading c.in-Frame.reading _ c.in-Frame.payload (g.D.Disk.state c.args.disk.now) (g.D.Disk.state c.next.new.disk)
    c.next.ensures.same c.requires.first c.requires.begun (rw c.in-Frame.is at c.in_ok-next.ensures.found) (rw c.in-Frame.is at c.in_ok-next.ensures.read_on)

pub returns-in-Last-clause-ends : goal.returns-in-Last-clause-ends
returns-in-Last-clause-ends g c =
    none_kept c.args.self.plan c.args.self.site c.args.reading _ _ (g.D.Disk.state c.args.disk.now) c.requires.first c.requires.begun
    (rw c.in-Last.is at c.in_ok-next.ensures.found) (c.new-in-Last.ensures ∙ c.new.ensures.items)

pub returns-in-Last-clause-node : goal.returns-in-Last-clause-node
returns-in-Last-clause-node g c = log_of_none c.args.self.plan c.args.self.site _ (c.new-in-Last.ensures ∙ c.new.ensures.items)

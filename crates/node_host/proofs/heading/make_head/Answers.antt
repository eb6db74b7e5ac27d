use Rattle.std.proofs.Common.{◌∙◌, ap}
use Rattle.node_journal.specs.Positions.{Position}
use Rattle.node_host.proofs.FirstHeads.{head_made, head_moments}
use Rattle.node_host.proofs.heading.make_head.Goals as goal

pub returns-in_err-journal-clause-any_moment : goal.returns-in_err-journal-clause-any_moment
returns-in_err-journal-clause-any_moment g c =
    head_moments c.args.journal.gate c.in_ok-frame.frame _ (c.in_ok-frame.ensures ∙ c.in_ok-bytes.ensures)
    (g.D.Disk.past c.args.disk.now) (g.D.Disk.past c.append.new.disk) (g.D.Disk.state c.args.disk.now) (g.D.Disk.state c.append.new.disk)
    c.append.ensures.told c.append.ensures.any_moment

pub returns-clause-any_moment : goal.returns-clause-any_moment
returns-clause-any_moment g c =
    head_moments c.args.journal.gate c.in_ok-frame.frame _ (c.in_ok-frame.ensures ∙ c.in_ok-bytes.ensures)
    (g.D.Disk.past c.args.disk.now) (g.D.Disk.past c.append.new.disk) (g.D.Disk.state c.args.disk.now) (g.D.Disk.state c.append.new.disk)
    c.append.ensures.told c.append.ensures.any_moment

pub returns-clause-made : goal.returns-clause-made
returns-clause-made g c =
    head_made c.args.journal.gate c.in_ok-frame.frame _ (c.in_ok-frame.ensures ∙ c.in_ok-bytes.ensures)
    (g.D.Disk.state c.args.disk.now) (g.D.Disk.state c.append.new.disk) c.in_ok-journal.journal.gate
    c.in_ok-journal.ensures.sealed c.in_ok-journal.ensures.added (ap (λ (p : Position). p.gate) c.in_ok-journal.ensures.handed)

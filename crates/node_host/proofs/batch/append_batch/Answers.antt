use Rattle.std.proofs.Common.{◌∙◌, ap}
use Rattle.helios_model.specs.World.{journaled}
use Rattle.node_journal.specs.Positions.{Position}
use Rattle.node_host.proofs.Sealing.{idle_moments, sealed_ends, sealed_moments}
use Rattle.node_host.proofs.batch.append_batch.Goals as goal

pub returns-in_err-payload-clause-any_moment : goal.returns-in_err-payload-clause-any_moment
returns-in_err-payload-clause-any_moment g c =
    idle_moments c.args.journal.gate (journaled c.args.entries.now) (g.D.Disk.past c.args.disk.now) (g.D.Disk.state c.args.disk.now) c.requires.ready

pub returns-in_err-frame-clause-any_moment : goal.returns-in_err-frame-clause-any_moment
returns-in_err-frame-clause-any_moment g c =
    idle_moments c.args.journal.gate (journaled c.args.entries.now) (g.D.Disk.past c.args.disk.now) (g.D.Disk.state c.args.disk.now) c.requires.ready

pub returns-in_err-journal-clause-any_moment : goal.returns-in_err-journal-clause-any_moment
returns-in_err-journal-clause-any_moment g c =
    sealed_moments c.args.journal.gate c.in_ok-frame.frame (journaled c.args.entries.now) (c.in_ok-frame.ensures ∙ c.in_ok-payload.ensures.value) c.requires.some c.in_ok-payload.ensures.readings
    (g.D.Disk.past c.args.disk.now) (g.D.Disk.past c.append.new.disk) (g.D.Disk.state c.args.disk.now) (g.D.Disk.state c.append.new.disk)
    c.append.ensures.told c.append.ensures.any_moment

pub returns-clause-any_moment : goal.returns-clause-any_moment
returns-clause-any_moment g c =
    sealed_moments c.args.journal.gate c.in_ok-frame.frame (journaled c.args.entries.now) (c.in_ok-frame.ensures ∙ c.in_ok-payload.ensures.value) c.requires.some c.in_ok-payload.ensures.readings
    (g.D.Disk.past c.args.disk.now) (g.D.Disk.past c.append.new.disk) (g.D.Disk.state c.args.disk.now) (g.D.Disk.state c.append.new.disk)
    c.append.ensures.told c.append.ensures.any_moment

pub returns-clause-added : goal.returns-clause-added
returns-clause-added g c =
    sealed_ends c.args.journal.gate c.in_ok-frame.frame (journaled c.args.entries.now) (c.in_ok-frame.ensures ∙ c.in_ok-payload.ensures.value) c.requires.some
    (g.D.Disk.state c.args.disk.now) (g.D.Disk.state c.append.new.disk) c.in_ok-journal.journal.gate
    c.in_ok-journal.ensures.sealed c.in_ok-journal.ensures.added (ap (λ (p : Position). p.gate) c.in_ok-journal.ensures.handed)

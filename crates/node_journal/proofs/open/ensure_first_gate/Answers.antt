use Rattle.std.proofs.Common.{◌∙◌, ap, is_some, inl, inr, Option}
use Rattle.disk_store.specs.Disk.{DiskState}
use Rattle.node_journal.proofs.Opens.{moments_sync, moments_made, short_if, unwritten_made, unwritten_sync}
use Rattle.node_journal.proofs.open.ensure_first_gate.Goals as goal

pub returns-in_err-len-clause-any_moment : goal.returns-in_err-len-clause-any_moment
returns-in_err-len-clause-any_moment g c =
    rw (c.len.ensures.same, c.len.ensures.same_past)
    (moments_sync (g.D.Disk.past c.args.disk.now) (g.D.Disk.past c.sync.new.self) (g.D.Disk.state c.args.disk.now) (g.D.Disk.state c.sync.new.self)
    (inl c.in_ok-sync.ensures.synced) c.sync.ensures.time)

pub returns-then-branch-gt1-clause-any_moment : goal.returns-then-branch-gt1-clause-any_moment
returns-then-branch-gt1-clause-any_moment g c =
    rw (c.len.ensures.same, c.len.ensures.same_past)
    (moments_sync (g.D.Disk.past c.args.disk.now) (g.D.Disk.past c.sync.new.self) (g.D.Disk.state c.args.disk.now) (g.D.Disk.state c.sync.new.self)
    (inl c.in_ok-sync.ensures.synced) c.sync.ensures.time)

pub returns-clause-any_moment : goal.returns-clause-any_moment
returns-clause-any_moment g c =
    moments_made (g.D.Disk.past c.args.disk.now) (g.D.Disk.past c.sync.new.self) (g.D.Disk.past c.write_durably.new.disk)
    (g.D.Disk.state c.args.disk.now) (g.D.Disk.state c.sync.new.self) (g.D.Disk.state c.write_durably.new.disk)
    c.in_ok-sync.ensures.synced c.sync.ensures.time
    (short_if (g.D.Disk.state c.sync.new.self) c.in_ok-len.field-0 c.if-branch-gt1.false c.in_ok-len.ensures.length)
    (rw (c.len.ensures.same, c.len.ensures.same_past) at c.write_durably.ensures.moments)
    (c.write_durably.ensures.told ∙ ap (λ (s : Option DiskState). is_some s) c.len.ensures.same)

pub returns-in_err-sync-clause-unwritten : goal.returns-in_err-sync-clause-unwritten
returns-in_err-sync-clause-unwritten g c =
    unwritten_sync (g.D.Disk.past c.args.disk.now) (g.D.Disk.past c.sync.new.self) (g.D.Disk.state c.args.disk.now) (g.D.Disk.state c.sync.new.self)
    (inr c.in_err-sync.ensures.failed) c.sync.ensures.time

pub returns-in_err-len-clause-unwritten : goal.returns-in_err-len-clause-unwritten
returns-in_err-len-clause-unwritten g c =
    rw (c.len.ensures.same, c.len.ensures.same_past)
    (unwritten_sync (g.D.Disk.past c.args.disk.now) (g.D.Disk.past c.sync.new.self) (g.D.Disk.state c.args.disk.now) (g.D.Disk.state c.sync.new.self)
    (inl c.in_ok-sync.ensures.synced) c.sync.ensures.time)

pub returns-then-branch-gt1-clause-unwritten : goal.returns-then-branch-gt1-clause-unwritten
returns-then-branch-gt1-clause-unwritten g c =
    rw (c.len.ensures.same, c.len.ensures.same_past)
    (unwritten_sync (g.D.Disk.past c.args.disk.now) (g.D.Disk.past c.sync.new.self) (g.D.Disk.state c.args.disk.now) (g.D.Disk.state c.sync.new.self)
    (inl c.in_ok-sync.ensures.synced) c.sync.ensures.time)

pub returns-clause-unwritten : goal.returns-clause-unwritten
returns-clause-unwritten g c =
    unwritten_made (g.D.Disk.past c.args.disk.now) (g.D.Disk.past c.write_durably.new.disk) (g.D.Disk.state c.args.disk.now) (g.D.Disk.state c.sync.new.self)
    (g.D.Disk.state c.write_durably.new.disk) c.in_ok-sync.ensures.synced
    (short_if (g.D.Disk.state c.sync.new.self) c.in_ok-len.field-0 c.if-branch-gt1.false c.in_ok-len.ensures.length)

use Rattle.std.proofs.Common.{◌≡◌, ◌+◌, length, ap, arith}
use Rattle.node_journal.specs.Positions.{Position}
use Rattle.node_journal.proofs.Appends.{moments_none, moments_one, moments_two, one_more, sealed_ready, both_sealed}
use Rattle.node_journal.proofs.journal.Journal.append.Goals as goal

pub returns-then-saturating_sub-size-clause-any_moment : goal.returns-then-saturating_sub-size-clause-any_moment
returns-then-saturating_sub-size-clause-any_moment g c =
    moments_none c.args.self.gate c.args.frame.now c.bytes-bytes.ensures.small (g.D.Disk.past c.args.disk.now) (g.D.Disk.state c.args.disk.now) c.requires

pub returns-in_err-write_durably-clause-any_moment : goal.returns-in_err-write_durably-clause-any_moment
returns-in_err-write_durably-clause-any_moment g c =
    let gate_is : c.self.inside.gate ≡ c.args.self.gate = ap (λ (p : Position). p.gate) c.self.view_is in
    moments_one c.args.self.gate c.args.frame.now c.bytes-bytes.ensures.small (g.D.Disk.past c.args.disk.now) (g.D.Disk.past c.write_durably.new.disk)
    (g.D.Disk.state c.args.disk.now) (g.D.Disk.state c.write_durably.new.disk) c.requires
    (rw (gate_is, c.bytes-bytes.ensures.bytes) at c.write_durably.ensures.moments)

pub returns-in_err-write_durably-2-clause-any_moment : goal.returns-in_err-write_durably-2-clause-any_moment
returns-in_err-write_durably-2-clause-any_moment g c =
    let gate_is : c.self.inside.gate ≡ c.args.self.gate = ap (λ (p : Position). p.gate) c.self.view_is in
    moments_two c.args.self.gate c.args.frame.now c.bytes-bytes.ensures.small
    (g.D.Disk.past c.args.disk.now) (g.D.Disk.past c.write_durably.new.disk) (g.D.Disk.past c.write_durably-2.new.disk)
    (g.D.Disk.state c.args.disk.now) (g.D.Disk.state c.write_durably.new.disk) (g.D.Disk.state c.write_durably-2.new.disk) c.requires
    (rw (gate_is, c.bytes-bytes.ensures.bytes) at c.write_durably.ensures.moments)
    (rw (gate_is, c.bytes-bytes.ensures.bytes) at c.in_ok-write_durably.ensures.ok)
    (rw gate_is at c.write_durably-2.ensures.moments) c.write_durably-2.ensures.told

pub returns-clause-any_moment : goal.returns-clause-any_moment
returns-clause-any_moment g c =
    let gate_is : c.self.inside.gate ≡ c.args.self.gate = ap (λ (p : Position). p.gate) c.self.view_is in
    moments_two c.args.self.gate c.args.frame.now c.bytes-bytes.ensures.small
    (g.D.Disk.past c.args.disk.now) (g.D.Disk.past c.write_durably.new.disk) (g.D.Disk.past c.write_durably-2.new.disk)
    (g.D.Disk.state c.args.disk.now) (g.D.Disk.state c.write_durably.new.disk) (g.D.Disk.state c.write_durably-2.new.disk) c.requires
    (rw (gate_is, c.bytes-bytes.ensures.bytes) at c.write_durably.ensures.moments)
    (rw (gate_is, c.bytes-bytes.ensures.bytes) at c.in_ok-write_durably.ensures.ok)
    (rw gate_is at c.write_durably-2.ensures.moments) c.write_durably-2.ensures.told

pub returns-clause-added : goal.returns-clause-added
returns-clause-added g c = one_more c.args.self.gate c.args.frame.now c.bytes-bytes.ensures.small (g.D.Disk.state c.args.disk.now) c.requires

pub returns-clause-ready : goal.returns-clause-ready
returns-clause-ready g c =
    let gate_is : c.self.inside.gate ≡ c.args.self.gate = ap (λ (p : Position). p.gate) c.self.view_is in
    let next : c.args.self.gate + 5 + length c.args.frame.now ≡ c.self.inside.gate + length c.bytes-bytes.result.now = omega (arith, gate_is, c.bytes-bytes.ensures.size) in
    rw (← next)
    (sealed_ready (g.D.Disk.state c.args.disk.now) (g.D.Disk.state c.write_durably-2.new.disk) c.args.self.gate c.args.frame.now c.requires
    (both_sealed (g.D.Disk.state c.args.disk.now) (g.D.Disk.state c.write_durably.new.disk) (g.D.Disk.state c.write_durably-2.new.disk) c.args.self.gate c.args.frame.now c.requires
    (rw (gate_is, c.bytes-bytes.ensures.bytes) at c.in_ok-write_durably.ensures.ok) (rw gate_is at c.in_ok-write_durably-2.ensures.ok)))

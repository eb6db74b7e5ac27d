use Rattle.std.proofs.Common.{arith}
use Rattle.node_journal.proofs.GateLemmas.{gate_read}
use Rattle.node_journal.proofs.gate.read_gate.Goals as goal

pub returns-clause-stands : goal.returns-clause-stands
returns-clause-stands g c =
    gate_read (g.D.Disk.state c.args.disk.now) c.read_at.new.into c.args.gate c.in_ok-count.count c.gate_of-found.result c.requires c.in_ok-count.ensures.bytes
    (omega arith) (rw c.split_at.ensures.front at c.gate_of-found.ensures)

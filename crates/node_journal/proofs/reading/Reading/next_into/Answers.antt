use Rattle.node_journal.proofs.Founds.{read_on}
use Rattle.node_journal.proofs.reading.Reading.next_into.Goals as goal

pub returns-in-Length-clause-read_on : goal.returns-in-Length-clause-read_on
returns-in-Length-clause-read_on g c =
    read_on (g.D.Disk.state c.args.disk.now) c.args.self c.read_frame.result (rw c.read_gate.ensures.same at c.read_frame.ensures.found)

use Rattle.std.proofs.Common.{refl}
use Rattle.graph_audit.proofs.More.{with_prepare}
use Rattle.graph_audit.proofs.gathering.Gathered.take_prepare.Goals as goal

pub returns : goal.returns
returns c = λ records is.
    with_prepare c.args.self.now (record { prepares = c.add_first.new.prepares; differing = c.add_differing.new.ids; committed = c.args.self.now.committed })
    c.args.prepare records is c.in_ok-add_first.ensures c.in_ok-add_differing.ensures refl

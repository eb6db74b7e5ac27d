use Rattle.outside_io.proofs.Lines.{line_read}
use Rattle.outside_io.specs.Net.{is_end}
use Rattle.outside_io.proofs.line.Line.read.Goals as goal

pub returns-clause-after : goal.returns-clause-after
returns-clause-after c =
    line_read c.args.self.now c.self.inside.dialled c.self.inside.bytes.items c.self.inside.at c.copy_front-count.result c.is_met-self-inside.result c.self.inside.at_end
    (is_end c.copy_front-count.result c.copy_front-count.new.into) c.self.inside.starts c.self.inside.ends c.self.view_is c.is_met-self-inside.ensures

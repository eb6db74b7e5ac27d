use Rattle.helios_model.proofs.Overlaps.{conflict_first, conflict_second}
use Rattle.helios_model.proofs.transactions.lists_conflict.Goals as goal

pub returns-then-is_overwriting : goal.returns-then-is_overwriting
returns-then-is_overwriting g c =
    conflict_first g.R.Keyed.key_of g.W.Keyed.key_of g.S.Keyed.key_of g.V.Keyed.key_of c.args.reads.now c.args.writes.now c.args.other_reads.now c.args.other_writes.now
    c.is_overwriting.result c.is_overwriting.ensures c.if-is_overwriting.true

pub returns-else-is_overwriting : goal.returns-else-is_overwriting
returns-else-is_overwriting g c =
    conflict_second g.R.Keyed.key_of g.W.Keyed.key_of g.S.Keyed.key_of g.V.Keyed.key_of c.args.reads.now c.args.writes.now c.args.other_reads.now c.args.other_writes.now
    c.is_overwriting.result c.is_overwriting-else-is_overwriting.result c.is_overwriting.ensures c.if-is_overwriting.false c.is_overwriting-else-is_overwriting.ensures

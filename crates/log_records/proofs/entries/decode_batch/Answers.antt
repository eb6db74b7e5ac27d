use Rattle.std.proofs.Common.{arith}
use Rattle.log_records.proofs.EntryTaken.{entries_spellable}
use Rattle.log_records.proofs.MessageTaken.{message_begins}
use Rattle.log_records.proofs.entries.decode_batch.Goals as goal

pub returns-clause-spellable : goal.returns-clause-spellable
returns-clause-spellable c =
    let read = rw c.new-decoder.ensures.rest at c.in_ok-entries.ensures.0 in
    entries_spellable message_begins c.args.count c.new-decoder.result.whole c.args.input.now c.in_ok-entries.entries c.entries.new.self.rest.now (λ i. omega (arith, c.type_inv.input i)) read

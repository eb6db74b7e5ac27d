use Rattle.std.proofs.Common.{arith}
use Rattle.log_records.proofs.MessageTaken.{read_spellable}
use Rattle.log_records.proofs.messages.decode_message.Goals as goal

pub returns-clause-spellable : goal.returns-clause-spellable
returns-clause-spellable c =
    let read = rw c.new-decoder.ensures.rest at c.in_ok-message.ensures.0 in
    read_spellable c.new-decoder.result.whole c.args.input.now c.in_ok-message.message c.message.new.self.rest.now (λ i. omega (arith, c.type_inv.input i)) read

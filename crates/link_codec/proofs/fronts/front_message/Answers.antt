use Rattle.std.proofs.Common.{arith, length}
use Rattle.std.proofs.lemmas.Result.{err_from_is_err_and}
use Rattle.helios_model.specs.Spellable.{IsSpellableMessage}
use Rattle.log_records.specs.Messages.{message_at, message_bytes}
use Rattle.link_codec.proofs.Moves.{moved_fault, moved_on}
use Rattle.link_codec.proofs.fronts.front_message.Goals as goal

pub returns-in_err-message : goal.returns-in_err-message
returns-in_err-message c =
    let p = err_from_is_err_and c.from_residual.result c.from_residual.ensures.1 in
    rw (p.1, p.2) (moved_fault message_bytes IsSpellableMessage message_at c.messages_are_read_again.ensures c.what_is_read_is_a_message.ensures c.args.body.now (λ i. omega (arith, c.type_inv.body i)) (length c.args.body.now) 0 c.in_err-message.field-0.0 c.in_err-message.ensures.read)

pub returns : goal.returns
returns c =
    let read = c.in_ok-message.ensures.read in
    moved_on message_bytes IsSpellableMessage message_at c.messages_are_read_again.ensures c.what_is_read_is_a_message.ensures c.args.body.now (λ i. omega (arith, c.type_inv.body i)) (length c.args.body.now) 0 c.in_ok-message.message read.0 c.in_ok-message.length read.1 read.2

use Rattle.std.proofs.Common.{arith}
use Rattle.log_records.proofs.MessageTaken.{body_shortens}
use Rattle.log_records.proofs.decoder.Decoder.message.Goals as goal

pub overflow_sub-length : goal.overflow_sub-length
overflow_sub-length c =
    let fits = rw c.rest-input.ensures at c.type_inv.input in
    rw (c.rest-input.ensures, c.rest.ensures) (body_shortens c.args.self.now.whole c.args.self.now.rest.now c.in_ok-message.message c.body.new.self.rest.now (λ i. omega (arith, fits i)) c.in_ok-message.ensures.0)

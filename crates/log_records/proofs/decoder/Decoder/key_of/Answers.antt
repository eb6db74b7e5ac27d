use Rattle.std.proofs.Common.{sym, ap, ◌∙◌, ◌&&◌, not}
use Rattle.std.proofs.lemmas.Result.{err_from_is_err_and}
use Rattle.helios_model.specs.Spellings.{is_key, key_of}
use Rattle.log_records.specs.Items.{is_given}
use Rattle.log_records.proofs.Fields.{key_given, key_is, key_refused, text_fails}
use Rattle.log_records.proofs.decoder.Decoder.key_of.Goals as goal

pub returns-in_err-text : goal.returns-in_err-text
returns-in_err-text g c =
    let p = err_from_is_err_and c.from_residual.result c.from_residual.ensures.1 in
    rw (p.1, p.2) (text_fails (λ k. is_key k && not (is_given g.T.Keyed.key_of c.args.given.now k)) c.in_err-text.field-0.0 c.args.length c.args.self.now.whole c.args.self.now.rest.now c.in_err-text.ensures.takes)

pub returns-in-None : goal.returns-in-None
returns-in-None g c =
    let e = c.new.ensures ∙ c.in_ok-from_slice.ensures.items in
    rw c.place-at.ensures (key_refused (is_given g.T.Keyed.key_of c.args.given.now) c.args.length c.args.self.now.whole c.args.self.now.rest.now c.in_ok-text.text.now c.text.new.self.rest.now c.in_ok-text.ensures.takes.0 (sym (ap key_of e) ∙ sym c.in-None.ensures))

pub returns-then-is_given : goal.returns-then-is_given
returns-then-is_given g c =
    let e = c.new.ensures ∙ c.in_ok-from_slice.ensures.items in
    rw c.place-at.ensures (key_given (is_given g.T.Keyed.key_of c.args.given.now) c.args.length c.args.self.now.whole c.args.self.now.rest.now c.in_ok-text.text.now c.text.new.self.rest.now c.in-Some.key c.in_ok-text.ensures.takes.0 (sym (ap key_of e) ∙ sym c.in-Some.ensures) (sym c.if-is_given.ensures))

pub returns-else-is_given : goal.returns-else-is_given
returns-else-is_given g c =
    let e = c.new.ensures ∙ c.in_ok-from_slice.ensures.items in
    (key_is (is_given g.T.Keyed.key_of c.args.given.now) c.args.length c.args.self.now.whole c.args.self.now.rest.now c.in_ok-text.text.now c.text.new.self.rest.now c.in-Some.key c.in_ok-text.ensures.takes.0 (sym (ap key_of e) ∙ sym c.in-Some.ensures) (sym c.if-is_given.ensures), c.in_ok-text.ensures.takes.1)

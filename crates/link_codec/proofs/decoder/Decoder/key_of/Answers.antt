use Rattle.std.proofs.Common.{sym, ap, ◌∙◌, ◌&&◌, not, false}
use Rattle.std.proofs.lemmas.Result.{err_from_is_err_and}
use Rattle.helios_model.specs.Spellings.{is_key, key_of}
use Rattle.link_codec.proofs.Fields.{key_is, key_refused, text_refused}
use Rattle.link_codec.proofs.Steps.{refused_as}
use Rattle.link_codec.proofs.decoder.Decoder.key_of.Goals as goal

pub returns-in_err-text : goal.returns-in_err-text
returns-in_err-text c =
    let p = err_from_is_err_and c.from_residual.result c.from_residual.ensures.1 in
    rw (p.1, p.2) (refused_as c.in_err-text.field-0.0 _ _ (text_refused (λ k. is_key k && not false) c.args.length 0 c.args.self.now.rest.now) c.in_err-text.ensures)

pub returns-in-None : goal.returns-in-None
returns-in-None c =
    let e = c.new.ensures ∙ c.in_ok-from_slice.ensures.items in
    key_refused c.args.length 0 c.args.self.now.rest.now c.in_ok-text.text.now c.text.new.self.rest.now c.in_ok-text.ensures (sym (ap key_of e) ∙ sym c.in-None.ensures)

pub returns-in-Some : goal.returns-in-Some
returns-in-Some c =
    let e = c.new.ensures ∙ c.in_ok-from_slice.ensures.items in
    key_is c.args.length 0 c.args.self.now.rest.now c.in_ok-text.text.now c.text.new.self.rest.now c.in-Some.key c.in_ok-text.ensures (sym (ap key_of e) ∙ sym c.in-Some.ensures)

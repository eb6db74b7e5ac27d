use Rattle.std.proofs.Common.{sym, ◌∙◌}
use Rattle.log_records.proofs.Fields.{text_long}
use Rattle.log_records.proofs.HeadFields.{head_is}
use Rattle.log_records.proofs.decoder.Decoder.head.Goals as goal

pub copy_from_slice-requires : goal.copy_from_slice-requires
copy_from_slice-requires c = sym (text_long 32 c.byte.new.self.whole c.byte.new.self.rest.now c.in_ok-text.text.now c.text.new.self.rest.now c.in_ok-text.ensures.takes.0)

pub returns-clause-takes : goal.returns-clause-takes
returns-clause-takes c =
    let text_whole = c.in_ok-text.ensures.takes.1 ∙ c.in_ok-version.ensures.takes.1 in
    let text = rw c.in_ok-version.ensures.takes.1 at c.in_ok-text.ensures.takes.0 in
    let site = rw text_whole at c.in_ok-site.ensures.takes.0 in
    (rw c.copy_from_slice.ensures.after (head_is c.args.self.now.whole c.args.self.now.rest.now c.in_ok-version.version c.byte.new.self.rest.now c.in_ok-text.text.now c.text.new.self.rest.now c.in_ok-site.site c.site.new.self.rest.now c.in_ok-version.ensures.takes.0 text site), c.in_ok-site.ensures.takes.1 ∙ text_whole)

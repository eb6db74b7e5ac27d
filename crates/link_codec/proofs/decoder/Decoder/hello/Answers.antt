use Rattle.std.proofs.Common.{sym}
use Rattle.link_codec.proofs.Fields.{text_long}
use Rattle.link_codec.proofs.decoder.Decoder.hello.Goals as goal

pub copy_from_slice-requires : goal.copy_from_slice-requires
copy_from_slice-requires c = sym (text_long 32 0 c.args.self.now.rest.now c.in_ok-text.text.now c.text.new.self.rest.now c.in_ok-text.ensures)

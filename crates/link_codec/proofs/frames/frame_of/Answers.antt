use Rattle.std.proofs.Common.{arith, sym}
use Rattle.std.proofs.lemmas.Result.{err_from_is_err_and}
use Rattle.link_codec.specs.FrameReading.{frame_at}
use Rattle.link_codec.specs.Frames.{IsSpellableFrame, frame_body, frame_kind}
use Rattle.link_codec.proofs.Asks.{asks_again, asks_spelled}
use Rattle.link_codec.proofs.FrameBodies.{frames_again, frames_spelled}
use Rattle.link_codec.proofs.WholeBodies.{body_left, body_refused, body_whole}
use Rattle.link_codec.proofs.frames.frame_of.Goals as goal

pub returns-in_err-frame : goal.returns-in_err-frame
returns-in_err-frame c =
    let p = err_from_is_err_and c.from_residual.result c.from_residual.ensures.1 in
    let refused = rw c.new-decoder.ensures at c.in_err-frame.ensures in
    let again = frames_again (asks_again c.entries_are_read_again.ensures) c.messages_are_read_again.ensures in
    rw (p.1, p.2) (body_refused frame_kind frame_body IsSpellableFrame frame_at again c.in_err-frame.field-0.0 c.args.kind c.args.body.now refused)

pub returns-then-not-is_done : goal.returns-then-not-is_done
returns-then-not-is_done c =
    let read = rw c.new-decoder.ensures at c.in_ok-frame.ensures in
    let again = frames_again (asks_again c.entries_are_read_again.ensures) c.messages_are_read_again.ensures in
    body_left frame_kind frame_body IsSpellableFrame frame_at again c.args.kind c.args.body.now c.in_ok-frame.frame c.frame.new.self.rest.now read (sym c.if-not-is_done.ensures)

pub returns : goal.returns
returns c =
    let read = rw c.new-decoder.ensures at c.in_ok-frame.ensures in
    let spelled = frames_spelled (asks_spelled c.what_is_read_is_an_entry.ensures) c.what_is_read_is_a_message.ensures in
    body_whole frame_kind frame_body IsSpellableFrame frame_at 7 spelled c.args.kind c.args.body.now c.in_ok-frame.frame c.frame.new.self.rest.now (λ i. omega (arith, c.type_inv.body i)) c.requires.some c.requires.few read (sym c.if-not-is_done.ensures)

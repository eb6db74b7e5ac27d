use Rattle.std.proofs.Common.{arith}
use Rattle.link_codec.specs.Frames.{IsSpellableFrame, frame_body, frame_kind, frame_table}
use Rattle.link_codec.proofs.WholeBodies.{value_found}
use Rattle.link_codec.proofs.frames.decode_frame.Goals as goal

pub returns : goal.returns
returns c =
    let at = c.in_ok-kind.ensures in
    value_found frame_kind frame_body IsSpellableFrame frame_table c.args.input.now c.in_ok-kind.kind at.0 c.in_ok-kind.body.now at.1 at.3 (λ i. omega (arith, c.type_inv.input i)) c.in_ok-frame.frame c.in_ok-frame.ensures

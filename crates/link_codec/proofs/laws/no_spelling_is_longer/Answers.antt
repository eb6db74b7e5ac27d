use Rattle.std.proofs.Common.{arith}
use Rattle.link_codec.specs.Answers.{answer_body, answer_kind}
use Rattle.link_codec.specs.Frames.{frame_body, frame_kind}
use Rattle.link_codec.proofs.BodyLengths.{answers_short, frames_short}
use Rattle.link_codec.proofs.WholeBodies.{framed_long}
use Rattle.link_codec.proofs.laws.no_spelling_is_longer.Goals as goal

pub returns-clause-frames : goal.returns-clause-frames
returns-clause-frames c = λ f h. let low = frames_short c.no_batch_is_longer.ensures f h in omega (arith, low, framed_long (frame_kind f) (frame_body f))

pub returns-clause-answers : goal.returns-clause-answers
returns-clause-answers c = λ a h. let low = answers_short c.no_batch_is_longer.ensures a h in omega (arith, low, framed_long (answer_kind a) (answer_body a))

use Rattle.link_codec.specs.Answers.{IsAnswerBody, answer_table}
use Rattle.link_codec.specs.Frames.{IsFrameBody, frame_table}
use Rattle.link_codec.proofs.Inputs.{cut_or_bad}
use Rattle.link_codec.proofs.laws.what_is_cut_is_not_bad.Goals as goal

pub returns-clause-frames : goal.returns-clause-frames
returns-clause-frames c = cut_or_bad frame_table IsFrameBody

pub returns-clause-answers : goal.returns-clause-answers
returns-clause-answers c = cut_or_bad answer_table IsAnswerBody

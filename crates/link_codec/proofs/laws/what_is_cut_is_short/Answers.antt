use Rattle.link_codec.specs.Answers.{answer_table}
use Rattle.link_codec.specs.Frames.{frame_table}
use Rattle.link_codec.proofs.Inputs.{cut_short}
use Rattle.link_codec.proofs.laws.what_is_cut_is_short.Goals as goal

pub returns-clause-frames : goal.returns-clause-frames
returns-clause-frames c = cut_short frame_table

pub returns-clause-answers : goal.returns-clause-answers
returns-clause-answers c = cut_short answer_table

use Rattle.std.proofs.Common.{arith}
use Rattle.link_codec.specs.Answers.{IsSpellableAnswer, answer_body, answer_kind, answer_table}
use Rattle.link_codec.specs.Frames.{IsSpellableFrame, frame_body, frame_kind, frame_table}
use Rattle.link_codec.proofs.BodyLengths.{answer_kinds, answers_short, frame_kinds, frames_short}
use Rattle.link_codec.proofs.Starts.{not_bad, not_cut}
use Rattle.link_codec.proofs.laws.what_begins_with_a_spelling_is_whole.Goals as goal

pub returns-clause-frames : goal.returns-clause-frames
returns-clause-frames c = λ f rest h. (not_cut frame_kind frame_body IsSpellableFrame frame_table frame_kinds (frames_short c.no_batch_is_longer.ensures) (omega arith) f rest h, not_bad frame_kind frame_body IsSpellableFrame frame_table frame_kinds (frames_short c.no_batch_is_longer.ensures) (omega arith) f rest h)

pub returns-clause-answers : goal.returns-clause-answers
returns-clause-answers c = λ a rest h. (not_cut answer_kind answer_body IsSpellableAnswer answer_table answer_kinds (answers_short c.no_batch_is_longer.ensures) (omega arith) a rest h, not_bad answer_kind answer_body IsSpellableAnswer answer_table answer_kinds (answers_short c.no_batch_is_longer.ensures) (omega arith) a rest h)

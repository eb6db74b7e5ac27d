use Rattle.std.proofs.Common.{arith}
use Rattle.link_codec.specs.AnswerReading.{answer_at}
use Rattle.link_codec.specs.Answers.{IsSpellableAnswer, answer_body, answer_kind, answer_table}
use Rattle.link_codec.specs.FrameReading.{frame_at}
use Rattle.link_codec.specs.Frames.{IsSpellableFrame, frame_body, frame_kind, frame_table}
use Rattle.link_codec.proofs.AnswerBodies.{answers_again}
use Rattle.link_codec.proofs.Asks.{asks_again}
use Rattle.link_codec.proofs.BodyLengths.{answer_kinds, answers_short, frame_kinds, frames_short}
use Rattle.link_codec.proofs.FrameBodies.{frames_again}
use Rattle.link_codec.proofs.Starts.{read_back}
use Rattle.link_codec.proofs.laws.what_was_written_is_read_again.Goals as goal

pub returns-clause-frames : goal.returns-clause-frames
returns-clause-frames c = λ f rest answer h. read_back frame_kind frame_body IsSpellableFrame frame_table frame_kinds (frames_short c.no_batch_is_longer.ensures) (omega arith) frame_at (frames_again (asks_again c.entries_are_read_again.ensures) c.messages_are_read_again.ensures) f rest answer h

pub returns-clause-answers : goal.returns-clause-answers
returns-clause-answers c = λ a rest answer h. read_back answer_kind answer_body IsSpellableAnswer answer_table answer_kinds (answers_short c.no_batch_is_longer.ensures) (omega arith) answer_at (answers_again c.messages_are_read_again.ensures) a rest answer h

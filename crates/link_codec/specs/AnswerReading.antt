-- The bodies of answers from left to right, in the same way.
use Rattle.std.specs.Prelude.{ℕ, ◌==◌, List, Result, Ok, if◌then◌else◌}
use Rattle.helios_model.specs.declared.entries.Reply.{Reply}
use Rattle.helios_model.specs.declared.entries.Reply.TheVariants.{Prepared, Committed, Overwritten, Conflict, Value, State as StateReply, Sent, Taken, ClockSpent, PoolFull}
use Rattle.helios_model.specs.declared.entries.State.{State}
use Rattle.helios_model.specs.declared.entries.State.TheVariants.{Pending, Committed as StateCommitted, Aborted, Unknown}
use Rattle.helios_model.specs.Limits.{most_sites}
use Rattle.log_records.specs.declared.faults.DecodeFault.{DecodeFault}
use Rattle.log_records.specs.Fields.{◌>>=◌, is_within, byte_at}
use Rattle.log_records.specs.Ids.{id_at, version_at}
use Rattle.log_records.specs.Keys.{value_at}
use Rattle.log_records.specs.Messages.{message_at}
use Rattle.link_codec.specs.declared.answers.Answer.{Answer}
use Rattle.link_codec.specs.declared.answers.Answer.TheVariants.{Welcome, Reply as ReplyAnswer, Refuse}
use Rattle.link_codec.specs.FrameReading.{one_key_at, site_at}

unfoldable pub prepared_at : List ℕ → Result (Reply × List ℕ) DecodeFault
prepared_at bytes = do
  id ← id_at most_sites 0 bytes
  Ok (Prepared id.0, id.1)

unfoldable pub committed_at : List ℕ → Result (Reply × List ℕ) DecodeFault
committed_at bytes = do
  id ← id_at most_sites 0 bytes
  Ok (Committed id.0, id.1)

unfoldable pub overwritten_at : List ℕ → Result (Reply × List ℕ) DecodeFault
overwritten_at bytes = do
  key ← one_key_at bytes
  current ← version_at 0 key.1
  Ok (Overwritten key.0 current.0, current.1)

unfoldable pub conflict_at : List ℕ → Result (Reply × List ℕ) DecodeFault
conflict_at bytes = do
  id ← id_at most_sites 0 bytes
  Ok (Conflict id.0, id.1)

unfoldable pub stored_at : List ℕ → Result (Reply × List ℕ) DecodeFault
stored_at bytes = do
  version ← version_at 0 bytes
  value ← value_at 0 version.1
  Ok (Value version.0 value.0, value.1)

unfoldable pub aborted_at : List ℕ → Result (State × List ℕ) DecodeFault
aborted_at bytes = do
  cause ← id_at most_sites 0 bytes
  Ok (Aborted cause.0, cause.1)

-- what a state of a kind from 0 to 3 names
unfoldable pub state_behind : ℕ → List ℕ → Result (State × List ℕ) DecodeFault
state_behind kind bytes =
    if kind == 0 then Ok (Pending, bytes)
    else (if kind == 1 then Ok (StateCommitted, bytes)
    else (if kind == 2 then aborted_at bytes
    else Ok (Unknown, bytes)))

unfoldable pub state_at : List ℕ → Result (State × List ℕ) DecodeFault
state_at bytes = do
  kind ← byte_at (is_within 0 3) 0 bytes
  state_behind kind.0 kind.1

unfoldable pub known_at : List ℕ → Result (Reply × List ℕ) DecodeFault
known_at bytes = do
  state ← state_at bytes
  Ok (StateReply state.0, state.1)

unfoldable pub sent_at : List ℕ → Result (Reply × List ℕ) DecodeFault
sent_at bytes = do
  m ← message_at 0 bytes
  Ok (Sent m.0, m.1)

-- what a reply of a kind from 1 to 10 names
unfoldable pub reply_behind : ℕ → List ℕ → Result (Reply × List ℕ) DecodeFault
reply_behind kind bytes =
    if kind == 1 then prepared_at bytes
    else (if kind == 2 then committed_at bytes
    else (if kind == 3 then overwritten_at bytes
    else (if kind == 4 then conflict_at bytes
    else (if kind == 5 then stored_at bytes
    else (if kind == 6 then known_at bytes
    else (if kind == 7 then sent_at bytes
    else (if kind == 8 then Ok (Taken, bytes)
    else (if kind == 9 then Ok (ClockSpent, bytes)
    else Ok (PoolFull, bytes)))))))))

unfoldable pub reply_at : List ℕ → Result (Reply × List ℕ) DecodeFault
reply_at bytes = do
  kind ← byte_at (is_within 1 10) 0 bytes
  reply_behind kind.0 kind.1

unfoldable pub welcome_at : List ℕ → Result (Answer × List ℕ) DecodeFault
welcome_at bytes = do
  site ← site_at bytes
  Ok (Welcome site.0, site.1)

unfoldable pub told_at : List ℕ → Result (Answer × List ℕ) DecodeFault
told_at bytes = do
  reply ← reply_at bytes
  Ok (ReplyAnswer reply.0, reply.1)

unfoldable pub refuse_at : List ℕ → Result (Answer × List ℕ) DecodeFault
refuse_at bytes = do
  code ← byte_at (is_within 1 7) 0 bytes
  Ok (Refuse code.0, code.1)

-- the answer of a kind from 1 to 3
unfoldable pub answer_at : ℕ → List ℕ → Result (Answer × List ℕ) DecodeFault
answer_at kind bytes = if kind == 1 then welcome_at bytes else (if kind == 2 then told_at bytes else refuse_at bytes)

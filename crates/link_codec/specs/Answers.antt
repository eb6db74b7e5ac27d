-- Answers, which a node sends. The body of a Welcome is the node's site, of a Refuse a code from 1 to 7, and of a Reply a byte for
-- its kind and what the reply names.
use Rattle.std.specs.Prelude.{ℕ, ◌<◌, ◌≤◌, List, [], ◌∷◌, ◌++◌, Result}
use Rattle.helios_model.specs.declared.entries.Reply.{Reply}
use Rattle.helios_model.specs.declared.entries.Reply.TheVariants.{Prepared, Committed, Overwritten, Conflict, Value, State as StateReply, Sent, Taken, ClockSpent, PoolFull}
use Rattle.helios_model.specs.declared.entries.State.{State}
use Rattle.helios_model.specs.declared.entries.State.TheVariants.{Pending, Committed as StateCommitted, Aborted, Unknown}
use Rattle.helios_model.specs.Limits.{most_sites}
use Rattle.helios_model.specs.Spellable.{IsSpellableReply}
use Rattle.log_records.specs.Ids.{id_bytes, version_bytes}
use Rattle.log_records.specs.Keys.{key_bytes, value_bytes}
use Rattle.log_records.specs.Messages.{message_bytes}
use Rattle.link_codec.specs.declared.faults.LinkFault.{LinkFault}
use Rattle.link_codec.specs.declared.answers.Answer.{Answer}
use Rattle.link_codec.specs.declared.answers.Answer.TheVariants.{Welcome, Reply as ReplyAnswer, Refuse}
use Rattle.link_codec.specs.Framing.{Table, Decodes, IsBad, IsCut, IsSpelledBody, framed}

-- the longest body is that of a reply with the longest message
abbrev pub answer_table : Table
answer_table = record { kinds = 3; most = 1213477 }

abbrev pub state_bytes : State → List ℕ
state_bytes Pending = 0 ∷ []
state_bytes StateCommitted = 1 ∷ []
state_bytes (Aborted cause) = 2 ∷ id_bytes cause
state_bytes Unknown = 3 ∷ []

abbrev pub reply_bytes : Reply → List ℕ
reply_bytes (Prepared id) = 1 ∷ id_bytes id
reply_bytes (Committed id) = 2 ∷ id_bytes id
reply_bytes (Overwritten key current) = 3 ∷ key_bytes key ++ version_bytes current
reply_bytes (Conflict id) = 4 ∷ id_bytes id
reply_bytes (Value version value) = 5 ∷ version_bytes version ++ value_bytes value
reply_bytes (StateReply state) = 6 ∷ state_bytes state
reply_bytes (Sent m) = 7 ∷ message_bytes m
reply_bytes Taken = 8 ∷ []
reply_bytes ClockSpent = 9 ∷ []
reply_bytes PoolFull = 10 ∷ []

abbrev pub answer_kind : Answer → ℕ
answer_kind (Welcome site) = 1
answer_kind (ReplyAnswer reply) = 2
answer_kind (Refuse code) = 3

abbrev pub answer_body : Answer → List ℕ
answer_body (Welcome site) = site ∷ []
answer_body (ReplyAnswer reply) = reply_bytes reply
answer_body (Refuse code) = code ∷ []

-- the one spelling of an answer
abbrev pub answer_bytes : Answer → List ℕ
answer_bytes answer = framed (answer_kind answer) (answer_body answer)

-- what has a spelling
abbrev pub IsSpellableAnswer : Answer → Type 0
IsSpellableAnswer (Welcome site) = site < most_sites
IsSpellableAnswer (ReplyAnswer reply) = IsSpellableReply reply
IsSpellableAnswer (Refuse code) = (1 ≤ code) × (code ≤ 7)

abbrev pub IsAnswerBody : ℕ → List ℕ → Type 0
IsAnswerBody kind body = IsSpelledBody answer_kind answer_body IsSpellableAnswer kind body

-- the input ends within an answer
abbrev pub IsCutAnswer : List ℕ → Type 0
IsCutAnswer input = IsCut answer_table input

-- no answer begins so
abbrev pub IsBadAnswer : List ℕ → Type 0
IsBadAnswer input = IsBad answer_table IsAnswerBody input

abbrev pub DecodesAnswer : List ℕ → Result (Answer × ℕ) LinkFault → Type 0
DecodesAnswer input answer = Decodes answer_kind answer_body IsSpellableAnswer answer_table input answer

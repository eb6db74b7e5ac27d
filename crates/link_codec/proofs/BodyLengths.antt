-- How long a body can be. That of a message is told by what is known of batches: sixteen entries with it are no longer than the
-- longest batch.
use Rattle.std.proofs.Common.{◌≡◌, ℕ, ◌+◌, ◌≤◌, List, [], ◌∷◌, ◌++◌, length, All, refl, ap, ◌∙◌, arith, length-append}
use Rattle.std.specs.List.{flat_map}
use Rattle.std.specs.Int.{w16, w64, to_be_bytes}
use Rattle.std.proofs.lemmas.List.{append-nil}
use Rattle.std.proofs.lemmas.List.Concat.{flat_map-append, flat_map-cons}
use Rattle.std.proofs.lemmas.List.Elements.{All-append, All-cons, All-nil}
use Rattle.helios_model.specs.declared.entries.Entry.{Entry}
use Rattle.helios_model.specs.declared.entries.Input.{Input}
use Rattle.helios_model.specs.declared.entries.Input.TheVariants.{Request as RequestInput, Push as PushInput}
use Rattle.helios_model.specs.declared.entries.Reply.{Reply}
use Rattle.helios_model.specs.declared.entries.Reply.TheVariants.{Prepared, Committed, Overwritten, Conflict, Value, State as StateReply, Sent, Taken, ClockSpent, PoolFull}
use Rattle.helios_model.specs.declared.entries.State.{State}
use Rattle.helios_model.specs.declared.entries.State.TheVariants.{Pending, Committed as StateCommitted, Aborted, Unknown}
use Rattle.helios_model.specs.declared.ids.TxnId.{TxnId}
use Rattle.helios_model.specs.declared.ids.Version.{Version}
use Rattle.helios_model.specs.declared.ids.Version.TheVariants.{Initial, Of}
use Rattle.helios_model.specs.declared.messages.Message.{Message}
use Rattle.helios_model.specs.Limits.{most_inputs}
use Rattle.helios_model.specs.Spellable.{IsSpellableInput, IsSpellableMessage, IsSpellableReply}
use Rattle.helios_model.specs.Texts.{IsValue}
use Rattle.log_records.specs.Entries.{batch_bytes, entry_bytes, input_bytes}
use Rattle.log_records.specs.Ids.{id_bytes, version_bytes}
use Rattle.log_records.specs.Keys.{key_bytes, value_bytes}
use Rattle.log_records.specs.Messages.{message_bytes}
use Rattle.link_codec.specs.declared.answers.Answer.{Answer}
use Rattle.link_codec.specs.declared.answers.Answer.TheVariants.{Welcome, Reply as ReplyAnswer, Refuse}
use Rattle.link_codec.specs.declared.frames.Frame.{Frame}
use Rattle.link_codec.specs.declared.frames.Frame.TheVariants.{Hello, Get, Status, Request, Pull, Push, Flush}
use Rattle.link_codec.specs.Answers.{IsSpellableAnswer, answer_body, answer_kind, answer_table, reply_bytes, state_bytes}
use Rattle.link_codec.specs.Frames.{IsSpellableFrame, frame_body, frame_kind, frame_table}
use Rattle.link_codec.specs.Framing.{IsKind}

abbrev pub BatchesShort : Type 0
BatchesShort = (count : ℕ) (entries : List Entry) → length entries ≤ most_inputs → All (λ e. IsSpellableInput count e.input) entries → length (batch_bytes entries) ≤ 19415761

-- twice as many entries
doubled : (count : ℕ) (xs : List Entry) → All (λ e. IsSpellableInput count e.input) xs → All (λ e. IsSpellableInput count e.input) (xs ++ xs) × (length (flat_map entry_bytes (xs ++ xs)) ≡ length (flat_map entry_bytes xs) + length (flat_map entry_bytes xs)) × (length (xs ++ xs) ≡ length xs + length xs)
doubled count xs each = (
  All-append (λ (e : Entry). IsSpellableInput count e.input) xs xs each each,
  ap length (flat_map-append entry_bytes xs xs) ∙ length-append (flat_map entry_bytes xs) (flat_map entry_bytes xs),
  length-append xs xs,
)

input_short : BatchesShort → (count : ℕ) (input : Input) → IsSpellableInput count input → length (input_bytes input) ≤ 1213477
input_short short count input is =
    let e : Entry = record { reading = 0; input = input } in
    let one : List Entry = e ∷ [] in
    let single : length (flat_map entry_bytes one) ≡ length (entry_bytes e) = ap length (flat_map-cons entry_bytes e [] ∙ append-nil (entry_bytes e)) in
    let all : All (λ e. IsSpellableInput count e.input) one = All-cons (λ (e : Entry). IsSpellableInput count e.input) e [] is (All-nil (λ (e : Entry). IsSpellableInput count e.input)) in
    let two = doubled count one all in
    let four = doubled count (one ++ one) two.0 in
    let eight = doubled count ((one ++ one) ++ (one ++ one)) four.0 in
    let some = ((one ++ one) ++ (one ++ one)) ++ ((one ++ one) ++ (one ++ one)) in
    let sixteen = doubled count some eight.0 in
    let bound = short count (some ++ some) (omega arith) sixteen.0 in
    let width : length (entry_bytes e) ≡ 8 + length (input_bytes input) = length-append (to_be_bytes w64 0) (input_bytes input) in
    omega (arith, bound, single, two.1, four.1, eight.1, sixteen.1, width)

message_short : BatchesShort → (m : Message) → IsSpellableMessage m → length (message_bytes m) ≤ 1213476
message_short short m h = let low = input_short short m.count (PushInput m) (record { spellable = h; counted = refl }) in omega (arith, low)

id_long : (id : TxnId) → length (id_bytes id) ≡ 9
id_long id = refl

version_short : (version : Version) → length (version_bytes version) ≤ 10
version_short Initial = omega arith
version_short (Of id) = omega (arith, id_long id)

value_short : (value : List ℕ) → IsValue value → length (value_bytes value) ≤ 1026
value_short value h =
    let two : length (to_be_bytes w16 (length value)) ≡ 2 = refl in
    omega (arith, two, h, length-append (to_be_bytes w16 (length value)) value)

pub frames_short : BatchesShort → (f : Frame) → IsSpellableFrame f → length (frame_body f) ≤ 1213476
frames_short short (Hello fingerprint) h = omega (arith, h)
frames_short short (Get key) h = let most = h.most in omega (arith, most)
frames_short short (Status id) h = omega (arith, id_long id)
frames_short short (Request ask) h = let low = input_short short 1 (RequestInput ask) h in omega (arith, low)
frames_short short (Pull to) h = omega arith
frames_short short (Push m) h = message_short short m h
frames_short short Flush h = omega arith

state_short : (state : State) → length (state_bytes state) ≤ 10
state_short Pending = omega arith
state_short StateCommitted = omega arith
state_short (Aborted cause) = omega (arith, id_long cause)
state_short Unknown = omega arith

reply_short : BatchesShort → (reply : Reply) → IsSpellableReply reply → length (reply_bytes reply) ≤ 1213477
reply_short short (Prepared id) h = omega (arith, id_long id)
reply_short short (Committed id) h = omega (arith, id_long id)
reply_short short (Overwritten key current) h = let most = h.0.most in omega (arith, most, version_short current, length-append (key_bytes key) (version_bytes current))
reply_short short (Conflict id) h = omega (arith, id_long id)
reply_short short (Value version value) h = omega (arith, version_short version, value_short value h.1, length-append (version_bytes version) (value_bytes value))
reply_short short (StateReply state) h = omega (arith, state_short state)
reply_short short (Sent m) h = omega (arith, message_short short m h)
reply_short short Taken h = omega arith
reply_short short ClockSpent h = omega arith
reply_short short PoolFull h = omega arith

pub answers_short : BatchesShort → (a : Answer) → IsSpellableAnswer a → length (answer_body a) ≤ 1213477
answers_short short (Welcome site) h = omega arith
answers_short short (ReplyAnswer reply) h = reply_short short reply h
answers_short short (Refuse code) h = omega arith

pub frame_kinds : (f : Frame) → IsSpellableFrame f → IsKind frame_table (frame_kind f)
frame_kinds (Hello fingerprint) h = (omega arith, omega arith)
frame_kinds (Get key) h = (omega arith, omega arith)
frame_kinds (Status id) h = (omega arith, omega arith)
frame_kinds (Request ask) h = (omega arith, omega arith)
frame_kinds (Pull to) h = (omega arith, omega arith)
frame_kinds (Push m) h = (omega arith, omega arith)
frame_kinds Flush h = (omega arith, omega arith)

pub answer_kinds : (a : Answer) → IsSpellableAnswer a → IsKind answer_table (answer_kind a)
answer_kinds (Welcome site) h = (omega arith, omega arith)
answer_kinds (ReplyAnswer reply) h = (omega arith, omega arith)
answer_kinds (Refuse code) h = (omega arith, omega arith)

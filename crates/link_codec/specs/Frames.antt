-- Frames, which a client sends. The body of a Hello is the plan's fingerprint in 32 bytes, of a Get a key, of a Status an id, of a
-- Request what is asked for, of a Pull the site that the message is for, and of a Push a message; a Flush has none.
use Rattle.std.specs.Prelude.{◌≡◌, ℕ, ◌<◌, List, [], ◌∷◌, length, Result}
use Rattle.helios_model.specs.Limits.{most_sites}
use Rattle.helios_model.specs.Spellable.{IsSpellableId, IsSpellableAsk, IsSpellableMessage}
use Rattle.helios_model.specs.Texts.{IsKey}
use Rattle.log_records.specs.Entries.{ask_bytes}
use Rattle.log_records.specs.Ids.{id_bytes}
use Rattle.log_records.specs.Keys.{key_bytes}
use Rattle.log_records.specs.Messages.{message_bytes}
use Rattle.link_codec.specs.declared.faults.LinkFault.{LinkFault}
use Rattle.link_codec.specs.declared.frames.Frame.{Frame}
use Rattle.link_codec.specs.declared.frames.Frame.TheVariants.{Hello, Get, Status, Request, Pull, Push, Flush}
use Rattle.link_codec.specs.Framing.{Table, Decodes, IsBad, IsCut, IsSpelledBody, framed}

-- the longest body is that of a Push with the longest message
abbrev pub frame_table : Table
frame_table = record { kinds = 7; most = 1213476 }

abbrev pub frame_kind : Frame → ℕ
frame_kind (Hello fingerprint) = 1
frame_kind (Get key) = 2
frame_kind (Status id) = 3
frame_kind (Request ask) = 4
frame_kind (Pull to) = 5
frame_kind (Push m) = 6
frame_kind Flush = 7

abbrev pub frame_body : Frame → List ℕ
frame_body (Hello fingerprint) = fingerprint
frame_body (Get key) = key_bytes key
frame_body (Status id) = id_bytes id
frame_body (Request ask) = ask_bytes ask
frame_body (Pull to) = to ∷ []
frame_body (Push m) = message_bytes m
frame_body Flush = []

-- the one spelling of a frame
abbrev pub frame_bytes : Frame → List ℕ
frame_bytes frame = framed (frame_kind frame) (frame_body frame)

-- what has a spelling; a frame may name any site that a cluster can have
abbrev pub IsSpellableFrame : Frame → Type 0
IsSpellableFrame (Hello fingerprint) = length fingerprint ≡ 32
IsSpellableFrame (Get key) = IsKey key
IsSpellableFrame (Status id) = IsSpellableId most_sites id
IsSpellableFrame (Request ask) = IsSpellableAsk ask
IsSpellableFrame (Pull to) = to < most_sites
IsSpellableFrame (Push m) = IsSpellableMessage m
IsSpellableFrame Flush = Unit {0}

abbrev pub IsFrameBody : ℕ → List ℕ → Type 0
IsFrameBody kind body = IsSpelledBody frame_kind frame_body IsSpellableFrame kind body

-- the input ends within a frame
abbrev pub IsCutFrame : List ℕ → Type 0
IsCutFrame input = IsCut frame_table input

-- no frame begins so
abbrev pub IsBadFrame : List ℕ → Type 0
IsBadFrame input = IsBad frame_table IsFrameBody input

abbrev pub DecodesFrame : List ℕ → Result (Frame × ℕ) LinkFault → Type 0
DecodesFrame input answer = Decodes frame_kind frame_body IsSpellableFrame frame_table input answer

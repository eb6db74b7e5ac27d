-- The bodies of frames from left to right, by the fields of records. No place is told of what a body breaks, so places are counted
-- from 0 bytes.
use Rattle.std.specs.Prelude.{ℕ, ◌==◌, false, true, List, Result, Ok, nat_lt, if◌then◌else◌}
use Rattle.helios_model.specs.Limits.{most_sites}
use Rattle.log_records.specs.declared.faults.DecodeFault.{DecodeFault}
use Rattle.log_records.specs.Entries.{ask_at}
use Rattle.log_records.specs.Fields.{◌>>=◌, byte_at, text_at}
use Rattle.log_records.specs.Ids.{id_at}
use Rattle.log_records.specs.Keys.{key_at}
use Rattle.log_records.specs.Messages.{message_at}
use Rattle.link_codec.specs.declared.frames.Frame.{Frame}
use Rattle.link_codec.specs.declared.frames.Frame.TheVariants.{Hello, Get, Status, Request, Pull, Push, Flush}

-- one of the sites that a cluster can have
abbrev pub site_at : List ℕ → Result (ℕ × List ℕ) DecodeFault
site_at bytes = byte_at (λ b. nat_lt b most_sites) 0 bytes

-- a key, none of which was given before
abbrev pub one_key_at : List ℕ → Result (List ℕ × List ℕ) DecodeFault
one_key_at bytes = key_at (λ key. false) 0 bytes

unfoldable pub hello_at : List ℕ → Result (Frame × List ℕ) DecodeFault
hello_at bytes = do
  fingerprint ← text_at (λ text. true) 32 0 bytes
  Ok (Hello fingerprint.0, fingerprint.1)

unfoldable pub get_at : List ℕ → Result (Frame × List ℕ) DecodeFault
get_at bytes = do
  key ← one_key_at bytes
  Ok (Get key.0, key.1)

unfoldable pub status_at : List ℕ → Result (Frame × List ℕ) DecodeFault
status_at bytes = do
  id ← id_at most_sites 0 bytes
  Ok (Status id.0, id.1)

unfoldable pub request_at : List ℕ → Result (Frame × List ℕ) DecodeFault
request_at bytes = do
  ask ← ask_at 0 bytes
  Ok (Request ask.0, ask.1)

unfoldable pub pull_at : List ℕ → Result (Frame × List ℕ) DecodeFault
pull_at bytes = do
  to ← site_at bytes
  Ok (Pull to.0, to.1)

unfoldable pub push_at : List ℕ → Result (Frame × List ℕ) DecodeFault
push_at bytes = do
  m ← message_at 0 bytes
  Ok (Push m.0, m.1)

-- the frame of a kind from 1 to 7
unfoldable pub frame_at : ℕ → List ℕ → Result (Frame × List ℕ) DecodeFault
frame_at kind bytes =
    if kind == 1 then hello_at bytes
    else (if kind == 2 then get_at bytes
    else (if kind == 3 then status_at bytes
    else (if kind == 4 then request_at bytes
    else (if kind == 5 then pull_at bytes
    else (if kind == 6 then push_at bytes
    else Ok (Flush, bytes))))))

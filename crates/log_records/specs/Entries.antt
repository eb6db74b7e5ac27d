-- Entries and batches. An entry is 8 bytes for the reading of a clock, which may be any number; a byte for the kind of its input; and
-- the input: behind the byte 1 the reads and puts that a client asks for, behind 2 the site that a message is for, and behind 3 a
-- message of this number of sites. A batch is a byte for the number of entries, from 1 to 16, and each in turn.
use Rattle.std.specs.Prelude.{ℕ, ◌-◌, ◌^◌, ◌≤◌, ◌==◌, List, [], ◌∷◌, ◌++◌, All, length, Result, Ok, nat_lt, if◌then◌else◌}
use Rattle.std.specs.Int.{w64, to_be_bytes}
use Rattle.helios_model.specs.declared.entries.Entry.{Entry}
use Rattle.helios_model.specs.declared.entries.Input.{Input}
use Rattle.helios_model.specs.declared.entries.Input.TheVariants.{Get, Status, Request, Pull, Push}
use Rattle.helios_model.specs.Limits.{most_inputs}
use Rattle.helios_model.specs.Spellable.{IsSpellableMessage, IsSpellableEntry}
use Rattle.helios_model.specs.Transactions.{Asking}
use Rattle.log_records.specs.declared.faults.DecodeFault.{DecodeFault}
use Rattle.log_records.specs.Fields.{◌>>=◌, is_within, byte_at, number_at, each_after}
use Rattle.log_records.specs.Heads.{whole_input}
use Rattle.log_records.specs.Items.{list_bytes, reads_bytes, reads_at, puts_bytes, puts_at}
use Rattle.log_records.specs.Messages.{message_bytes, message_at}

abbrev pub ask_bytes : Asking → List ℕ
ask_bytes ask = reads_bytes ask.reads ++ puts_bytes ask.puts

-- an input that is not journaled has no spelling
abbrev pub input_bytes : Input → List ℕ
input_bytes (Get key) = []
input_bytes (Status id) = []
input_bytes (Request ask) = 1 ∷ ask_bytes ask
input_bytes (Pull to) = 2 ∷ to ∷ []
input_bytes (Push m) = 3 ∷ message_bytes m

abbrev pub entry_bytes : Entry → List ℕ
entry_bytes e = to_be_bytes w64 e.reading ++ input_bytes e.input

abbrev pub batch_bytes : List Entry → List ℕ
batch_bytes entries = list_bytes entry_bytes entries

-- what a writer of entries takes: an input that is journaled, a message among them within its limits
abbrev pub IsWritableInput : Input → Type 0
IsWritableInput (Get key) = ⊥
IsWritableInput (Status id) = ⊥
IsWritableInput (Request ask) = Unit {0}
IsWritableInput (Pull to) = Unit {0}
IsWritableInput (Push m) = IsSpellableMessage m

abbrev pub IsWritable : Entry → Type 0
IsWritable e = IsWritableInput e.input

-- what a writer of the journaled entries among some takes: a message among them within its limits
abbrev pub MayBeWrittenInput : Input → Type 0
MayBeWrittenInput (Get key) = Unit {0}
MayBeWrittenInput (Status id) = Unit {0}
MayBeWrittenInput (Request ask) = Unit {0}
MayBeWrittenInput (Pull to) = Unit {0}
MayBeWrittenInput (Push m) = IsSpellableMessage m

abbrev pub MayBeWritten : Entry → Type 0
MayBeWritten e = MayBeWrittenInput e.input

-- from one to sixteen entries of so many sites
pub record IsSpellableBatch (count : ℕ) (entries : List Entry) : Type 0 where
  pub some : 1 ≤ length entries
  pub few : length entries ≤ most_inputs
  pub each : All (IsSpellableEntry count) entries

unfoldable pub ask_at : ℕ → List ℕ → Result (Asking × List ℕ) DecodeFault
ask_at whole bytes = do
  reads ← reads_at whole bytes
  puts ← puts_at whole reads.1
  Ok (record { reads = reads.0; puts = puts.0 }, puts.1)

unfoldable pub request_at : ℕ → List ℕ → Result (Input × List ℕ) DecodeFault
request_at whole bytes = do
  ask ← ask_at whole bytes
  Ok (Request ask.0, ask.1)

unfoldable pub pull_at : ℕ → ℕ → List ℕ → Result (Input × List ℕ) DecodeFault
pull_at count whole bytes = do
  to ← byte_at (λ b. nat_lt b count) whole bytes
  Ok (Pull to.0, to.1)

-- a message of so many sites; of another number it is refused at its first byte, whatever follows
unfoldable pub push_at : ℕ → ℕ → List ℕ → Result (Input × List ℕ) DecodeFault
push_at count whole bytes = do
  same ← byte_at (is_within count count) whole bytes
  m ← message_at whole bytes
  Ok (Push m.0, m.1)

unfoldable pub input_at : ℕ → ℕ → List ℕ → Result (Input × List ℕ) DecodeFault
input_at count whole bytes = do
  tag ← byte_at (is_within 1 3) whole bytes
  if tag.0 == 1 then request_at whole tag.1 else (if tag.0 == 2 then pull_at count whole tag.1 else push_at count whole tag.1)

-- an entry of a journal of so many sites
unfoldable pub entry_at : ℕ → ℕ → List ℕ → Result (Entry × List ℕ) DecodeFault
entry_at count whole bytes = do
  reading ← number_at w64 (is_within 0 (2 ^ 64 - 1)) whole bytes
  input ← input_at count whole reading.1
  Ok (record { reading = reading.0; input = input.0 }, input.1)

unfoldable pub entries_at : ℕ → ℕ → List ℕ → Result (List Entry × List ℕ) DecodeFault
entries_at count whole bytes = do
  n ← byte_at (is_within 1 most_inputs) whole bytes
  each_after (λ before. entry_at count whole) n.0 [] n.1

-- the batch that the whole input is
unfoldable pub batch_of : ℕ → List ℕ → Result (List Entry) DecodeFault
batch_of count input = entries_at count (length input) input >>= whole_input (length input)

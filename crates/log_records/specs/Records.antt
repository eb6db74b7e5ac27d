-- Records: a Prepare is the byte 1, its id, its reads and its writes; a Commit is the byte 2, the id and a time above the id's; an
-- Abort is the byte 3, the id, a time above the id's and the id of its cause.
use Rattle.std.specs.Prelude.{ℕ, ◌+◌, ◌==◌, List, ◌∷◌, ◌++◌, Result, Ok, if◌then◌else◌}
use Rattle.std.specs.Int.{w64, to_be_bytes}
use Rattle.helios_model.specs.declared.ids.TxnId.{TxnId}
use Rattle.helios_model.specs.declared.records.Record.{Record}
use Rattle.helios_model.specs.declared.records.Record.TheVariants.{Prepare, Commit, Abort}
use Rattle.helios_model.specs.Limits.{last_time}
use Rattle.helios_model.specs.Transactions.{Transaction}
use Rattle.log_records.specs.declared.faults.DecodeFault.{DecodeFault}
use Rattle.log_records.specs.Fields.{◌>>=◌, is_within, byte_at, number_at}
use Rattle.log_records.specs.Ids.{id_bytes, id_at}
use Rattle.log_records.specs.Items.{reads_bytes, reads_at, writes_bytes, writes_at}

abbrev pub prepare_bytes : Transaction → List ℕ
prepare_bytes p = id_bytes p.id ++ reads_bytes p.reads ++ writes_bytes p.writes

abbrev pub record_bytes : Record → List ℕ
record_bytes (Prepare p) = 1 ∷ prepare_bytes p
record_bytes (Commit id time) = 2 ∷ id_bytes id ++ to_be_bytes w64 time
record_bytes (Abort id time cause) = 3 ∷ id_bytes id ++ to_be_bytes w64 time ++ id_bytes cause

-- what a transaction of an id reads and writes
unfoldable pub prepare_behind : TxnId → ℕ → List ℕ → Result (Transaction × List ℕ) DecodeFault
prepare_behind id whole bytes = do
  reads ← reads_at whole bytes
  writes ← writes_at whole reads.1
  Ok (record { id = id; reads = reads.0; writes = writes.0 }, writes.1)

-- a time above that of an id
unfoldable pub end_at : TxnId → ℕ → List ℕ → Result (ℕ × List ℕ) DecodeFault
end_at id whole bytes = number_at w64 (is_within (id.time + 1) last_time) whole bytes

unfoldable pub prepare_at : ℕ → ℕ → List ℕ → Result (Record × List ℕ) DecodeFault
prepare_at count whole bytes = do
  id ← id_at count whole bytes
  p ← prepare_behind id.0 whole id.1
  Ok (Prepare p.0, p.1)

unfoldable pub commit_at : ℕ → ℕ → List ℕ → Result (Record × List ℕ) DecodeFault
commit_at count whole bytes = do
  id ← id_at count whole bytes
  time ← end_at id.0 whole id.1
  Ok (Commit id.0 time.0, time.1)

unfoldable pub abort_at : ℕ → ℕ → List ℕ → Result (Record × List ℕ) DecodeFault
abort_at count whole bytes = do
  id ← id_at count whole bytes
  time ← end_at id.0 whole id.1
  cause ← id_at count whole time.1
  Ok (Abort id.0 time.0 cause.0, cause.1)

-- a record of a log of so many sites
unfoldable pub record_at : ℕ → ℕ → List ℕ → Result (Record × List ℕ) DecodeFault
record_at count whole bytes = do
  tag ← byte_at (is_within 1 3) whole bytes
  if tag.0 == 1 then prepare_at count whole tag.1 else (if tag.0 == 2 then commit_at count whole tag.1 else abort_at count whole tag.1)

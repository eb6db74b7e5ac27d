-- Ids and versions. An id is a byte for the site and 8 bytes for the time, from 1 to the last; a version is the byte 0, or the
-- byte 1 and an id of any site that a cluster can have.
use Rattle.std.specs.Prelude.{ℕ, ◌==◌, List, [], ◌∷◌, Result, Ok, nat_lt, if◌then◌else◌}
use Rattle.std.specs.Int.{w64, to_be_bytes}
use Rattle.helios_model.specs.declared.ids.TxnId.{TxnId}
use Rattle.helios_model.specs.declared.ids.Version.{Version}
use Rattle.helios_model.specs.declared.ids.Version.TheVariants.{Initial, Of}
use Rattle.helios_model.specs.Limits.{last_time, most_sites}
use Rattle.log_records.specs.declared.faults.DecodeFault.{DecodeFault}
use Rattle.log_records.specs.Fields.{◌>>=◌, is_within, byte_at, number_at}

abbrev pub id_bytes : TxnId → List ℕ
id_bytes id = id.site ∷ to_be_bytes w64 id.time

-- an id of one of so many sites
unfoldable pub id_at : ℕ → ℕ → List ℕ → Result (TxnId × List ℕ) DecodeFault
id_at count whole bytes = do
  site ← byte_at (λ b. nat_lt b count) whole bytes
  time ← number_at w64 (is_within 1 last_time) whole site.1
  Ok (record { site = site.0; time = time.0 }, time.1)

abbrev pub version_bytes : Version → List ℕ
version_bytes Initial = 0 ∷ []
version_bytes (Of id) = 1 ∷ id_bytes id

-- the version of an id
abbrev pub version_of_id : TxnId × List ℕ → Result (Version × List ℕ) DecodeFault
version_of_id id = Ok (Of id.0, id.1)

unfoldable pub version_at : ℕ → List ℕ → Result (Version × List ℕ) DecodeFault
version_at whole bytes = do
  tag ← byte_at (is_within 0 1) whole bytes
  if tag.0 == 0 then Ok (Initial, tag.1) else (id_at most_sites whole tag.1 >>= version_of_id)

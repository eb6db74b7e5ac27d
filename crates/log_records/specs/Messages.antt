-- Messages. A body is a byte for the number of sites, from 2 to 32; one for the sender and one for another site; the times of the
-- table and of the cover; and a byte for the number of records, from 0 to 64, and each in turn. A message is a body and its digest.
use Rattle.std.specs.Prelude.{◌≡◌, ℕ, ◌-◌, ◌*◌, ◌<◌, ◌==◌, ◌&&◌, ◌||◌, Bool, true, not, List, [], ◌∷◌, ◌++◌, length, take, slice_index, slice_index_or, Option, None, Some, Result, Ok, Err, nat_le, nat_lt, if◌then◌else◌}
use Rattle.std.specs.Int.{w64, to_be_bytes}
use Rattle.std.specs.List.{flat_map, list_all}
use Rattle.sha2.specs.Sha256.{sha256}
use Rattle.helios_model.specs.declared.messages.Message.{Message}
use Rattle.helios_model.specs.declared.records.Record.{Record}
use Rattle.helios_model.specs.Limits.{last_time, most_records, most_sites}
use Rattle.helios_model.specs.Log.{origin, own_time}
use Rattle.helios_model.specs.Texts.{same_text}
use Rattle.log_records.specs.declared.faults.DecodeFault.{DecodeFault}
use Rattle.log_records.specs.declared.faults.DecodeFault.TheVariants.{BadDigest}
use Rattle.log_records.specs.declared.route.Route.{Route}
use Rattle.log_records.specs.Fields.{◌>>=◌, is_within, ruled, byte_at, number_at, text_at, each_after}
use Rattle.log_records.specs.Items.{list_bytes}
use Rattle.log_records.specs.Records.{record_bytes, record_at}

-- each time in turn, with nothing in front
abbrev pub times_bytes : List ℕ → List ℕ
times_bytes times = flat_map (to_be_bytes w64) times

abbrev pub route_bytes : Message → List ℕ
route_bytes m = m.count ∷ m.from ∷ m.to ∷ []

abbrev pub body_bytes : Message → List ℕ
body_bytes m = route_bytes m ++ times_bytes m.table ++ times_bytes m.cover ++ list_bytes record_bytes m.records

abbrev pub message_bytes : Message → List ℕ
message_bytes m = body_bytes m ++ sha256 (body_bytes m)

-- one of so many sites, other than this one
unfoldable pub other_at : ℕ → ℕ → ℕ → List ℕ → Result (ℕ × List ℕ) DecodeFault
other_at count one whole bytes = byte_at (λ b. nat_lt b count && not (b == one)) whole bytes

-- how many sites there are, one of them, and another one
unfoldable pub route_at : ℕ → List ℕ → Result (Route × List ℕ) DecodeFault
route_at whole bytes = do
  count ← byte_at (is_within 2 most_sites) whole bytes
  from ← byte_at (λ b. nat_lt b count.0) whole count.1
  to ← other_at count.0 from.0 whole from.1
  Ok (record { count = count.0; from = from.0; to = to.0 }, to.1)

-- so many times
unfoldable pub times_at : ℕ → ℕ → List ℕ → Result (List ℕ × List ℕ) DecodeFault
times_at n whole bytes = each_after (λ before. number_at w64 (is_within 0 last_time) whole) n [] bytes

-- an own time is above those of the records of the same origin
abbrev pub is_later : List Record → ℕ → ℕ → Bool
is_later before site time = list_all (λ r. not (origin r == site) || nat_lt (own_time r) time) before

-- a time is above the last one, where there is one
abbrev pub is_past : Option ℕ → ℕ → Bool
is_past None time = true
is_past (Some last) time = nat_lt last time

-- for each site the own time of its last record among these, where there is one
abbrev pub AreLatest : List Record → List (Option ℕ) → Type 0
AreLatest before times = (site time : ℕ) → site < most_sites → is_later before site time ≡ is_past (slice_index_or times site None) time

-- a record may stand behind others: it is later than each of its origin, and not above the cover
abbrev pub may_follow : List ℕ → List Record → Record → Bool
may_follow cover before r = is_later before (origin r) (own_time r) && nat_le (own_time r) (slice_index cover (origin r))

-- a record whose fields are accepted may still be refused, at its tag
unfoldable pub next_at : ℕ → List ℕ → ℕ → List Record → List ℕ → Result (Record × List ℕ) DecodeFault
next_at count cover whole before bytes = do
  r ← record_at count whole bytes
  ruled (may_follow cover before r.0) whole bytes r.0 r.1

-- how many records there are, and each in turn
unfoldable pub records_at : ℕ → List ℕ → ℕ → List ℕ → Result (List Record × List ℕ) DecodeFault
records_at count cover whole bytes = do
  n ← byte_at (is_within 0 most_records) whole bytes
  each_after (next_at count cover whole) n.0 [] n.1

unfoldable pub body_at : ℕ → List ℕ → Result (Message × List ℕ) DecodeFault
body_at whole bytes = do
  route ← route_at whole bytes
  table ← times_at (route.0.count * route.0.count) whole route.1
  cover ← times_at route.0.count whole table.1
  records ← records_at route.0.count cover.0 whole cover.1
  Ok (record { from = route.0.from; to = route.0.to; count = route.0.count; table = table.0; cover = cover.0; records = records.0 }, records.1)

-- 32 bytes that are the digest of a body
unfoldable pub digest_at : List ℕ → ℕ → List ℕ → Result (List ℕ × List ℕ) DecodeFault
digest_at body whole bytes = do
  digest ← text_at (λ text. true) 32 whole bytes
  if same_text digest.0 (sha256 body) then Ok digest else Err BadDigest

-- the bytes in front of what is left
abbrev pub in_front : List ℕ → List ℕ → List ℕ
in_front bytes left = take (length bytes - length left) bytes

unfoldable pub message_at : ℕ → List ℕ → Result (Message × List ℕ) DecodeFault
message_at whole bytes = do
  body ← body_at whole bytes
  digest ← digest_at (in_front bytes body.1) whole body.1
  Ok (body.0, digest.1)

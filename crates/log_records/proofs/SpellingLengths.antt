-- How long the spellings of times and the digests are.
use Rattle.std.proofs.Common.{◌≡◌, ℕ, zero, suc, ◌+◌, ◌*◌, List, [], ◌∷◌, ◌++◌, length, slice_index, refl, ap, ◌∙◌, arith, length-append}
use Rattle.std.specs.Int.{w32, w64, to_be_bytes}
use Rattle.std.proofs.lemmas.List.Concat.{flat_map-cons}
use Rattle.helios_model.specs.declared.messages.Message.{Message}
use Rattle.sha2.specs.Sha256.{digest_bytes, final_hash, initial_hash_256, sha256}
use Rattle.log_records.specs.Items.{list_bytes}
use Rattle.log_records.specs.Messages.{body_bytes, message_bytes, route_bytes, times_bytes}
use Rattle.log_records.specs.Records.{record_bytes}

pub times_length : (times : List ℕ) → length (times_bytes times) ≡ 8 * length times
times_length [] = refl
times_length (t ∷ ts) =
    let more = ap length (flat_map-cons (to_be_bytes w64) t ts) ∙ length-append (to_be_bytes w64 t) (times_bytes ts) in
    let eight : length (to_be_bytes w64 t) ≡ 8 = refl in
    omega (arith, more, eight, times_length ts)

words_length : (h : List ℕ) (n : ℕ) → length (digest_bytes h n) ≡ 4 * n
unfolding digest_bytes
words_length h zero = refl
words_length h (suc n) =
    let four : length (to_be_bytes w32 (slice_index h n)) ≡ 4 = refl in
    omega (arith, length-append (digest_bytes h n) (to_be_bytes w32 (slice_index h n)), four, words_length h n)

pub digest_length : (m : List ℕ) → length (sha256 m) ≡ 32
unfolding sha256
digest_length m = words_length (final_hash initial_hash_256 m) 8

-- what a message's spelling comes to
pub message_long : (m : Message) → length (message_bytes m) ≡ 3 + 8 * (length m.table + length m.cover) + length (list_bytes record_bytes m.records) + 32
message_long m =
    let front = route_bytes m ++ times_bytes m.table ++ times_bytes m.cover in
    let whole = length-append (body_bytes m) (sha256 (body_bytes m)) in
    let body = length-append front (list_bytes record_bytes m.records) in
    let both = length-append (route_bytes m ++ times_bytes m.table) (times_bytes m.cover) in
    let one = length-append (route_bytes m) (times_bytes m.table) in
    let three : length (route_bytes m) ≡ 3 = refl in
    omega (arith, whole, body, both, one, three, digest_length (body_bytes m), times_length m.table, times_length m.cover)

-- The most bytes that a spelling has.
use Rattle.std.proofs.Common.{◌≡◌, ℕ, ◌*◌, ◌≤◌, List, [], ◌∷◌, ◌++◌, All, length, get_or, refl, arith, length-append}
use Rattle.std.specs.List.{flat_map}
use Rattle.std.specs.Int.{w16, w64, to_be_bytes}
use Rattle.std.proofs.lemmas.List.Elements.{All-tail}
use Rattle.helios_model.specs.declared.entries.Entry.{Entry}
use Rattle.helios_model.specs.declared.entries.Input.{Input}
use Rattle.helios_model.specs.declared.entries.Input.TheVariants.{Get, Status, Request, Pull, Push}
use Rattle.helios_model.specs.declared.ids.TxnId.{TxnId}
use Rattle.helios_model.specs.declared.ids.Version.{Version}
use Rattle.helios_model.specs.declared.ids.Version.TheVariants.{Initial, Of}
use Rattle.helios_model.specs.declared.messages.Message.{Message}
use Rattle.helios_model.specs.declared.records.Record.{Record}
use Rattle.helios_model.specs.declared.records.Record.TheVariants.{Prepare, Commit, Abort}
use Rattle.helios_model.specs.declared.transactions.PutItem.{PutItem}
use Rattle.helios_model.specs.declared.transactions.ReadItem.{ReadItem}
use Rattle.helios_model.specs.declared.transactions.WriteItem.{WriteItem}
use Rattle.helios_model.specs.Limits.{most_inputs, most_sites}
use Rattle.helios_model.specs.Spellable.{AreSpellablePuts, AreSpellableReads, AreSpellableWrites, IsSpellableInput, IsSpellableMessage, IsSpellablePrepare, IsSpellableRecord}
use Rattle.helios_model.specs.Texts.{IsKey, IsValue}
use Rattle.helios_model.specs.Transactions.{Transaction}
use Rattle.log_records.specs.Entries.{batch_bytes, entry_bytes, input_bytes}
use Rattle.log_records.specs.Ids.{id_bytes, version_bytes}
use Rattle.log_records.specs.Items.{put_bytes, puts_bytes, read_bytes, reads_bytes, write_bytes, writes_bytes}
use Rattle.log_records.specs.Keys.{key_bytes, value_bytes}
use Rattle.log_records.specs.Messages.{message_bytes}
use Rattle.log_records.specs.Records.{prepare_bytes, record_bytes}
use Rattle.log_records.proofs.SpellingLengths.{message_long}

-- some items, each of which has at most so many bytes
list_most : {X : Type 0} (bytes_of : X → List ℕ) (most : ℕ) (xs : List X) → All (λ x. length (bytes_of x) ≤ most) xs → length (flat_map bytes_of xs) ≤ length xs * most
list_most bytes_of most [] each = omega arith
list_most {X = X} bytes_of most (x ∷ xs) each =
    omega (
      arith,
      length-append (bytes_of x) (flat_map bytes_of xs),
      each 0 x (omega arith),
      list_most bytes_of most xs (All-tail (λ x. length (bytes_of x) ≤ most) x xs each),
    )

version_most : (v : Version) → length (version_bytes v) ≤ 10
version_most Initial = omega arith
version_most (Of id) = let eight : length (to_be_bytes w64 id.time) ≡ 8 = refl in omega (arith, eight)

value_most : (value : List ℕ) → IsValue value → length (value_bytes value) ≤ 1026
value_most value is = let two : length (to_be_bytes w16 (length value)) ≡ 2 = refl in omega (arith, is, two, length-append (to_be_bytes w16 (length value)) value)

read_most : (r : ReadItem) → IsKey r.key → length (read_bytes r) ≤ 75
read_most r is = omega (arith, is.most, version_most r.version, length-append (key_bytes r.key) (version_bytes r.version))

put_most : (p : PutItem) → IsKey p.key → IsValue p.value → length (put_bytes p) ≤ 1091
put_most p is value = omega (arith, is.most, value_most p.value value, length-append (key_bytes p.key) (value_bytes p.value))

write_most : (w : WriteItem) → IsKey w.key → IsValue w.value → length (write_bytes w) ≤ 1101
write_most w is value =
    let one = length-append (key_bytes w.key ++ value_bytes w.value) (version_bytes w.over) in
    let two = length-append (key_bytes w.key) (value_bytes w.value) in
    omega (arith, is.most, value_most w.value value, version_most w.over, one, two)

reads_most : (reads : List ReadItem) → AreSpellableReads reads → length (reads_bytes reads) ≤ 1201
reads_most reads are = omega (arith, are.few, list_most read_bytes 75 reads (λ k d low. read_most _ (are.keys k d low)))

puts_most : (puts : List PutItem) → AreSpellablePuts puts → length (puts_bytes puts) ≤ 17457
puts_most puts are = omega (arith, are.few, list_most put_bytes 1091 puts (λ k d low. put_most _ (are.keys k d low) (are.values k d low)))

writes_most : (writes : List WriteItem) → AreSpellableWrites writes → length (writes_bytes writes) ≤ 17617
writes_most writes are = omega (arith, are.few, list_most write_bytes 1101 writes (λ k d low. write_most _ (are.keys k d low) (are.values k d low)))

id_long : (id : TxnId) → length (id_bytes id) ≡ 9
id_long id = refl

prepare_most : (count : ℕ) (p : Transaction) → IsSpellablePrepare count p → length (prepare_bytes p) ≤ 18827
prepare_most count p is =
    let one = length-append (id_bytes p.id ++ reads_bytes p.reads) (writes_bytes p.writes) in
    let two = length-append (id_bytes p.id) (reads_bytes p.reads) in
    omega (arith, one, two, id_long p.id, reads_most p.reads is.reads, writes_most p.writes is.writes)

record_most : (count : ℕ) (r : Record) → IsSpellableRecord count r → length (record_bytes r) ≤ 18828
record_most count (Prepare p) is = omega (arith, prepare_most count p is)
record_most count (Commit id time) is = let long : length (record_bytes (Commit id time)) ≡ 18 = refl in omega (arith, long)
record_most count (Abort id time cause) is = let long : length (record_bytes (Abort id time cause)) ≡ 27 = refl in omega (arith, long)

square_most : (n : ℕ) → n ≤ most_sites → n * n ≤ 1024
square_most n few = grind arith

message_most : (m : Message) → IsSpellableMessage m → length (message_bytes m) ≤ 1213476
message_most m is =
    let records = list_most record_bytes 18828 m.records (λ k d low. record_most m.count _ (is.records k d low)) in
    omega (arith, message_long m, is.few, is.square, is.one_row, square_most m.count is.few, is.few_records, records)

input_most : (count : ℕ) (input : Input) → IsSpellableInput count input → length (input_bytes input) ≤ 1213477
input_most count (Get key) is = absurd is
input_most count (Status id) is = absurd is
input_most count (Request ask) is = omega (arith, length-append (reads_bytes ask.reads) (puts_bytes ask.puts), reads_most ask.reads is.reads, puts_most ask.puts is.puts)
input_most count (Pull to) is = omega arith
input_most count (Push m) is = omega (arith, message_most m is.spellable)

entry_most : (count : ℕ) (e : Entry) → IsSpellableInput count e.input → length (entry_bytes e) ≤ 1213485
entry_most count e is =
    let eight : length (to_be_bytes w64 e.reading) ≡ 8 = refl in
    omega (arith, eight, length-append (to_be_bytes w64 e.reading) (input_bytes e.input), input_most count e.input is)

pub batch_most : (count : ℕ) (entries : List Entry) → length entries ≤ most_inputs → All (λ e. IsSpellableInput count e.input) entries → length (batch_bytes entries) ≤ 19415761
batch_most count entries few each = omega (arith, few, list_most entry_bytes 1213485 entries (λ k d low. entry_most count (get_or entries k d) (each k d low)))

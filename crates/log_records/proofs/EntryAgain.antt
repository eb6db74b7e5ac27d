-- Entries and batches that were written are read again, whatever follows them.
use Rattle.std.proofs.Common.{◌≡◌, ℕ, suc, ◌-◌, ◌^◌, ◌<◌, true, nat_lt, List, [], ◌∷◌, ◌++◌, length, All, Result, Ok, refl, sym, ap, ◌∙◌, append_assoc, arith}
use Rattle.std.specs.List.{flat_map}
use Rattle.std.specs.Int.{w64, to_be_bytes}
use Rattle.std.proofs.lemmas.Bool.{lt-ltb}
use Rattle.std.proofs.lemmas.List.{append-nil}
use Rattle.std.proofs.lemmas.List.Concat.{flat_map-cons}
use Rattle.std.proofs.lemmas.List.Elements.{All-head, All-tail}
use Rattle.helios_model.specs.declared.entries.Entry.{Entry}
use Rattle.helios_model.specs.declared.entries.Input.{Input}
use Rattle.helios_model.specs.declared.entries.Input.TheVariants.{Get, Status, Request, Pull, Push}
use Rattle.helios_model.specs.declared.messages.Message.{Message}
use Rattle.helios_model.specs.declared.transactions.PutItem.{PutItem}
use Rattle.helios_model.specs.Limits.{most_inputs}
use Rattle.helios_model.specs.Spellable.{AreSpellablePuts, IsMessageOf, IsSpellableAsk, IsSpellableEntry, IsSpellableInput, IsSpellableMessage}
use Rattle.helios_model.specs.Texts.{IsKey, IsValue}
use Rattle.helios_model.specs.Transactions.{Asking}
use Rattle.log_records.specs.declared.faults.DecodeFault.{DecodeFault}
use Rattle.log_records.specs.Entries.{IsSpellableBatch, IsWritable, IsWritableInput, ask_at, ask_bytes, batch_bytes, batch_of, entries_at, entry_at, entry_bytes, input_at, input_bytes, pull_at, push_at, request_at}
use Rattle.log_records.specs.Fields.{is_within, each_after}
use Rattle.log_records.specs.Items.{is_given, put_at, put_bytes, puts_at, puts_bytes, reads_bytes}
use Rattle.log_records.specs.Keys.{key_bytes, value_bytes}
use Rattle.log_records.specs.Messages.{message_at, message_bytes}
use Rattle.log_records.proofs.MessageAgain.{alone}
use Rattle.log_records.proofs.Again.{ReadsAgain, byte_again, key_again, list_again, number_again, reads_again, value_again, wide64, within_true}

-- ---- what a client asks for

abbrev pub PutFits : PutItem → Type 0
PutFits p = IsKey p.key × IsValue p.value

put_again : (whole : ℕ) → ReadsAgain (λ p. p.key) put_bytes PutFits (put_at whole)
unfolding put_at
put_again whole before p rest fits fresh =
    ap (put_at whole before) (append_assoc (key_bytes p.key) (value_bytes p.value) rest)
    ∙ rw (key_again (is_given (λ (x : PutItem). x.key) before) whole p.key (value_bytes p.value ++ rest) fits.0 fresh, value_again whole p.value rest fits.1) refl

puts_again : (whole : ℕ) (puts : List PutItem) (rest : List ℕ) → AreSpellablePuts puts → puts_at whole (puts_bytes puts ++ rest) ≡ Ok (puts, rest)
unfolding puts_at
puts_again whole puts rest h = list_again (λ p. p.key) put_bytes PutFits (put_at whole) (put_again whole) whole puts rest h.few h.differ (λ k d lt. (h.keys k d lt, h.values k d lt))

request_again : (whole : ℕ) (ask : Asking) (rest : List ℕ) → IsSpellableAsk ask → request_at whole (ask_bytes ask ++ rest) ≡ Ok (Request ask, rest)
unfolding request_at ask_at
request_again whole ask rest h =
    ap (request_at whole) (append_assoc (reads_bytes ask.reads) (puts_bytes ask.puts) rest)
    ∙ rw (reads_again whole ask.reads (puts_bytes ask.puts ++ rest) h.reads, puts_again whole ask.puts rest h.puts) refl

-- ---- entries

abbrev pub MessagesAgain : Type 0
MessagesAgain = (whole : ℕ) (m : Message) (rest : List ℕ) → IsSpellableMessage m → message_at whole (message_bytes m ++ rest) ≡ Ok (m, rest)

pull_again : (count whole to : ℕ) (rest : List ℕ) → to < count → pull_at count whole (to ∷ rest) ≡ Ok (Pull to, rest)
unfolding pull_at
pull_again count whole to rest here = rw (byte_again (λ b. nat_lt b count) whole to rest (lt-ltb to count here)) refl

same_count : (count n : ℕ) → n ≡ count → is_within count count n ≡ true
same_count count n e = within_true count count n (omega (arith, e)) (omega (arith, e))

push_again : MessagesAgain → (count whole : ℕ) (m : Message) (rest : List ℕ) → IsMessageOf count m → push_at count whole (message_bytes m ++ rest) ≡ Ok (Push m, rest)
unfolding push_at
push_again again count whole m rest h =
    rw (byte_again (is_within count count) whole m.count _ (same_count count m.count h.counted), again whole m rest h.spellable) refl

input_again : MessagesAgain → (count whole : ℕ) (input : Input) (rest : List ℕ) → IsSpellableInput count input → input_at count whole (input_bytes input ++ rest) ≡ Ok (input, rest)
unfolding input_at
input_again again count whole (Get key) rest h = absurd h
input_again again count whole (Status id) rest h = absurd h
input_again again count whole (Request ask) rest h = rw (byte_again (is_within 1 3) whole 1 (ask_bytes ask ++ rest) refl) (request_again whole ask rest h)
input_again again count whole (Pull to) rest h = rw (byte_again (is_within 1 3) whole 2 (to ∷ rest) refl) (pull_again count whole to rest h)
input_again again count whole (Push m) rest h = rw (byte_again (is_within 1 3) whole 3 (message_bytes m ++ rest) refl) (push_again again count whole m rest h)

pub entry_again : MessagesAgain → (count whole : ℕ) (e : Entry) (rest : List ℕ) → IsSpellableEntry count e → entry_at count whole (entry_bytes e ++ rest) ≡ Ok (e, rest)
unfolding entry_at
entry_again again count whole e rest h =
    let low = h.reading in
    ap (entry_at count whole) (append_assoc (to_be_bytes w64 e.reading) (input_bytes e.input) rest)
    ∙ rw (
      number_again w64 (2 ^ 64) wide64 (is_within 0 (2 ^ 64 - 1)) whole e.reading (input_bytes e.input ++ rest) h.reading (within_true 0 (2 ^ 64 - 1) e.reading (omega arith) (omega (arith, low))),
      input_again again count whole e.input rest h.input,
    ) refl

input_writable : (count : ℕ) (input : Input) → IsSpellableInput count input → IsWritableInput input
input_writable count (Get key) h = h
input_writable count (Status id) h = h
input_writable count (Request ask) h = tt
input_writable count (Pull to) h = tt
input_writable count (Push m) h = h.spellable

pub entry_writable : (count : ℕ) (e : Entry) → IsSpellableEntry count e → IsWritable e
entry_writable count e h = input_writable count e.input h.input

pub batch_writable : (count : ℕ) (entries : List Entry) → IsSpellableBatch count entries → All IsWritable entries
batch_writable count entries h = λ k d lt. entry_writable count _ (h.each k d lt)

-- ---- batches

-- items that say nothing of each other
row_again : {X : Type 0} (spelled : X → List ℕ) (Fits : X → Type 0) (item : List ℕ → Result (X × List ℕ) DecodeFault) → ((x : X) (rest : List ℕ) → Fits x → item (spelled x ++ rest) ≡ Ok (x, rest)) → (xs before : List X) (rest : List ℕ) → All Fits xs
    → each_after (λ earlier. item) (length xs) before (flat_map spelled xs ++ rest) ≡ Ok (before ++ xs, rest)
unfolding each_after
row_again {X} spelled Fits item again [] before rest fits = ap (λ (p : List X). Ok (p, rest)) (sym (append-nil before))
row_again {X} spelled Fits item again (x ∷ xs) before rest fits =
    let regrouped : flat_map spelled (x ∷ xs) ++ rest ≡ spelled x ++ (flat_map spelled xs ++ rest) = ap (λ (t : List ℕ). t ++ rest) (flat_map-cons spelled x xs) ∙ append_assoc (spelled x) (flat_map spelled xs) rest in
    let moved : (before ++ x ∷ []) ++ xs ≡ before ++ x ∷ xs = append_assoc before (x ∷ []) xs in
    let first = again x (flat_map spelled xs ++ rest) (All-head Fits x xs fits) in
    let others = row_again spelled Fits item again xs (before ++ x ∷ []) rest (All-tail Fits x xs fits) in
    ap (each_after (λ (earlier : List X). item) (suc (length xs)) before) regrouped ∙ rw (first, others) (ap (λ (p : List X). Ok (p, rest)) moved)

pub entries_again : MessagesAgain → (count whole : ℕ) (entries : List Entry) (rest : List ℕ) → IsSpellableBatch count entries → entries_at count whole (batch_bytes entries ++ rest) ≡ Ok (entries, rest)
unfolding entries_at
entries_again again count whole entries rest h =
    rw (
      byte_again (is_within 1 most_inputs) whole (length entries) (flat_map entry_bytes entries ++ rest) (within_true 1 most_inputs (length entries) h.some h.few),
      row_again entry_bytes (IsSpellableEntry count) (entry_at count whole) (λ e after fits. entry_again again count whole e after fits) entries [] rest h.each,
    ) refl

pub batch_again : MessagesAgain → (count : ℕ) (entries : List Entry) → IsSpellableBatch count entries → batch_of count (batch_bytes entries) ≡ Ok entries
unfolding batch_of
batch_again again count entries h =
    let front = ap (entries_at count (length (batch_bytes entries))) (sym (append-nil (batch_bytes entries))) ∙ entries_again again count (length (batch_bytes entries)) entries [] h in
    rw front refl

-- ---- spellings in front of one another

pub entries_alone : MessagesAgain → (count : ℕ) (e other : Entry) (rest : List ℕ) → IsSpellableEntry count e → IsSpellableEntry count other → entry_bytes other ≡ entry_bytes e ++ rest → (e ≡ other) × (rest ≡ [])
entries_alone again count e other rest h g same =
    let whole = sym (append-nil (entry_bytes other)) in
    alone e other rest [] (entry_at count 0 (entry_bytes e ++ rest)) (entry_again again count 0 e rest h) (ap (entry_at count 0) (sym same ∙ whole) ∙ entry_again again count 0 other [] g)

pub batches_alone : MessagesAgain → (count : ℕ) (entries other : List Entry) (rest : List ℕ) → IsSpellableBatch count entries → IsSpellableBatch count other → batch_bytes other ≡ batch_bytes entries ++ rest → (entries ≡ other) × (rest ≡ [])
batches_alone again count entries other rest h g same =
    let whole = sym (append-nil (batch_bytes other)) in
    alone entries other rest [] (entries_at count 0 (batch_bytes entries ++ rest)) (entries_again again count 0 entries rest h) (ap (entries_at count 0) (sym same ∙ whole) ∙ entries_again again count 0 other [] g)

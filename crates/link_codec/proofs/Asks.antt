-- What is asked for is read as the entry of a journal that has the reading 0.
use Rattle.std.proofs.Common.{◌≡◌, ℕ, ◌+◌, ◌-◌, ◌^◌, ◌<◌, ◌≤◌, List, ◌∷◌, ◌++◌, length, drop, All, Option, Some, Result, Ok, Err, refl, sym, ap, subst, ◌∙◌, arith, length-append}
use Rattle.std.specs.Int.{w64}
use Rattle.std.proofs.lemmas.List.{append_cancel_left}
use Rattle.std.proofs.lemmas.List.Elements.{All-append, All-from_recursion}
use Rattle.helios_model.specs.declared.entries.Entry.{Entry}
use Rattle.helios_model.specs.declared.entries.Input.{Input}
use Rattle.helios_model.specs.declared.entries.Input.TheVariants.{Request}
use Rattle.helios_model.specs.Limits.{most_sites}
use Rattle.helios_model.specs.Spellable.{IsSpellableAsk, IsSpellableEntry}
use Rattle.helios_model.specs.Transactions.{Asking}
use Rattle.log_records.specs.declared.faults.DecodeFault.{DecodeFault}
use Rattle.log_records.specs.declared.faults.DecodeFault.TheVariants.{Cut, Bad, BadDigest, NoMemory}
use Rattle.log_records.specs.Decoding.{Fails}
use Rattle.log_records.specs.Entries.{ask_at, ask_bytes, entry_at, entry_bytes, input_at, request_at}
use Rattle.log_records.specs.Fields.{◌>>=◌, is_within}
use Rattle.link_codec.specs.Asked.{ask_front, asked}
use Rattle.link_codec.specs.Decoding.{Refuses}
use Rattle.link_codec.specs.Faults.{passed}
use Rattle.link_codec.proofs.Again.{byte_again, number_again, wide64, within_true}
use Rattle.link_codec.proofs.Moves.{IsReadAgain, IsSpelled, moved_fault, moved_on}
use Rattle.link_codec.proofs.Steps.{bind_ok, ok_is}
use Rattle.link_codec.proofs.Taken.{AreBytes, all_small}

-- the entry in which this is asked for
abbrev as_entry : Asking × List ℕ → Result (Entry × List ℕ) DecodeFault
as_entry a = Ok (record { reading = 0; input = Request a.0 }, a.1)

abbrev as_input : Asking × List ℕ → Result (Input × List ℕ) DecodeFault
as_input a = Ok (Request a.0, a.1)

abbrev read_first : Input × List ℕ → Result (Entry × List ℕ) DecodeFault
read_first i = Ok (record { reading = 0; input = i.0 }, i.1)

joined : (r : Result (Asking × List ℕ) DecodeFault) → (r >>= as_input >>= read_first) ≡ (r >>= as_entry)
joined (Ok a) = refl
joined (Err fault) = refl

entry_asks : (whole : ℕ) (bytes : List ℕ) → entry_at most_sites whole (ask_front ++ bytes) ≡ (ask_at whole bytes >>= as_entry)
unfolding entry_at input_at request_at
entry_asks whole bytes =
    rw (
      number_again w64 (2 ^ 64) wide64 (is_within 0 (2 ^ 64 - 1)) 0 (1 ∷ bytes) whole (omega arith) (within_true 0 (2 ^ 64 - 1) 0 (omega arith) (omega arith)),
      byte_again (is_within 1 3) 1 bytes whole refl,
    ) (joined (ask_at whole bytes))

abbrev pub EntriesAgain : Type 0
EntriesAgain = (count whole : ℕ) (e : Entry) (rest : List ℕ) → IsSpellableEntry count e → entry_at count whole (entry_bytes e ++ rest) ≡ Ok (e, rest)

abbrev pub EntriesTaken : Type 0
EntriesTaken = (count whole : ℕ) (bytes : List ℕ) (e : Entry) (rest : List ℕ) → All (λ b. b < 256) bytes → entry_at count whole bytes ≡ Ok (e, rest) → IsSpellableEntry count e × (bytes ≡ entry_bytes e ++ rest)

abbrev entry_of : Asking → Entry
entry_of ask = record { reading = 0; input = Request ask }

same_ask : (a b : Asking) → asked (Request a) ≡ asked (Request b) → a ≡ b
same_ask a b e = cc

-- the entry that was read is that of what was read
record Reads (whole : ℕ) (bytes : List ℕ) (e : Entry) (rest : List ℕ) : Type 0 where
  ask : Asking
  read : ask_at whole bytes ≡ Ok (ask, rest)
  is : e ≡ entry_of ask

entry_reads : (whole : ℕ) (bytes : List ℕ) (e : Entry) (rest : List ℕ) → entry_at most_sites whole (ask_front ++ bytes) ≡ Ok (e, rest) → Reads whole bytes e rest
entry_reads whole bytes e rest read =
    let a = bind_ok (ask_at whole bytes) as_entry (e, rest) (sym (entry_asks whole bytes) ∙ read) in
    let made : Entry × List ℕ = (entry_of a.0.0, a.0.1) in
    let y : Entry × List ℕ = (e, rest) in
    let same = ok_is made y a.2 in
    record { ask = a.0.0; read = a.1 ∙ ap (λ (p : Entry × List ℕ). Ok (a.0.0, p.1)) same; is = sym (ap (λ (p : Entry × List ℕ). p.0) same) }

pub asks_again : EntriesAgain → IsReadAgain ask_bytes IsSpellableAsk ask_at
asks_again again whole ask rest h =
    let e = entry_of ask in
    let r = entry_reads whole (ask_bytes ask ++ rest) e rest (again most_sites whole e rest (record { reading = omega arith; input = h })) in
    r.read ∙ ap (λ (a : Asking). Ok (a, rest)) (same_ask r.ask ask (sym (ap (λ (e : Entry). asked e.input) r.is)))

zero_small : 0 < 256
zero_small = omega arith

one_small : 1 < 256
one_small = omega arith

front_small : All (λ b. b < 256) ask_front
front_small =
    let z = zero_small in
    All-from_recursion (λ (b : ℕ). b < 256) ask_front (z, (z, (z, (z, (z, (z, (z, (z, (one_small, tt)))))))))

pub asks_spelled : EntriesTaken → IsSpelled ask_bytes IsSpellableAsk ask_at
asks_spelled taken whole bytes ask rest h read =
    let e = entry_of ask in
    let whole_read : entry_at most_sites whole (ask_front ++ bytes) ≡ Ok (e, rest) = entry_asks whole bytes ∙ ap (λ (r : Result (Asking × List ℕ) DecodeFault). r >>= as_entry) read in
    let t = taken most_sites whole (ask_front ++ bytes) e rest (All-append (λ b. b < 256) ask_front bytes front_small h) whole_read in
    (t.0.input, append_cancel_left ask_front bytes (ask_bytes ask ++ rest) t.1)

-- ---- what an entry's reader says of what is asked for

-- what was asked for, and where it ends
pub record IsAskRead (body : List ℕ) (e : Entry) (n : ℕ) : Type 0 where
  pub ask : Asking
  pub is : asked e.input ≡ Some ask
  pub nine : 9 ≤ n
  pub read : (n - 9 ≤ length body) × (ask_at 0 body ≡ Ok (ask, drop (n - 9) body))

pub ask_read : EntriesAgain → EntriesTaken → (body : List ℕ) → AreBytes body → (bytes : List ℕ) → bytes ≡ ask_front ++ body → (e : Entry) (n : ℕ) (rest : List ℕ) → entry_at most_sites (length bytes) bytes ≡ Ok (e, rest) → n + length rest ≡ length bytes
    → IsAskRead body e n
ask_read again taken body small bytes is e n rest read counted =
    let whole = length bytes in
    let r = entry_reads whole body e rest (ap (entry_at most_sites whole) (sym is) ∙ read) in
    let t = asks_spelled taken whole body r.ask rest (all_small body small) r.read in
    let long = ap length t.1 ∙ length-append (ask_bytes r.ask) rest in
    let nine : length bytes ≡ 9 + length body = ap length is ∙ length-append ask_front body in
    let at : (n - 9) + length rest ≡ length body = omega (arith, counted, nine, long) in
    record {
      ask = r.ask;
      is = ap (λ (e : Entry). asked e.input) r.is;
      nine = omega (arith, counted, nine, long);
      read = moved_on ask_bytes IsSpellableAsk ask_at (asks_again again) (asks_spelled taken) body small whole 0 r.ask rest (n - 9) r.read at;
    }

err_before : (r : Result (Asking × List ℕ) DecodeFault) (fault : DecodeFault) → (r >>= as_entry) ≡ Err fault → r ≡ Err fault
err_before (Ok a) fault e = absurd cc
err_before (Err other) fault e = cc

asks_failed : (whole : ℕ) (bytes : List ℕ) (fault : DecodeFault) → Fails fault (entry_at most_sites whole (ask_front ++ bytes)) → Fails fault (ask_at whole bytes)
asks_failed whole bytes Cut e = err_before (ask_at whole bytes) Cut (sym (entry_asks whole bytes) ∙ e)
asks_failed whole bytes (Bad at) e = err_before (ask_at whole bytes) (Bad at) (sym (entry_asks whole bytes) ∙ e)
asks_failed whole bytes BadDigest e = err_before (ask_at whole bytes) BadDigest (sym (entry_asks whole bytes) ∙ e)
asks_failed whole bytes NoMemory e = tt

pub ask_refused : EntriesAgain → EntriesTaken → (body : List ℕ) → AreBytes body → (bytes : List ℕ) → bytes ≡ ask_front ++ body → (fault : DecodeFault) → Fails fault (entry_at most_sites (length bytes) bytes) → Refuses (passed fault) (ask_at 0 body)
ask_refused again taken body small bytes is fault e =
    let whole = length bytes in
    let here = subst (λ (b : List ℕ). Fails fault (entry_at most_sites whole b)) is e in
    moved_fault ask_bytes IsSpellableAsk ask_at (asks_again again) (asks_spelled taken) body small whole 0 fault (asks_failed whole body fault here)

abbrev pub some_ask : Asking → Option Asking
some_ask a = Some a

pub same_some : (a b : Asking) → some_ask a ≡ some_ask b → a ≡ b
same_some a b e = cc
